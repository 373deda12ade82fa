-- `write` takes the page with room, or makes it. Assumes nothing.
use Rattle.std.proofs.Common.{rules}
use Rattle.writing.specs.Appending.{appends}
use Rattle.writing.specs.Held.{held_appends}
use Rattle.writing.proofs.write.Goals as goal

pub append-requires : goal.append-requires
append-requires c = search (rules, appends)

pub returns-in-None : goal.returns-in-None
returns-in-None c = search (rules, held_appends)

pub returns-in-Some : goal.returns-in-Some
returns-in-Some c = search (rules, held_appends)
