-- `append_compacted` goes to the page that the view names. Assumes nothing.
use Rattle.std.proofs.Common.{rules}
use Rattle.writing.specs.Appending.{appends}
use Rattle.writing.specs.Held.{held_appends}
use Rattle.writing.proofs.append_compacted.Goals as goal

pub compact_and_append-requires : goal.compact_and_append-requires
compact_and_append-requires c = search (rules, appends)

pub returns-in-None : goal.returns-in-None
returns-in-None c = search (rules, held_appends)

pub returns-in-Some : goal.returns-in-Some
returns-in-Some c = search (rules, held_appends)
