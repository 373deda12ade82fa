-- `compact_and_append` appends to the page that it compacts. Assumes nothing.
use Rattle.std.proofs.Common.{rules}
use Rattle.writing.specs.Appending.{appends}
use Rattle.writing.specs.Held.{held_appends}
use Rattle.writing.proofs.compact_and_append.Goals as goal

pub moved-old-requires : goal.moved-old-requires
moved-old-requires c = search (rules, appends)

pub returns : goal.returns
returns c = search (rules, held_appends)
