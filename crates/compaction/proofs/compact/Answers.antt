-- `compact` counts, fills R, and restores the page. Assumes nothing.
use Rattle.std.proofs.Common.{rules}
use Rattle.compaction.specs.Held.{held_compactions}
use Rattle.compaction.proofs.compact.Goals as goal

pub restore-requires : goal.restore-requires
restore-requires c = (search rules, search (rules, held_compactions))

pub returns : goal.returns
returns c = search (rules, held_compactions)
