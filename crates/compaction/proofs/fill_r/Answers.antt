-- `fill_r` copies, and stores the seal and the metadata. Assumes nothing.
use Rattle.std.proofs.Common.{rules}
use Rattle.compaction.specs.Held.{held_filled}
use Rattle.compaction.proofs.fill_r.Goals as goal

pub returns : goal.returns
returns c = search (rules, held_filled)
