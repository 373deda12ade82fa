-- `restore` copies back, stores the metadata, and erases R. Assumes nothing.
use Rattle.std.proofs.Common.{rules}
use Rattle.compaction.specs.Held.{held_restores}
use Rattle.compaction.proofs.restore.Goals as goal

pub returns : goal.returns
returns c = search (rules, held_restores)
