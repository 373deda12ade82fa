-- `copy_live` goes from entry to entry. Assumes nothing.
use Rattle.std.proofs.Common.{◌+◌, ◌-◌}
use Rattle.compaction.specs.Held.{Copied}
use Rattle.compaction.proofs.copy_live.Given as goal

abbrev pub invariant-loop-length : goal.invariant-loop-length
invariant-loop-length l = Copied l.index l.initial.held l.at l.to l.held

abbrev pub decreases-loop-length : goal.decreases-loop-length
decreases-loop-length l = l.start + l.area.words - l.at
