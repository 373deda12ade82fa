-- `last_live` goes from entry to entry, and looks at the last one's handle. Assumes nothing.
use Rattle.std.proofs.Common.{length, ◌-◌}
use Rattle.recovery.specs.Last.{Remembering}
use Rattle.recovery.proofs.last_live.Given as goal

abbrev pub invariant-loop-length : goal.invariant-loop-length
invariant-loop-length l = Remembering l.part l.start l.last l.at

abbrev pub decreases-loop-length : goal.decreases-loop-length
decreases-loop-length l = length l.part - l.at
