-- `stop` goes from entry to entry as the walk does. Assumes nothing.
use Rattle.std.proofs.Common.{length, ◌-◌}
use Rattle.pages.specs.Steps.{Walking}
use Rattle.pages.proofs.stop.Given as goal

abbrev pub invariant-loop-length : goal.invariant-loop-length
invariant-loop-length l = Walking l.page l.at

abbrev pub decreases-loop-length : goal.decreases-loop-length
decreases-loop-length l = length l.page - l.at
