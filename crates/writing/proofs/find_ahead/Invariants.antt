-- `find_ahead` looks at one entry behind the other. Assumes nothing.
use Rattle.std.proofs.Common.{length, ◌-◌}
use Rattle.rules.specs.Areas.{find}
use Rattle.pages.specs.Steps.{entries_at}
use Rattle.writing.specs.Moving.{Locating}
use Rattle.writing.proofs.find_ahead.Given as goal

abbrev pub invariant-loop-length : goal.invariant-loop-length
invariant-loop-length l = Locating l.handle l.run (find l.handle (entries_at l.run l.start)) l.at

abbrev pub decreases-loop-length : goal.decreases-loop-length
decreases-loop-length l = length l.run - l.at
