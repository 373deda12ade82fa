-- `reach` passes over what lies in front of the place. Assumes nothing.
use Rattle.std.proofs.Common.{length}
use Rattle.entries.specs.Ahead.{left_of}
use Rattle.entries.specs.Pages.{Reaching}
use Rattle.entries.proofs.walk.Entries.reach.Given as goal

abbrev pub invariant-loop-entry : goal.invariant-loop-entry
invariant-loop-entry l = (goal.iterator-loop-entry).can_next l.self × (goal.iterator-loop-entry).is_finite l.self × Reaching l.place l.fn.self l.self

abbrev pub decreases-loop-entry : goal.decreases-loop-entry
decreases-loop-entry l = length (left_of l.self)
