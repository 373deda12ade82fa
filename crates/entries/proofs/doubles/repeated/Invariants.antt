-- `repeated` marks each live handle of a window. Assumes nothing.
use Rattle.rules.specs.Areas.{entries}
use Rattle.entries.specs.Ahead.{left_of}
use Rattle.entries.specs.Noting.{beside}
use Rattle.entries.specs.Sweeping.{Repeating}
use Rattle.entries.proofs.doubles.repeated.Given as goal

abbrev pub invariant-loop-entry : goal.invariant-loop-entry
invariant-loop-entry l = (goal.iterator-loop-entry).can_next l.entry-iterator × (goal.iterator-loop-entry).is_finite l.entry-iterator × Repeating (beside l.aside) l.window (entries l.fn.area l.fn.words) (left_of l.entry-iterator) l.map
