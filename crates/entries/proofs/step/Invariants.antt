-- `step` looks at one entry behind the other. Assumes nothing.
use Rattle.rules.specs.Search.{next, bad_place}
use Rattle.entries.specs.Ahead.{left_of}
use Rattle.entries.specs.Step.{Stepping}
use Rattle.entries.proofs.step.Given as goal

abbrev pub invariant-loop-entry : goal.invariant-loop-entry
invariant-loop-entry l = (goal.iterator-loop-entry).can_next l.entry-iterator × (goal.iterator-loop-entry).is_finite l.entry-iterator × Stepping l.mask l.pattern (bad_place l.fn.run.area l.fn.run.words.now l.fn.start) (next l.fn.run.area l.fn.run.words.now l.mask l.pattern l.fn.start) (left_of l.entry-iterator)
