-- `handles` looks at one entry behind the other. Assumes nothing.
use Rattle.entries.specs.Ahead.{entries_of, left_of}
use Rattle.frames.specs.Saying.{HandlesLeft}
use Rattle.frames.proofs.saying.Pen.handles.Given as goal

abbrev pub invariant-loop-entry : goal.invariant-loop-entry
invariant-loop-entry l =
    (goal.iterator-loop-entry).can_next l.entry-iterator × (goal.iterator-loop-entry).is_finite l.entry-iterator
    × HandlesLeft l.mask l.pattern (entries_of l.fn.run) (left_of l.entry-iterator) l.initial.self l.self
