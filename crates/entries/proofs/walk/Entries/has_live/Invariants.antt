-- `has_live` looks at one entry behind the other. Assumes nothing.
use Rattle.entries.specs.Ahead.{left_of, Living}
use Rattle.entries.proofs.walk.Entries.has_live.Given as goal

abbrev pub invariant-loop-entry : goal.invariant-loop-entry
invariant-loop-entry l = (goal.iterator-loop-entry).can_next l.entry-iterator × (goal.iterator-loop-entry).is_finite l.entry-iterator × Living l.handle (left_of l.fn.self) (left_of l.entry-iterator)
