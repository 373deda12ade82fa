-- `suspects` notes each live handle. Assumes nothing.
use Rattle.entries.specs.Ahead.{entries_of, left_of}
use Rattle.entries.specs.Noting.{kept}
use Rattle.entries.specs.Sweeping.{Hearing}
use Rattle.entries.proofs.doubles.suspects.Given as goal

abbrev pub invariant-loop-entry : goal.invariant-loop-entry
invariant-loop-entry l = (goal.iterator-loop-entry).can_next l.entry-iterator × (goal.iterator-loop-entry).is_finite l.entry-iterator × Hearing (entries_of l.fn.run) (left_of l.entry-iterator) l.seen.map (kept l.seen)
