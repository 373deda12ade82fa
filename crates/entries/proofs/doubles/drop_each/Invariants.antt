-- `drop_each` asks of each entry whether its handle is live behind it. Assumes nothing.
use Rattle.std.proofs.Common.{length}
use Rattle.entries.specs.Ahead.{ahead}
use Rattle.entries.specs.Held.{Drops}
use Rattle.entries.proofs.doubles.drop_each.Given as goal

abbrev pub invariant-loop-entry : goal.invariant-loop-entry
invariant-loop-entry l = Drops l.only l.initial.held l.cursor l.held

abbrev pub decreases-loop-entry : goal.decreases-loop-entry
decreases-loop-entry l = length (ahead l.initial.held.area l.held.run.now l.cursor)
