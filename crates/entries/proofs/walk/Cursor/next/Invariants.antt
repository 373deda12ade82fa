-- `next` turns to the next page where one has no entry left. Assumes nothing.
use Rattle.entries.specs.Ahead.{Turning}
use Rattle.entries.proofs.walk.Cursor.next.Given as goal

abbrev pub invariant-loop-length : goal.invariant-loop-length
invariant-loop-length l = Turning l.run.area l.run.words.now l.fn.self l.self

abbrev pub decreases-loop-length : goal.decreases-loop-length
decreases-loop-length l = l.self.left
