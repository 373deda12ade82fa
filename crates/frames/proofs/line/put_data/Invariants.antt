-- `put_data` puts one word behind the other. Assumes nothing.
use Rattle.frames.specs.Lines.{Filling}
use Rattle.frames.proofs.line.put_data.Given as goal

abbrev pub invariant-loop-i : goal.invariant-loop-i
invariant-loop-i l = Filling l.line l.initial.words l.i l.words
