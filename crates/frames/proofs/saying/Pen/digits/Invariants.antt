-- `digits` writes one digit behind the other. Assumes nothing.
use Rattle.frames.specs.Saying.{DigitsLeft}
use Rattle.frames.proofs.saying.Pen.digits.Given as goal

abbrev pub invariant-loop-place : goal.invariant-loop-place
invariant-loop-place g l = DigitsLeft g.row.COUNT l.number l.initial.self l.place l.self
