-- `number` reads one digit behind the other. Assumes nothing.
use Rattle.frames.specs.Numbers.{Counted}
use Rattle.frames.proofs.line.number.Given as goal

abbrev pub invariant-loop-digit : goal.invariant-loop-digit
invariant-loop-digit l = Counted l.digits l.digit-index l.sum
