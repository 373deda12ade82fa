-- `erase` is one store: without power nothing, with power what `fill` leaves. Assumes nothing.
use Rattle.std.proofs.Common.{arith}
use Rattle.flash.specs.Laws.{ran_dry, ran_one}
use Rattle.flash.proofs.erase.Goals as goal

pub returns-then-power-gt0 : goal.returns-then-power-gt0
returns-then-power-gt0 c = search ran_one

pub returns-else-power-gt0 : goal.returns-else-power-gt0
returns-else-power-gt0 c = ran_dry (omega arith) c.spend-rest.ensures
