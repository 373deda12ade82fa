-- `store` is one store: without power nothing; with power the common bits, or nothing outside the flash. Assumes nothing.
use Rattle.std.proofs.Common.{arith, refl, sym}
use Rattle.flash.specs.Stores.{stored}
use Rattle.flash.specs.Laws.{ran_dry, ran_one, stored_out}
use Rattle.flash.proofs.store.Goals as goal

pub returns-then-power-eq0 : goal.returns-then-power-eq0
returns-then-power-eq0 c = search ran_dry

pub returns-then-at-flash : goal.returns-then-at-flash
unfolding stored
returns-then-at-flash c = ran_one (omega arith) c.spend-next.ensures refl

pub returns-else-at-flash : goal.returns-else-at-flash
returns-else-at-flash c = ran_one (omega arith) c.spend-next.ensures (sym (stored_out c.args.flash.now _ _ c.if-at-flash.false))
