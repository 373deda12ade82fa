-- `spend` leaves what one store leaves. Assumes nothing.
use Rattle.flash.specs.Laws.{spent_dry, spent_one}
use Rattle.flash.proofs.Power.spend.Goals as goal

pub returns-then-self-eq0 : goal.returns-then-self-eq0
returns-then-self-eq0 c = search spent_dry

pub returns-else-self-eq0 : goal.returns-else-self-eq0
returns-else-self-eq0 c = search spent_one
