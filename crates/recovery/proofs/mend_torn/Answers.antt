-- `mend_torn` reads all places first, then makes the last entry bare and seals. Assumes nothing.
use Rattle.std.proofs.Common.{rules}
use Rattle.flash.specs.Laws.{ran_small}
use Rattle.rules.specs.Places.{right_ran}
use Rattle.recovery.specs.Mending.{mends}
use Rattle.recovery.specs.Held.{held_mends}
use Rattle.recovery.proofs.mend_torn.Goals as goal

pub up_to-requires : goal.up_to-requires
up_to-requires c = search (rules, mends)

pub returns : goal.returns
returns c = search (rules, held_mends)

pub invariant_of-held : goal.invariant_of-held
invariant_of-held c = search (rules, right_ran, ran_small)
