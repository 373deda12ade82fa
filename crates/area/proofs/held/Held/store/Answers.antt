-- `store` leaves the run's length, and its words 32-bit words. Assumes nothing.
use Rattle.flash.specs.Laws.{ran_small}
use Rattle.rules.specs.Places.{right_ran}
use Rattle.area.proofs.held.Held.store.Goals as goal

pub invariant_of-self : goal.invariant_of-self
invariant_of-self c =
    record { right = right_ran c.store-self.ensures c.args.self.now.right; sized = ran_small c.store-self.ensures c.args.self.now.sized }
