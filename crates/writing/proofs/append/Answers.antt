-- `append` goes to where the walk of the page stops. Assumes nothing.
use Rattle.std.proofs.Common.{rules}
use Rattle.flash.specs.Laws.{ran_small}
use Rattle.rules.specs.Places.{right_ran}
use Rattle.stores.specs.Making.{places}
use Rattle.writing.specs.Appending.{appends}
use Rattle.writing.specs.Held.{held_appends}
use Rattle.writing.proofs.append.Goals as goal

pub overflow_add-at : goal.overflow_add-at
overflow_add-at c = search (rules, appends, places)

pub put_entry-held-requires : goal.put_entry-held-requires
put_entry-held-requires c = search (rules, appends, places)

pub returns : goal.returns
returns c = search (rules, held_appends)

pub invariant_of-held : goal.invariant_of-held
invariant_of-held c = search (rules, right_ran, ran_small)

pub invariant_of-held-2 : goal.invariant_of-held-2
invariant_of-held-2 c = search (rules, right_ran, ran_small)
