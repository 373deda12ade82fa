-- `tell_rest` prints one piece behind the other. Assumes nothing.
use Rattle.console.specs.Telling.{telling_counted}
use Rattle.console.proofs.Console.tell_rest.Goals as goal

pub overflow_add-at : goal.overflow_add-at
overflow_add-at g c = telling_counted c.loop-said.invariant c.say-said.ensures
