-- `tell_rest` prints one piece behind the other. Assumes nothing.
use Rattle.frames.specs.Frames.{bytes}
use Rattle.console.specs.Telling.{left, Telling}
use Rattle.console.proofs.Console.tell_rest.Given as goal

abbrev pub invariant-loop-said : goal.invariant-loop-said
invariant-loop-said g l = Telling l.reply l.self.flash l.self.out l.at

abbrev pub decreases-loop-said : goal.decreases-loop-said
decreases-loop-said g l = left (bytes l.reply l.self.flash) l.at l.said.more
