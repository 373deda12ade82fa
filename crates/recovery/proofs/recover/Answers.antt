-- `recover` makes one step behind the other. Assumes nothing.
use Rattle.std.proofs.Common.{rules}
use Rattle.recovery.specs.Held.{held_recovered}
use Rattle.recovery.proofs.recover.Goals as goal

pub returns : goal.returns
returns c = search (rules, held_recovered)
