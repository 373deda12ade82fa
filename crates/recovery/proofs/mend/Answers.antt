-- `mend` mends by the page's kind. Assumes nothing.
use Rattle.std.proofs.Common.{rules}
use Rattle.recovery.specs.Held.{held_mends}
use Rattle.recovery.proofs.mend.Goals as goal

pub returns-in-Sealed : goal.returns-in-Sealed
returns-in-Sealed c = search (rules, held_mends)

pub returns-in-Neither : goal.returns-in-Neither
returns-in-Neither c = search (rules, held_mends)
