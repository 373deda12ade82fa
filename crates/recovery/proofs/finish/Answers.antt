-- `finish` does what R asks for. Assumes nothing.
use Rattle.std.proofs.Common.{rules}
use Rattle.recovery.specs.Finishing.{finishes}
use Rattle.recovery.specs.Held.{held_finishes}
use Rattle.recovery.proofs.finish.Goals as goal

pub finish_page-requires : goal.finish_page-requires
finish_page-requires c = search (rules, finishes)

pub returns-in-Free : goal.returns-in-Free
returns-in-Free c = search (rules, held_finishes)

pub returns-in-Damage : goal.returns-in-Damage
returns-in-Damage c = search (rules, held_finishes)
