-- `finish_page` copies as far as the walk of R goes. Assumes nothing.
use Rattle.std.proofs.Common.{rules}
use Rattle.recovery.specs.Finishing.{finishes}
use Rattle.recovery.proofs.finish_page.Goals as goal

pub overflow_sub-stop : goal.overflow_sub-stop
overflow_sub-stop c = search (rules, finishes)

pub restore-requires : goal.restore-requires
restore-requires c = search (rules, finishes)
