-- `mend_pages` goes from page to page. Assumes nothing.
use Rattle.std.proofs.Common.{rules}
use Rattle.recovery.specs.Held.{held_mends}
use Rattle.recovery.proofs.mend_pages.Goals as goal

pub loop-index-init : goal.loop-index-init
loop-index-init c = search (rules, held_mends)

pub loop-index-preserved : goal.loop-index-preserved
loop-index-preserved c = search (rules, held_mends)

pub returns : goal.returns
returns c = search (rules, held_mends)
