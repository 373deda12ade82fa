-- `format_pages` goes from page to page. Assumes nothing.
use Rattle.std.proofs.Common.{rules}
use Rattle.stores.specs.Held.{held_makings}
use Rattle.stores.proofs.format_pages.Goals as goal

pub loop-index-init : goal.loop-index-init
loop-index-init c = search (rules, held_makings)

pub loop-index-preserved : goal.loop-index-preserved
loop-index-preserved c = search (rules, held_makings)

pub returns : goal.returns
returns c = search (rules, held_makings)
