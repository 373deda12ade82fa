-- `format_pages` goes from page to page. Assumes nothing.
use Rattle.rules.specs.Lists.{format_page}
use Rattle.area.specs.Holding.{Going}
use Rattle.stores.proofs.format_pages.Given as goal

abbrev pub invariant-loop-index : goal.invariant-loop-index
invariant-loop-index l = Going (format_page l.initial.held.area) l.initial.held.area.pages l.initial.held l.index l.held
