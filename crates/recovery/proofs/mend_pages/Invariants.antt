-- `mend_pages` goes from page to page. Assumes nothing.
use Rattle.rules.specs.Lists.{mend}
use Rattle.area.specs.Holding.{Going}
use Rattle.recovery.proofs.mend_pages.Given as goal

abbrev pub invariant-loop-index : goal.invariant-loop-index
invariant-loop-index l = Going (mend l.initial.held.area) l.initial.held.area.pages l.initial.held l.index l.held
