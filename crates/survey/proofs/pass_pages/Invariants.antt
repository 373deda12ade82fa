-- `pass_pages` goes on behind the page with room, page by page. Assumes nothing.
use Rattle.survey.specs.Passing.{Passing}
use Rattle.survey.proofs.pass_pages.Given as goal

abbrev pub invariant-loop-index : goal.invariant-loop-index
invariant-loop-index l = Passing l.run.area l.run.words.now l.asked l.index l.seen l.summary
