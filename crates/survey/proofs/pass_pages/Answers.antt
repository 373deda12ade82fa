-- `pass_pages` goes on behind the page with room, page by page. Assumes nothing.
use Rattle.std.proofs.Common.{rules}
use Rattle.survey.specs.Passing.{passes}
use Rattle.survey.proofs.pass_pages.Goals as goal

pub returns : goal.returns
returns c = search (rules, passes)
