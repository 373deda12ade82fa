-- `pass_page` walks a page, and goes on with what the walk has found. Assumes nothing.
use Rattle.std.proofs.Common.{rules}
use Rattle.survey.specs.Passing.{passes}
use Rattle.survey.proofs.pass_page.Goals as goal

pub summary_on-requires : goal.summary_on-requires
summary_on-requires c = search (rules, passes)

pub returns : goal.returns
returns c = search (rules, passes)
