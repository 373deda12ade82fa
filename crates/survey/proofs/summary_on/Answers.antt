-- `summary_on` asks of the kind of a page all that is asked of each, and adds up. Assumes nothing.
use Rattle.std.proofs.Common.{rules}
use Rattle.survey.specs.Passing.{summaries}
use Rattle.survey.proofs.summary_on.Goals as goal

pub returns : goal.returns
returns c = search (rules, summaries)
