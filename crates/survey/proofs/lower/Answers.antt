-- `lower` keeps the page that was found first. Assumes nothing.
use Rattle.std.proofs.Common.{rules}
use Rattle.survey.specs.Walking.{firsts}
use Rattle.survey.proofs.lower.Goals as goal

pub returns-then-passes : goal.returns-then-passes
returns-then-passes c = search (rules, firsts)

pub returns : goal.returns
returns c = search (rules, firsts)
