-- `kept` keeps what was found first. Assumes nothing.
use Rattle.std.proofs.Common.{rules}
use Rattle.survey.specs.Walking.{firsts}
use Rattle.survey.proofs.walk.kept.Goals as goal

pub returns-then-not-wanted : goal.returns-then-not-wanted
returns-then-not-wanted c = search (rules, firsts)

pub returns : goal.returns
returns c = search (rules, firsts)
