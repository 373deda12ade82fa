-- `walk_on` tells invalidated entries from live ones. Assumes nothing.
use Rattle.std.proofs.Common.{rules}
use Rattle.survey.specs.Walking.{steps}
use Rattle.survey.proofs.walk.walk_on.Goals as goal

pub returns-then-own-eq0 : goal.returns-then-own-eq0
returns-then-own-eq0 c = search (rules, steps)
