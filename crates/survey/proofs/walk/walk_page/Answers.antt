-- `walk_page` goes from entry to entry as the walk does. Assumes nothing.
use Rattle.std.proofs.Common.{rules}
use Rattle.survey.specs.Walking.{tours}
use Rattle.survey.proofs.walk.walk_page.Goals as goal

pub loop-words-init : goal.loop-words-init
loop-words-init c = search (rules, tours)

pub returns : goal.returns
returns c = search (rules, tours, c.in_default.ensures.none)

pub loop-words-preserved : goal.loop-words-preserved
loop-words-preserved c = search (rules, tours, c.in-Some.ensures.some)
