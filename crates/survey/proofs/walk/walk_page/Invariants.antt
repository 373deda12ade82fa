-- `walk_page` goes from entry to entry as the walk does. Assumes nothing.
use Rattle.std.proofs.Common.{length, ◌-◌}
use Rattle.survey.specs.Walking.{Touring}
use Rattle.survey.proofs.walk.walk_page.Given as goal

abbrev pub invariant-loop-words : goal.invariant-loop-words
invariant-loop-words l = Touring l.page l.base l.handle l.initial.seen l.initial.walk.found l.walk l.seen

abbrev pub decreases-loop-words : goal.decreases-loop-words
decreases-loop-words l = length l.page - l.walk.stop
