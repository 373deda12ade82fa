-- `live_words` sums what the entries count. Assumes nothing.
use Rattle.std.proofs.Common.{length, ◌-◌}
use Rattle.pages.specs.Steps.{Counting}
use Rattle.pages.proofs.live_words.Given as goal

abbrev pub invariant-loop-words : goal.invariant-loop-words
invariant-loop-words l = Counting l.page l.at l.sum

abbrev pub decreases-loop-words : goal.decreases-loop-words
decreases-loop-words l = length l.page - l.at
