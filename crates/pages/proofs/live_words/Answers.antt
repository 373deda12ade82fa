-- `live_words` sums what the entries count. Assumes nothing.
use Rattle.std.proofs.Common.{rules}
use Rattle.pages.specs.Steps.{counts}
use Rattle.pages.proofs.live_words.Goals as goal

pub returns-then-page-lt2 : goal.returns-then-page-lt2
returns-then-page-lt2 c = search (rules, counts)

pub loop-words-init : goal.loop-words-init
loop-words-init c = search (rules, counts)

pub loop-words-preserved : goal.loop-words-preserved
loop-words-preserved c = search (rules, counts, c.in-Some.ensures.some)

pub returns : goal.returns
returns c = search (rules, counts, c.in_default.ensures.none)
