-- `copy_live` goes from entry to entry. Assumes nothing.
use Rattle.std.proofs.Common.{rules}
use Rattle.flash.specs.Laws.{ran_small}
use Rattle.rules.specs.Places.{right_ran}
use Rattle.compaction.specs.Held.{held_copies}
use Rattle.compaction.proofs.copy_live.Goals as goal

pub loop-length-init : goal.loop-length-init
loop-length-init c = search (rules, held_copies)

pub length_within-requires : goal.length_within-requires
length_within-requires c = search (rules, held_copies)

pub returns : goal.returns
returns c = search (rules, held_copies, c.in_default.ensures.none)

pub copy_words-held-requires : goal.copy_words-held-requires
copy_words-held-requires c = (search (rules, held_copies, c.in-Some.ensures.some), search (rules, held_copies, c.in-Some.ensures.some), search (rules, held_copies, c.in-Some.ensures.some))

pub loop-length-smaller : goal.loop-length-smaller
loop-length-smaller c = search (rules, held_copies, c.in-Some.ensures.some)

pub loop-length-preserved : goal.loop-length-preserved
loop-length-preserved c = search (rules, held_copies, c.in-Some.ensures.some)

pub invariant_of-held : goal.invariant_of-held
invariant_of-held c = search (rules, right_ran, ran_small)
