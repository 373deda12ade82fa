-- `copy_back` erases and copies. Assumes nothing.
use Rattle.std.proofs.Common.{rules}
use Rattle.flash.specs.Laws.{ran_small}
use Rattle.rules.specs.Places.{right_ran}
use Rattle.compaction.specs.Held.{held_restores}
use Rattle.compaction.proofs.copy_back.Goals as goal

pub copy_words-held-requires : goal.copy_words-held-requires
copy_words-held-requires c = search (rules, held_restores)

pub returns : goal.returns
returns c = search (rules, held_restores)

pub invariant_of-held : goal.invariant_of-held
invariant_of-held c = search (rules, right_ran, ran_small)
