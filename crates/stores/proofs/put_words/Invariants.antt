-- `put_words` stores word by word. Assumes nothing.
use Rattle.std.proofs.Common.{length, ◌≡◌}
use Rattle.flash.specs.Laws.{Turn}
use Rattle.stores.specs.Making.{put_turn}
use Rattle.stores.proofs.put_words.Given as goal

abbrev pub invariant-loop-i : goal.invariant-loop-i
invariant-loop-i l = (length l.flash ≡ length l.initial.flash) × Turn (put_turn l.at l.words) (length l.words) l.initial.p l.initial.flash l.i l.p l.flash
