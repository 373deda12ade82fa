-- `blank_from` takes what the words have in common. Assumes nothing.
use Rattle.pages.specs.Kinds.{Blanking}
use Rattle.pages.proofs.blank_from.Given as goal

abbrev pub invariant-loop-word : goal.invariant-loop-word
invariant-loop-word l = Blanking l.words 0 l.word-index l.common
