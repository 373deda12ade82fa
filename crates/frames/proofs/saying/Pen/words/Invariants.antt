-- `words` writes one word behind the other. Assumes nothing.
use Rattle.frames.specs.Saying.{WordsLeft}
use Rattle.frames.proofs.saying.Pen.words.Given as goal

abbrev pub invariant-loop-word : goal.invariant-loop-word
invariant-loop-word l = WordsLeft l.words l.initial.self l.word-index l.self
