-- `find_in` looks from word 2 of the page on. Assumes nothing.
use Rattle.std.proofs.Common.{rules}
use Rattle.writing.specs.Moving.{moves}
use Rattle.writing.proofs.find_in.Goals as goal

pub up_to-words-requires : goal.up_to-words-requires
up_to-words-requires c = search (rules, moves)

pub returns : goal.returns
returns c = search (rules, moves)
