-- `moved` looks in the page first. Assumes nothing.
use Rattle.std.proofs.Common.{rules}
use Rattle.writing.specs.Moving.{moves}
use Rattle.writing.proofs.moved.Goals as goal

pub returns : goal.returns
returns c = search (rules, moves)
