-- `find_ahead` looks at one entry behind the other. Assumes nothing.
use Rattle.std.proofs.Common.{rules}
use Rattle.writing.specs.Moving.{seeks}
use Rattle.writing.proofs.find_ahead.Goals as goal

pub returns-then-handle-eq0 : goal.returns-then-handle-eq0
returns-then-handle-eq0 c = search (rules, seeks)

pub returns : goal.returns
returns c = search (rules, seeks, c.in_default.ensures.none)

pub returns-then-handle_of-handle : goal.returns-then-handle_of-handle
returns-then-handle_of-handle c = search (rules, seeks, c.in-Some.ensures.some)

pub loop-length-preserved : goal.loop-length-preserved
loop-length-preserved c = search (rules, seeks, c.in-Some.ensures.some)
