-- `last_live` goes from entry to entry, and looks at the last one's handle. Assumes nothing.
use Rattle.std.proofs.Common.{rules}
use Rattle.recovery.specs.Mending.{last_live, passes}
use Rattle.recovery.specs.Last.{remembering_on, remembered, nothing_remembered}
use Rattle.recovery.proofs.last_live.Goals as goal

pub loop-length-preserved : goal.loop-length-preserved
loop-length-preserved c = remembering_on c.loop-length.last c.loop-length.invariant c.in-Some.ensures.some.0 c.in-Some.ensures.some.1

pub returns-in_default-last : goal.returns-in_default-last
returns-in_default-last c = search (rules, passes, nothing_remembered c.loop-length.invariant c.in_default-last.is, c.in_default.ensures.none)

pub returns-then-handle_of-eq0 : goal.returns-then-handle_of-eq0
returns-then-handle_of-eq0 c = search (rules, passes, remembered c.loop-length.invariant c.in-Some-last.is, c.in_default.ensures.none)

pub returns : goal.returns
returns c =
    let s = remembered c.loop-length.invariant c.in-Some-last.is in
    (search (last_live s.0 c.in_default.ensures.none, s.1), search (rules, s.0.inside))
