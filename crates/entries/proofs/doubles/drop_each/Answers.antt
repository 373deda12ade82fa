-- `drop_each` asks of each entry whether its handle is live behind it. Assumes nothing.
use Rattle.entries.specs.Held.{drops_start, drops_fewer, drops_on, drops_end}
use Rattle.entries.proofs.doubles.drop_each.Goals as goal

pub loop-entry-init : goal.loop-entry-init
loop-entry-init c = drops_start c.first-cursor.ensures c.requires

pub loop-entry-smaller : goal.loop-entry-smaller
loop-entry-smaller c = drops_fewer c.loop-entry.invariant c.as_run.ensures c.in-Some.ensures.sound c.in-Some.ensures.gives c.drop_doubled.ensures

pub loop-entry-preserved : goal.loop-entry-preserved
loop-entry-preserved c = drops_on c.loop-entry.invariant c.as_run.ensures c.in-Some.ensures.sound c.in-Some.ensures.gives c.drop_doubled.ensures

pub returns : goal.returns
returns c = drops_end c.loop-entry.invariant c.as_run.ensures c.in_default.ensures.gives.0
