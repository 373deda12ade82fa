-- `repeated` marks each live handle of a window. Assumes nothing.
use Rattle.std.proofs.Common.{rules}
use Rattle.entries.specs.Sweeping.{repeating_on}
use Rattle.entries.proofs.doubles.repeated.Goals as goal

pub loop-entry-preserved : goal.loop-entry-preserved
loop-entry-preserved c = (search rules, tt, repeating_on c.loop-entry.invariant.2 c.in-Some.ensures.steps.0 c.mark_in.ensures.before c.if-mark_in.false c.mark_in.ensures.map)
