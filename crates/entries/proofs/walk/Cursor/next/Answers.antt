-- `next` turns to the next page where one has no entry left. Assumes nothing.
use Rattle.std.specs.Prelude.{refl}
use Rattle.entries.specs.Ahead.{turning_on}
use Rattle.entries.proofs.walk.Cursor.next.Goals as goal

pub loop-length-preserved : goal.loop-length-preserved
loop-length-preserved c = turning_on c.loop-length.invariant c.up_to.ensures c.in_default.ensures.none refl c.args.run.right c.if-self-eq0.false
