-- `put_data` puts one word behind the other. Assumes nothing.
use Rattle.std.proofs.Common.{refl, ◌+◌, ◌*◌, rules}
use Rattle.frames.specs.Numbers.{eight_is}
use Rattle.frames.specs.Lines.{filling_on, filling_end}
use Rattle.frames.proofs.line.put_data.Goals as goal

pub loop-i-preserved : goal.loop-i-preserved
loop-i-preserved c =
    let at = 6 + 8 * c.loop-i.i in
    filling_on c.loop-i.invariant (eight_is c.args.line.now at c.number.ensures.0 refl (search rules)) (search rules)

pub returns : goal.returns
returns c = filling_end c.loop-i.invariant (search rules)
