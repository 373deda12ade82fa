-- `say` writes number, stores, tail and the newline, one behind the other. Assumes nothing.
use Rattle.std.proofs.Common.{refl, rules}
use Rattle.frames.specs.Saying.{says_bytes}
use Rattle.frames.proofs.saying.say.Goals as goal

pub returns : goal.returns
returns c =
    says_bytes c.args.reply c.args.flash.now c.digits.ensures.wrote c.digits-2.ensures.wrote c.tail.ensures.wrote c.put.ensures.wrote refl refl c.from.ensures (search rules)
