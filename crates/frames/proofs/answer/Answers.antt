-- `answer` says what the line's reply is, of the flash that the line leaves. Assumes nothing.
use Rattle.std.proofs.Common.{rules}
use Rattle.frames.specs.Answering.{responds}
use Rattle.frames.proofs.answer.Goals as goal

pub returns : goal.returns
returns c = responds c.args.flash.now c.args.line.now c.carry-reply.ensures.carries c.say-said.ensures (search rules)
