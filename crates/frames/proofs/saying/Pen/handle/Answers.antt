-- `handle` writes the digits, or nothing. Assumes nothing.
use Rattle.frames.specs.Saying.{handle_passed}
use Rattle.frames.proofs.saying.Pen.handle.Goals as goal

pub returns-then-passes-clause-wrote : goal.returns-then-passes-clause-wrote
returns-then-passes-clause-wrote c = handle_passed c.args.mask c.args.pattern c.args.handle c.passes.ensures c.if-passes.true c.digits.ensures.wrote
