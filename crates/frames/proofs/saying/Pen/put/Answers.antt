-- `put` has three cases, those of `mark`. Assumes nothing.
use Rattle.std.proofs.Common.{refl}
use Rattle.frames.specs.Saying.{put_passed, put_room, put_full}
use Rattle.frames.proofs.saying.Pen.put.Goals as goal

pub returns-then-self-gt0-clause-wrote : goal.returns-then-self-gt0-clause-wrote
returns-then-self-gt0-clause-wrote c = put_passed c.if-self-gt0.true refl refl refl refl

pub returns-then-self-clause-wrote : goal.returns-then-self-clause-wrote
returns-then-self-clause-wrote c = put_full c.if-self-gt0.false c.if-self.true refl refl refl refl

pub returns-clause-wrote : goal.returns-clause-wrote
returns-clause-wrote c = put_room c.if-self-gt0.false c.if-self.false refl refl refl refl
