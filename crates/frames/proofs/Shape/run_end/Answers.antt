-- `run_end` takes the lesser of the run's words and the flash's. Assumes nothing.

use Rattle.frames.specs.Shapes.{end_least}
use Rattle.frames.proofs.Shape.run_end.Goals as goal

pub returns : goal.returns
returns c = end_least c.args.self c.args.flash.now c.run_words.ensures c.min.ensures
