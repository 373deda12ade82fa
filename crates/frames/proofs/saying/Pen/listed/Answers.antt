-- `listed` cuts the run, tests its geometry and writes what there is. Assumes nothing.
use Rattle.frames.specs.Saying.{handles_listed}
use Rattle.frames.proofs.saying.Pen.listed.Goals as goal

pub returns-clause-wrote : goal.returns-clause-wrote
returns-clause-wrote c =
    handles_listed c.args.shape c.args.flash.now c.args.mask c.args.pattern c.area.ensures c.run_of.ensures c.in-Ok.ensures c.handles.ensures.wrote c.from.ensures c.from-2.ensures
