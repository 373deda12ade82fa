-- `make` makes each request on the run. Assumes nothing.
use Rattle.std.proofs.Common.{ap}
use Rattle.frames.specs.Requests.{meant, run_made}
use Rattle.frames.proofs.requests.make.Goals as goal

pub returns-in-Recover : goal.returns-in-Recover
returns-in-Recover c = run_made c.run_end-end.ensures c.args.request c.recover.ensures c.area-area.ensures (ap meant c.in-Recover.is)
