-- `read` surveys, and answers what was found. Assumes nothing.
use Rattle.std.specs.Prelude.{◌≡◌, Ok}
use Rattle.std.proofs.Common.{rules}
use Rattle.manager.specs.Reading.{reads}
use Rattle.manager.proofs.read.Goals as goal

pub returns-then-bad_handle : goal.returns-then-bad_handle
returns-then-bad_handle c = let q : c.survey.result ≡ Ok c.in_ok-view.view = c.in_ok-view.was in search (rules, reads)

pub returns : goal.returns
returns c = let q : c.survey.result ≡ Ok c.in_ok-view.view = c.in_ok-view.was in search (rules, reads)
