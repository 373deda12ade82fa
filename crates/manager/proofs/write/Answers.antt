-- `write` surveys, checks, and goes on with the rest. Assumes nothing.
use Rattle.std.specs.Prelude.{◌≡◌, Ok}
use Rattle.std.proofs.Common.{rules}
use Rattle.manager.specs.Storing.{writes}
use Rattle.manager.proofs.write.Goals as goal

pub returns-then-bad_handle : goal.returns-then-bad_handle
returns-then-bad_handle c = let q : c.survey.result ≡ Ok c.in_ok-view.view = c.in_ok-view.was in search (rules, writes)

pub returns-then-data-gt32 : goal.returns-then-data-gt32
returns-then-data-gt32 c = let q : c.survey.result ≡ Ok c.in_ok-view.view = c.in_ok-view.was in search (rules, writes)

pub write_entry-requires : goal.write_entry-requires
write_entry-requires c = let q : c.survey.result ≡ Ok c.in_ok-view.view = c.in_ok-view.was in (search (rules, writes), search (rules, writes), search (rules, writes), search rules, search rules)

pub returns : goal.returns
returns c = let q : c.survey.result ≡ Ok c.in_ok-view.view = c.in_ok-view.was in search (rules, writes)
