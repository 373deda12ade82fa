-- `search` makes its checks in their order and yields what was found. Assumes nothing.
use Rattle.std.specs.Prelude.{◌≡◌, Ok}
use Rattle.std.proofs.Common.{rules}
use Rattle.searching.specs.Searching.{searches}
use Rattle.searching.proofs.search.Goals as goal

pub invariant_of-run : goal.invariant_of-run
invariant_of-run c = let q : c.survey.result ≡ Ok c.in_ok-_ready._ready = c.in_ok-_ready.was in search (rules, searches)

pub returns : goal.returns
returns c = let q : c.survey.result ≡ Ok c.in_ok-_ready._ready = c.in_ok-_ready.was in search (rules, searches)
