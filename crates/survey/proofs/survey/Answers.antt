-- `survey` looks, and looks for a handle that is live twice. Assumes nothing.
use Rattle.std.specs.Prelude.{◌≡◌, Some, None, Ok}
use Rattle.std.proofs.Common.{ap, ◌∙◌, rules}
use Rattle.survey.specs.Verdict.{verdicts}
use Rattle.survey.proofs.survey.Goals as goal

pub returns-in_err-sight : goal.returns-in_err-sight
returns-in_err-sight c = search (rules, verdicts)

pub returns-in_default : goal.returns-in_default
returns-in_default c = let q : c.look.result ≡ Ok None = c.in_ok-sight.was ∙ ap Ok c.in_default.is in search (rules, verdicts)

pub invariant_of-run : goal.invariant_of-run
invariant_of-run c = let q : c.look.result ≡ Ok (Some c.in-Some.sight) = c.in_ok-sight.was ∙ ap Ok c.in-Some.is in search (rules, verdicts)

pub confirmed-requires : goal.confirmed-requires
confirmed-requires c = let q : c.look.result ≡ Ok (Some c.in-Some.sight) = c.in_ok-sight.was ∙ ap Ok c.in-Some.is in search (rules, verdicts)

pub returns-then-confirmed : goal.returns-then-confirmed
returns-then-confirmed c = let q : c.look.result ≡ Ok (Some c.in-Some.sight) = c.in_ok-sight.was ∙ ap Ok c.in-Some.is in search (rules, verdicts)

pub returns : goal.returns
returns c = let q : c.look.result ≡ Ok (Some c.in-Some.sight) = c.in_ok-sight.was ∙ ap Ok c.in-Some.is in search (rules, verdicts)
