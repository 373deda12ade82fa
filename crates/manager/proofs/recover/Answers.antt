-- `recover` looks, makes the stores that are left, and answers. Assumes nothing.
use Rattle.std.specs.Prelude.{◌≡◌, Some, None, Ok}
use Rattle.std.proofs.Common.{ap, ◌∙◌, rules}
use Rattle.manager.specs.Storing.{recoveries, recover_unsealed, recover_sealed}
use Rattle.manager.specs.Held.{held_less, recover_ended, drops_ended}
use Rattle.manager.proofs.recover.Goals as goal

pub new-held-requires : goal.new-held-requires
new-held-requires c = let q : c.look.result ≡ Ok None = c.in_ok-looked.was ∙ ap Ok c.in-None.is in search (rules, recoveries)

pub answer-requires : goal.answer-requires
answer-requires c = search (rules, held_less)

pub new-held-requires-in-Some : goal.new-held-requires-in-Some
new-held-requires-in-Some c = let q : c.look.result ≡ Ok (Some c.in-Some.sight) = c.in_ok-looked.was ∙ ap Ok c.in-Some.is in search (rules, recoveries)

pub drop_in-requires : goal.drop_in-requires
drop_in-requires c = let q : c.look.result ≡ Ok (Some c.in-Some.sight) = c.in_ok-looked.was ∙ ap Ok c.in-Some.is in search (rules, recoveries)

pub answer-requires-in-Some : goal.answer-requires-in-Some
answer-requires-in-Some c = search (rules, held_less)

pub returns-in-None : goal.returns-in-None
returns-in-None c =
    recover_unsealed c.args.area c.args.power c.args.flash.now 0 0 c.look.ensures (c.in_ok-looked.was ∙ ap Ok c.in-None.is)
    (recover_ended c.new-held.ensures.held c.recover.ensures (search rules)) c.full.ensures c.answer.ensures

pub returns-in-Some : goal.returns-in-Some
returns-in-Some c =
    recover_sealed c.args.area c.args.power c.args.flash.now 0 0 c.look.ensures (c.in_ok-looked.was ∙ ap Ok c.in-Some.is)
    (drops_ended c.new-held-in-Some.ensures.held c.drop_in.ensures (search rules)) c.full-in-Some.ensures c.answer-in-Some.ensures
