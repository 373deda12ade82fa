-- `delete` surveys, makes the header of what was found bare, and answers. Assumes nothing.
use Rattle.std.specs.Prelude.{◌≡◌, Ok}
use Rattle.std.proofs.Common.{rules}
use Rattle.rules.specs.Refusals.{bad_handle}
use Rattle.survey.specs.Surveying.{surveyed}
use Rattle.manager.specs.Storing.{delete_ran, deletions}
use Rattle.manager.proofs.delete.Goals as goal

pub returns-then-bad_handle : goal.returns-then-bad_handle
returns-then-bad_handle c = let q : c.survey.result ≡ Ok c.in_ok-view.view = c.in_ok-view.was in search (rules, deletions)

pub returns-in_default : goal.returns-in_default
returns-in_default c = let q : c.survey.result ≡ Ok c.in_ok-view.view = c.in_ok-view.was in search (rules, deletions)

pub bare-rest-requires : goal.bare-rest-requires
bare-rest-requires c = let q : c.survey.result ≡ Ok c.in_ok-view.view = c.in_ok-view.was in search (rules, deletions)

pub answer-requires : goal.answer-requires
answer-requires c = let q : c.survey.result ≡ Ok c.in_ok-view.view = c.in_ok-view.was in search (rules, deletions)

pub returns : goal.returns
returns c =
    let e : c.survey.result ≡ surveyed c.args.area c.args.flash.now c.args.handle 0 = rw c.from-handle.ensures at c.survey.ensures in
    let d : c.bad_handle.result ≡ bad_handle c.args.handle = rw c.from-handle.ensures at c.bad_handle.ensures in
    delete_ran _ c.args.handle _ _ 0 e c.in_ok-view.was d c.if-bad_handle.false c.in-Some.is c.bare-rest.ensures c.full.ensures c.answer.ensures
