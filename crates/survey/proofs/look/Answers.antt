-- `look` makes the checks in their order. Assumes nothing.
use Rattle.survey.specs.Verdict.{shows_damage, shows_unsound, shows_unsealed, shows_sealed}
use Rattle.survey.proofs.look.Goals as goal

pub returns-then-is_damage : goal.returns-then-is_damage
returns-then-is_damage c =
    shows_damage c.args.area c.args.flash.now c.args.handle c.args.needed c.in_ok-run.ensures c.recovery-recovery.ensures c.is_damage.ensures c.if-is_damage.true

pub returns-then-not-summary : goal.returns-then-not-summary
returns-then-not-summary c =
    shows_unsound c.args.area c.args.flash.now c.args.handle c.args.needed c.in_ok-run.ensures c.recovery-recovery.ensures c.is_damage.ensures c.if-is_damage.false c.pass_pages-sought.ensures
    c.if-not-summary.true

pub returns-then-not-is_free-summary : goal.returns-then-not-is_free-summary
returns-then-not-is_free-summary c =
    shows_unsealed c.args.area c.args.flash.now c.args.handle c.args.needed c.in_ok-run.ensures c.recovery-recovery.ensures c.is_damage.ensures c.if-is_damage.false c.pass_pages-sought.ensures
    c.if-not-summary.false c.is_free.ensures c.if-not-is_free-summary.true

pub returns : goal.returns
returns c =
    shows_sealed c.args.area c.args.flash.now c.args.handle c.args.needed c.in_ok-run.ensures c.recovery-recovery.ensures c.is_damage.ensures c.if-is_damage.false c.pass_pages-sought.ensures
    c.if-not-summary.false c.is_free.ensures c.if-not-is_free-summary.false
