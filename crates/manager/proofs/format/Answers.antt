-- `format` checks, formats, and answers. Assumes nothing.
use Rattle.std.proofs.Common.{rules}
use Rattle.manager.specs.Storing.{formats, format_ran}
use Rattle.manager.specs.Held.{held_less, format_ended}
use Rattle.manager.proofs.format.Goals as goal

pub new-held-requires : goal.new-held-requires
new-held-requires c = search (rules, formats)

pub answer-requires : goal.answer-requires
answer-requires c = search (rules, held_less)

pub returns : goal.returns
returns c =
    format_ran c.args.area c.args.power c.args.flash.now c.wrong_geometry.ensures c.if-wrong_geometry.false
    (format_ended c.new-held.ensures.held c.format.ensures (search rules)) c.full.ensures c.answer.ensures
