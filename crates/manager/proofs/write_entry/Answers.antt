-- `write_entry` compares, checks the quota, writes, and answers. Assumes nothing.
use Rattle.std.proofs.Common.{rules}
use Rattle.manager.specs.Storing.{rests, rest_ran}
use Rattle.manager.specs.Held.{held_less, write_ended}
use Rattle.manager.proofs.write_entry.Goals as goal

pub has_words-requires : goal.has_words-requires
has_words-requires c = search (rules, rests)

pub returns-then-has_words : goal.returns-then-has_words
returns-then-has_words c = search (rules, rests)

pub returns-then-is_full : goal.returns-then-is_full
returns-then-is_full c = search (rules, rests)

pub answer-requires : goal.answer-requires
answer-requires c = search (rules, held_less)

pub returns : goal.returns
returns c =
    rest_ran c.args.area c.args.handle c.args.data.now c.args.power c.args.flash.now c.requires.0 c.requires.2 c.has_words.ensures c.if-has_words.false c.is_full.ensures c.if-is_full.false
    (write_ended c.new-held.ensures.held c.args.handle c.args.data.now c.write.ensures (search rules)) c.full.ensures c.answer.ensures
