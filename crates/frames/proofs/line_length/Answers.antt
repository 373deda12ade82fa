-- `line_length` looks for the first newline. Assumes nothing.
use Rattle.std.proofs.Common.{◌≡◌, ◌∙◌, ap, rules, tests, length, unwrap_or}
use Rattle.std.proofs.lemmas.Iterator.{YieldsList-from_slice}
use Rattle.std.proofs.lemmas.Iterator.Search.{position_from_yields_List}
use Rattle.frames.specs.Frames.{line_length}
use Rattle.frames.specs.Answering.{is_newline, found_end, end_inside}
use Rattle.frames.proofs.line_length.Goals as goal

pub returns : goal.returns
returns c =
    let t = c.args.text.now in
    let f = position_from_yields_List is_newline _ _ c.position.result c.position.ensures.ran (YieldsList-from_slice t cc) (λ x b q k. search (rules, tests)) in
    let e : c.unwrap_or.result ≡ line_length t = c.unwrap_or.ensures ∙ ap (λ o. unwrap_or o (length t)) f ∙ found_end t in
    (e, end_inside t e)
