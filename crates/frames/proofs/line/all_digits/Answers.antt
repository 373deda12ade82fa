-- `all_digits` asks of each byte whether it is a digit. Assumes nothing.
use Rattle.std.proofs.Common.{◌∙◌, rules, tests}
use Rattle.std.proofs.lemmas.Iterator.{YieldsList-from_slice}
use Rattle.std.proofs.lemmas.Iterator.Search.{all_from_yields_List}
use Rattle.frames.specs.Frames.{is_digit}
use Rattle.frames.specs.Lines.{all_are}
use Rattle.frames.proofs.line.all_digits.Goals as goal

pub returns : goal.returns
returns c =
    let xs = c.args.line.now in
    all_from_yields_List is_digit _ _ _ c.all.ensures.ran (YieldsList-from_slice xs cc) (λ x b q k. search (rules, tests)) ∙ all_are xs
