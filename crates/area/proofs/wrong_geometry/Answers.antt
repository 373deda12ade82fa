-- `wrong_geometry` tests pages, page size and length as the rule does. Assumes nothing.
use Rattle.std.specs.Prelude.{◌≤◌}
use Rattle.std.proofs.Common.{rules}
use Rattle.area.specs.Checks.{geometries}
use Rattle.area.proofs.wrong_geometry.Goals as goal

pub returns-in-Some : goal.returns-in-Some
returns-in-Some c =
    let l : 1 ≤ c.args.area.pages = search rules in
    let h : c.args.area.pages ≤ 255 = search rules in
    search (rules, geometries)
