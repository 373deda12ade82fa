-- Three steps of a search: document 01, "Search", by the definitions of `rules`. Definitions alone. Assumes nothing.
use Rattle.std.specs.Prelude.{List, ℕ}
use Rattle.rules.specs.declared.Area.{Area}
use Rattle.rules.specs.Search.{Search, step_of, moved}
use Rattle.steps.specs.declared.Steps.{Steps}

-- what each step yields, the next one being made where the one before has moved to, and the place behind the last
abbrev pub three_of : Search → Steps
three_of s = record { first = step_of s; second = step_of (moved s); third = step_of (moved (moved s)); reached = (moved (moved (moved s))).place }

-- of a search that is opened on a run, behind a place
abbrev pub three_steps : List ℕ → Area → ℕ → ℕ → ℕ → Steps
three_steps run area mask pattern place = three_of (record { area = area; run = run; mask = mask; pattern = pattern; place = place })
