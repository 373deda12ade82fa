-- The search object: document 01, "Search", by the definitions of `rules`. Definitions alone. Assumes nothing.
use Rattle.std.specs.Prelude.{◌≡◌, List, ℕ}
use Rattle.std.specs.Borrow.{Bor}
use Rattle.rules.specs.declared.Area.{Area}
use Rattle.rules.specs.Search as rule
use Rattle.searching.specs.declared.object.Search.{Search}
use Rattle.rules.specs.Refusals.{Yielded}

-- a search as the rules see it: the run is the words that it holds
abbrev pub seen : Search → rule.Search
seen s = record { area = s.area; run = s.run.now; mask = s.mask; pattern = s.pattern; place = s.place }

-- a search as it is opened on a run, behind a place
abbrev pub opened : Bor (List ℕ) → Area → ℕ → ℕ → ℕ → Search
opened run area mask pattern place = record { run = run; area = area; mask = mask; pattern = pattern; place = place }

-- a search after its step: what it holds stays, and its place is where the rules move it
abbrev pub stepped : Search → Search
stepped s = record { run = s.run; area = s.area; mask = s.mask; pattern = s.pattern; place = (rule.moved (seen s)).place }

-- ---- the promises
abbrev pub Opens : Bor (List ℕ) → Area → ℕ → ℕ → ℕ → Search → Type 0
Opens run area mask pattern place r = r ≡ opened run area mask pattern place

-- of what is yielded, and of the search behind the step
abbrev pub Steps : Search → Yielded → Search → Type 0
Steps s r t = (r ≡ rule.step_of (seen s)) × (t ≡ stepped s)
