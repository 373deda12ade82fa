-- Of the search object: its step is the rules' step, a refused one stays, and no promise allows two outcomes. Assumes nothing.
use Rattle.std.specs.Prelude.{◌≡◌, refl, List, ℕ, Ok, Err}
use Rattle.std.proofs.Common.{ap, ◌∙◌}
use Rattle.std.specs.Borrow.{Bor}
use Rattle.flash.specs.Laws.{settled}
use Rattle.rules.specs.declared.Area.{Area}
use Rattle.rules.specs.declared.Refusal.{Refusal}
use Rattle.rules.specs.Search.{step_of, place_after, moved}
use Rattle.searching.specs.declared.object.Search.{Search}
use Rattle.searching.specs.Object.{seen, stepped, Opens, Steps}
use Rattle.rules.specs.Refusals.{Yielded}

-- its step is the rules' step
pub stepped_moved : (s : Search) → seen (stepped s) ≡ moved (seen s)
stepped_moved s = refl

-- a search that has yielded r
abbrev yielding : Search → Yielded → Search
yielding s r = record { run = s.run; area = s.area; mask = s.mask; pattern = s.pattern; place = place_after s.place r }

-- a refused step stays, and the next one gives the same
pub refused_stays : (s : Search) (why : Refusal) → step_of (seen s) ≡ Err why → stepped s ≡ s
refused_stays s why e = ap (yielding s) e

pub refused_again : (s : Search) (why : Refusal) → step_of (seen s) ≡ Err why → step_of (seen (stepped s)) ≡ Err why
refused_again s why e = ap (λ (t : Search). step_of (seen t)) (refused_stays s why e) ∙ e

-- any other moves to the place that it yields
pub yielded_moves : (s : Search) (place : ℕ) → step_of (seen s) ≡ Ok place → (stepped s).place ≡ place
yielded_moves s place e = ap (place_after s.place) e

-- ---- one outcome, and no other
pub open_settles : (run : Bor (List ℕ)) (area : Area) (mask pattern place : ℕ) {r t : Search} → Opens run area mask pattern place r → Opens run area mask pattern place t → r ≡ t
open_settles run area mask pattern place = settled

pub step_settles : (s : Search) {t u : Search} {q r : Yielded} → Steps s q t → Steps s r u → (q ≡ r) × (t ≡ u)
step_settles s x y = (settled x.0 y.0, settled x.1 y.1)
