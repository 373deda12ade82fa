-- What search promises; laws: what it answers, from what a survey and a step have found; and that the promise allows one answer. Assumes nothing.
use Rattle.std.specs.Prelude.{refl, Some, None, ◌≡◌, List, [], ◌∷◌, Bool, cond, ℕ, Option, Result, Ok, Err, is_none}
use Rattle.std.proofs.Common.{sym, ◌∙◌}
use Rattle.flash.specs.Laws.{settled}
use Rattle.rules.specs.declared.Area.{Area}
use Rattle.rules.specs.declared.Refusal.{Refusal}
use Rattle.rules.specs.declared.Refusal.TheVariants.{NotFound, BadPlace}
use Rattle.rules.specs.Areas.{Entry}
use Rattle.rules.specs.Refusals.{Yielded}
use Rattle.rules.specs.Search.{place_of, next, bad_place, search_of}
use Rattle.entries.specs.Step.{stepped_of}
use Rattle.survey.specs.declared.View.{View}
use Rattle.survey.specs.Surveying.{surveyed}
use Rattle.survey.specs.Views.{survey_refused, survey_on, survey_right}

-- ---- the promise
abbrev pub Searches : Area → ℕ → ℕ → ℕ → List ℕ → Yielded → Type 0
Searches a mask pattern place f r = r ≡ search_of a mask pattern place f

-- ---- search
module _ {s : Result View Refusal} (a : Area) (f : List ℕ) (mask pattern place h n : ℕ) (e : s ≡ surveyed a f h n) where
  abbrev match : Option Entry
  match = next a f mask pattern place

  abbrev yielded : Yielded
  yielded = Ok (place_of match)

  abbrev its : List (Bool × Refusal)
  its = (bad_place a f place, BadPlace) ∷ (is_none match, NotFound) ∷ []

  pub search_refused : {why : Refusal} → s ≡ Err why → Err why ≡ search_of a mask pattern place f
  search_refused q = survey_refused a f h n e Err its yielded q

  pub search_steps : {v : View} {r : Yielded} → s ≡ Ok v → r ≡ stepped_of (bad_place a f place) match → r ≡ search_of a mask pattern place f
  search_steps q d = d ∙ go match ∙ sym (survey_on a f h n e q Err its yielded)
    where
      go : (o : Option Entry) → stepped_of (bad_place a f place) o ≡ cond (bad_place a f place) (Err BadPlace) (cond (is_none o) (Err NotFound) (Ok (place_of o)))
      go None = refl
      go (Some d) = refl

pub ruleset searches = (survey_right, search_refused, search_steps)

-- ---- one answer, and no other
pub search_settles : (a : Area) (mask pattern place : ℕ) (f : List ℕ) {r s : Yielded} → Searches a mask pattern place f r → Searches a mask pattern place f s → r ≡ s
search_settles a mask pattern place f = settled
