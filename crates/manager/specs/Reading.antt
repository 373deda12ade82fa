-- What read promises; laws: what it answers, from what a survey has found; and that the promise allows one answer. Assumes nothing.
use Rattle.std.specs.Prelude.{◌≡◌, List, [], ◌∷◌, Bool, true, false, cond, ℕ, Option, ok_or, Some, None, Result, Ok, Err, is_none}
use Rattle.std.proofs.Common.{refl, ap, sym, ◌∙◌}
use Rattle.flash.specs.Laws.{settled}
use Rattle.rules.specs.declared.Area.{Area}
use Rattle.rules.specs.declared.Refusal.{Refusal}
use Rattle.rules.specs.declared.Refusal.TheVariants.{BadHandle, NotFound}
use Rattle.rules.specs.Areas.{Entry, entries, find}
use Rattle.rules.specs.Refusals.{bad_handle, Reading}
use Rattle.rules.specs.Search.{place_of, data_length, read_of}
use Rattle.entries.specs.Ahead.{found_of}
use Rattle.survey.specs.declared.View.{View}
use Rattle.survey.specs.Surveying.{surveyed}
use Rattle.survey.specs.Views.{survey_refused, survey_on, survey_view, view_entry}
use Rattle.rules.specs.declared.Found.{Found}

-- ---- the promise
abbrev pub Reads : Area → ℕ → List ℕ → Reading → Type 0
Reads a h f r = r ≡ read_of a h f

-- ---- read
module _ {s : Result View Refusal} (a : Area) (f : List ℕ) (h n : ℕ) (e : s ≡ surveyed a f h n) where
  abbrev entry : Option Entry
  entry = find h (entries a f)

  abbrev read : Reading
  read = Ok (record { place = place_of entry; words = data_length entry })

  abbrev own : List (Bool × Refusal)
  own = (bad_handle h, BadHandle) ∷ (is_none entry, NotFound) ∷ []

  pub read_refused : {why : Refusal} → s ≡ Err why → Err why ≡ read_of a h f
  read_refused q = survey_refused a f h n e Err own read q

  module _ {v : View} {b : Bool} (q : s ≡ Ok v) (c : b ≡ bad_handle h) where
    read_by : read_of a h f ≡ cond b (Err BadHandle) (cond (is_none entry) (Err NotFound) read)
    read_by = rw c (survey_on a f h n e q Err own read)

    pub read_bad_handle : b ≡ true → Err BadHandle ≡ read_of a h f
    read_bad_handle t = sym (rw t at read_by)

    module _ (t : b ≡ false) where
      found : v.entry ≡ found_of entry
      found = view_entry a f h n (survey_view a f h n e q)

      pub read_entry : {r : Reading} → r ≡ ok_or v.entry NotFound → r ≡ read_of a h f
      read_entry u = u ∙ ap (λ (o : Option Found). ok_or o NotFound) found ∙ sym (read_by ∙ rw t (go entry))
        where
          go : (o : Option Entry) → cond (is_none o) (Err NotFound) (Ok (record { place = place_of o; words = data_length o })) ≡ ok_or (found_of o) NotFound
          go None = refl
          go (Some d) = refl

pub ruleset reads = (read_refused, read_bad_handle, read_entry)

-- ---- one answer, and no other
pub read_settles : (a : Area) (h : ℕ) (f : List ℕ) {r s : Reading} → Reads a h f r → Reads a h f s → r ≡ s
read_settles a h f = settled
