-- Whether an entry that is found has given data, and whether its handle holds them: definitions and laws. Assumes nothing.
use Rattle.std.specs.Prelude.{◌≡◌, refl, List, Bool, false, ℕ, suc, ◌+◌, ◌<◌, length, take, drop, Option, Some, None}
use Rattle.std.proofs.Common.{arith}
use Rattle.rules.specs.declared.Area.{Area}
use Rattle.rules.specs.Areas.{entries, live_of, find}
use Rattle.rules.specs.Refusals.{same_words, holds}
use Rattle.rules.specs.Places.{Right, base_suc, page_in}
use Rattle.entries.specs.Ahead.{found_of, found_inside}
use Rattle.manager.specs.Comparing.{held, not_held}
use Rattle.rules.specs.declared.Found.{Found}

-- the place of the last word of what is found
abbrev pub last_word : Option Found → ℕ
last_word (Some d) = d.place + d.words
last_word None = 0

-- whether it has the data d
abbrev pub has_words : List ℕ → Option Found → List ℕ → Bool
has_words f (Some e) d = same_words (take e.words (drop (suc e.place) f)) d
has_words f None d = false

-- ---- from what is read of it
module _ {r : Option Found} (f d : List ℕ) where
  pub has_inside : {x : Found} → r ≡ Some x → last_word r < length f → x.place + x.words < length f
  has_inside q l = rw q at l

  pub has_found : {x : Found} {v : List ℕ} {b : Bool} → r ≡ Some x → v ≡ take x.words (drop (suc x.place) f) → b ≡ same_words v d → b ≡ has_words f r d
  has_found q u s = rw q (rw u at s)

  pub has_none : r ≡ None → false ≡ has_words f r d
  has_none q = rw q

pub ruleset having = (has_inside, has_found, has_none)

-- ---- of a handle's entry
module _ {r : Option Found} (a : Area) (f : List ℕ) (h : ℕ) (e : r ≡ found_of (find h (entries a f))) (w : Right a f) where
  pub entry_inside : last_word r < length f
  entry_inside = go r refl
    where
      go : (s : Option Found) → r ≡ s → last_word s < length f
      go (Some d) q = found_inside (live_of h) e q w
      go None q = let m = w.wide in omega (arith, page_in w 0 (omega arith), base_suc a 0)

  pub has_holds : (d : List ℕ) → has_words f r d ≡ holds a f h d
  has_holds d = go r refl
    where
      go : (s : Option Found) → r ≡ s → has_words f s d ≡ holds a f h d
      go (Some x) q = held a f d h e q w refl refl
      go None q = not_held a f d h e q
