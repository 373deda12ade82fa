-- Whether a handle holds given data, from what is found of it: laws. Assumes nothing.
use Rattle.std.specs.Prelude.{◌≡◌, Bool, false, ℕ, suc, ◌+◌, ◌-◌, take, drop, Option, Some, None}
use Rattle.std.proofs.Common.{sym, ◌∙◌, arith, add-one}
use Rattle.std.proofs.Math.Path.{ap}
use mathlib.Core.List.{List}
use Rattle.rules.specs.declared.Area.{Area}
use Rattle.rules.specs.Areas.{Entry, entries, live_of, find, data_of, map_of}
use Rattle.rules.specs.Refusals.{same_words, is_data, holds}
use Rattle.rules.specs.Places.{Right}
use Rattle.entries.specs.Ahead.{found_of, found_none, found_some, first_inside}
use Rattle.rules.specs.declared.Found.{Found}

-- ---- a handle holds what its entry's data are
-- the words behind a place
pub data_cut : (p n : ℕ) (f : List ℕ) → take (p + 1 + n - (p + 1)) (drop (p + 1) f) ≡ take n (drop (suc p) f)
data_cut p n f = let e : p + 1 + n - (p + 1) ≡ n = omega arith in rw (e, add-one p)

module _ {r : Option Found} (a : Area) (f d : List ℕ) (h : ℕ) (e : r ≡ found_of (find h (entries a f))) where
  pub held : {x : Found} {v : List ℕ} {b : Bool} → r ≡ Some x → Right a f → v ≡ take x.words (drop (suc x.place) f) → b ≡ same_words v d → b ≡ holds a f h d
  unfolding holds map_of
  held {v = v} q w u s =
      let o = found_some (find h (entries a f)) e q in
      let i : o.0.words ≡ v = (first_inside (live_of h) o.1 w).words ∙ rw (o.2, o.3) (sym u) in
      s ∙ ap (λ (y : List ℕ). same_words y d) (sym i) ∙ ap (λ (y : Option Entry). is_data (data_of y) d) (sym o.1)

  pub not_held : r ≡ None → false ≡ holds a f h d
  unfolding holds map_of
  not_held q = ap (λ (x : Option Entry). is_data (data_of x) d) (sym (found_none (find h (entries a f)) e q))
