-- A step of a search by a filter: what it finds, and laws. Assumes nothing.
use Rattle.std.specs.Prelude.{◌≡◌, Bool, cond, ◌&&◌, ℕ, suc, ◌≤◌, ◌<◌, eqb, Option, Some, None, is_none, Result, Ok, Err}
use Rattle.std.proofs.Math.Path.{refl, ap}
use Rattle.std.proofs.Common.{sym, ◌∙◌}
use mathlib.Core.List.{List, [], ◌∷◌}
use Rattle.std.proofs.Math.Bool.{true, false, not}
use native.Mathlib.Omega.{arith}
use Rattle.std.specs.Int.Bits.{bit_and}
use borrow.Author.Tests.{lt-ltb, le-ltb, eq-eqb, ne_eqb}
use Rattle.rules.specs.declared.Area.{Area}
use Rattle.rules.specs.Words.{is_live}
use Rattle.rules.specs.Areas.{Entry, entries, any_of, first_of}
use Rattle.rules.specs.Search.{matches, wanted, next, is_at, bad_place}
use Rattle.area.specs.declared.run.Run.{Run}
use Rattle.entries.specs.declared.walk.Entries.{Entries}
use Rattle.entries.specs.declared.walk.Header.{Header}
use Rattle.entries.specs.Ahead.{left_of, Heads, any_first, Finding, finding_on, finding_found}
use Rattle.entries.specs.Pages.{AllBelow, AllAbove, From, Reached, ahead_above, above_none, below_none, below_past, from_same}
use Rattle.rules.specs.declared.Refusal.{Refusal}
use Rattle.rules.specs.declared.Refusal.TheVariants.{BadPlace, NotFound}

-- ---- what is found, b being whether it cannot start
abbrev pub match_of : Option Entry → Result ℕ Refusal
match_of None = Err NotFound
match_of (Some e) = Ok e.place

abbrev pub stepped_of : Bool → Option Entry → Result ℕ Refusal
stepped_of b o = cond b (Err BadPlace) (match_of o)

-- ---- entries that lie behind a place
-- a match among them is one behind it
wanted_above : (mask pattern p : ℕ) (es : List Entry) → AllAbove (suc p) es → first_of (wanted mask pattern p) es ≡ first_of (matches mask pattern) es
wanted_above mask pattern p [] b = refl
wanted_above mask pattern p (e ∷ es) b = rw (lt-ltb p e.place (omega (arith, b.0)), wanted_above mask pattern p es b.1)

-- ---- a step from a right place looks for a match among those left, b being whether the place is bad and o what is to be found
pub record Stepping (mask pattern : ℕ) (b : Bool) (o : Option Entry) (es : List Entry) : Type 0 where
  pub right : b ≡ false
  pub finding : Finding (matches mask pattern) o es

-- ---- whether an entry begins at a place, by the first that does not lie in front of it
module _ {r : Run} {s : Entries} {p : ℕ} (x : From r p s) (z : p ≡ 0 → ⊥) where
  abbrev a : Area
  a = r.area

  abbrev f : List ℕ
  f = r.words.now

  bad_by : {o : Option Entry} → first_of (is_at p) (left_of s) ≡ o → bad_place a f p ≡ is_none o
  unfolding bad_place
  bad_by {o} q =
      let e : first_of (is_at p) (left_of s) ≡ first_of (is_at p) (entries a f) = from_same (is_at p) (λ e l. ne_eqb e.place p (λ q. omega arith)) x in
      let t : not (any_of (is_at p) (entries a f)) ≡ is_none o = ap not (any_first (is_at p) (entries a f)) ∙ twice (is_none (first_of (is_at p) (entries a f))) ∙ ap is_none (sym e ∙ q) in
      rw (ne_eqb p 0 z, t)
    where
      twice : (x : Bool) → not (not x) ≡ x
      twice true = refl
      twice false = refl

  -- there is none
  bad_none : AllBelow p (left_of s) → bad_place a f p ≡ true
  bad_none b = bad_by (below_none (is_at p) p (λ e l. ne_eqb e.place p (λ q. omega arith)) (left_of s) b)

  pub step_none_reached : (mask pattern : ℕ) → AllBelow p (left_of s) → Err BadPlace ≡ stepped_of (bad_place a f p) (next a f mask pattern p)
  step_none_reached mask pattern b = rw (bad_none b)

  module _ {h : Header} {u : Entries} (y : Reached p s h u) where
    above : AllAbove (suc h.place) (left_of u)
    above = ahead_above (suc h.place) y.on u.run.right y.standing.sound

    found_first : (t : Entry → Bool) → ((e : Entry) → e.place < p → t e ≡ false) → first_of t (left_of s) ≡ first_of t (y.entry ∷ left_of u)
    found_first t n = ap (first_of t) y.whole ∙ below_past t p n y.passed (y.entry ∷ left_of u) y.below

    place_is : y.entry.place ≡ h.place
    place_is = ap (λ (d : Header). d.place) y.header

    -- it begins elsewhere
    pub step_elsewhere : (mask pattern : ℕ) → (h.place ≡ p → ⊥) → Err BadPlace ≡ stepped_of (bad_place a f p) (next a f mask pattern p)
    step_elsewhere mask pattern n =
        let i : first_of (is_at p) (left_of u) ≡ None = above_none (is_at p) (suc h.place) (λ e l. let b = y.behind in ne_eqb e.place p (λ q. omega arith)) (left_of u) above in
        let o : first_of (is_at p) (left_of s) ≡ None = found_first (is_at p) (λ e l. ne_eqb e.place p (λ q. omega arith)) ∙ rw (place_is, ne_eqb h.place p n, i) in
        rw (bad_by o)

    -- it begins there, and the entries left lie behind it
    module _ (e : h.place ≡ p) where
      right_place : bad_place a f p ≡ false
      right_place =
          let o : first_of (is_at p) (left_of s) ≡ Some y.entry = found_first (is_at p) (λ e l. ne_eqb e.place p (λ q. omega arith)) ∙ rw (place_is, eq-eqb h.place p e) in
          bad_by o

      pub stepping_there : (mask pattern : ℕ) → Stepping mask pattern (bad_place a f p) (next a f mask pattern p) (left_of u)
      unfolding next
      stepping_there mask pattern =
          let n : (d : Entry) → d.place < p → wanted mask pattern p d ≡ false = λ d l. rw (le-ltb p d.place (omega arith)) in
          let z : wanted mask pattern p y.entry ≡ false = rw (place_is, le-ltb p h.place (omega arith)) in
          let b : AllAbove (suc p) (left_of u) = rw (ap suc e) at above in
          record {
            right = right_place;
            finding = record { same = sym (wanted_above mask pattern p (left_of u) b) ∙ sym (found_first (wanted mask pattern p) n ∙ rw z) ∙ from_same (wanted mask pattern p) n x };
          }

-- ---- a step from the area's first entry on
pub stepping_start : {r : Run} {s : Entries} {p : ℕ} (mask pattern : ℕ) → From r p s → p ≡ 0
    → Stepping mask pattern (bad_place r.area r.words.now p) (next r.area r.words.now mask pattern p) (left_of s)
unfolding next bad_place
stepping_start {s = s} {p = p} mask pattern x z =
    let n : (d : Entry) → d.place < p → wanted mask pattern p d ≡ false = λ d l. rw (le-ltb p d.place (omega arith)) in
    let i = x.over in
    let c : 1 ≤ s.cursor.place = omega (arith, x.front) in
    let b : AllAbove (suc p) (left_of s) = rw z (ahead_above 1 c s.run.right i.standing.sound) in
    record { right = rw (eq-eqb p 0 z); finding = record { same = sym (wanted_above mask pattern p (left_of s) b) ∙ from_same (wanted mask pattern p) n x } }

module _ {b : Bool} {o : Option Entry} {es : List Entry} {mask pattern : ℕ} (s : Stepping mask pattern b o es) where
  stepped_by : {u : Option Entry} → u ≡ o → match_of u ≡ stepped_of b o
  stepped_by e = rw s.right (ap match_of e)

  pub step_none : es ≡ [] → Err NotFound ≡ stepped_of b o
  step_none z = stepped_by (rw z at s.finding.same)

  module _ {ds : List Entry} {h : Header} {t : Bool} (x : Heads es h ds) (q : t ≡ is_live h.handle && eqb (bit_and h.handle mask) (bit_and pattern mask)) where
    matches_is : matches mask pattern x.entry ≡ t
    matches_is = let i : x.entry.handle ≡ h.handle = ap (λ (d : Header). d.handle) x.header in rw i (sym q)

    pub step_at : t ≡ true → Ok h.place ≡ stepped_of b o
    step_at y = let i : x.entry.place ≡ h.place = ap (λ (d : Header). d.place) x.header in ap Ok (sym i) ∙ stepped_by (finding_found s.finding x (matches_is ∙ y))

    pub stepping_on : t ≡ false → Stepping mask pattern b o ds
    stepping_on y = record { right = s.right; finding = finding_on s.finding x (matches_is ∙ y) }

pub ruleset stepping = (step_none_reached, step_elsewhere, stepping_there, stepping_start, step_none, step_at, stepping_on)
