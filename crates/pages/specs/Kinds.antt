-- Blank words, the kind of a page and what R is, from what a function has found of each: laws. Assumes nothing.
use Rattle.std.specs.Prelude.{◌≡◌, refl, List, [], ◌∷◌, Bool, cond, ◌&&◌, ℕ, suc, zero, ◌+◌, ◌-◌, ◌^◌, ◌≤◌, ◌<◌, length, get_or, drop, ltb, eqb}
use Rattle.std.proofs.Math.Path.{sym}
use Rattle.std.proofs.Common.{ap, ◌∙◌, ⊎_elim, arith, mod-eq_of_lt, add-one, length-drop, drop_of_length-le, drop-cons, drop-drop, eq-eqb, ne_eqb, lt-ltb, le-ltb, Fits}
use Rattle.std.proofs.Math.Bool.{true, false, and_assoc, and-true}
use Rattle.std.specs.Int.Bits.{bit_and}
use Rattle.std.proofs.lemmas.Nat.{and_comm, and_mask, and_le_l}
use Rattle.std.proofs.lemmas.Bool.{not-true, not-false}
use Rattle.std.specs.Int.{w32}
use Rattle.flash.specs.Stores.{blank}
use Rattle.flash.specs.Laws.{le_or_lt}
use Rattle.rules.specs.declared.Kind.{Kind}
use Rattle.rules.specs.declared.Kind.TheVariants.{Sealed, Torn, Neither}
use Rattle.rules.specs.declared.Recovery.TheVariants.{Free, Unfinished, Committed, Damage}
use Rattle.rules.specs.Words.{index_of, length_of, seal}
use Rattle.rules.specs.Walk.{begins, walk_in, rest, stop, all_blank, end_kind, meta_right, kind_of, is_sealed}
use Rattle.rules.specs.Areas.{recovery_of}
use Rattle.pages.specs.Steps.{short_rest}

-- ---- words are all blank where what they have in common is
common_blank : (c w : ℕ) → c ≤ blank → w ≤ blank → eqb (bit_and c w) blank ≡ eqb c blank && eqb w blank
common_blank c w h l = ⊎_elim all other (le_or_lt blank c)
  where
    all : blank ≤ c → eqb (bit_and c w) blank ≡ eqb c blank && eqb w blank
    all b =
        let e : c ≡ blank = omega arith in
        let k : w < 2 ^ 32 = omega arith in
        let o : bit_and blank w ≡ w = and_comm blank w ∙ and_mask w 32 ∙ mod-eq_of_lt k in
        rw (e, o)

    other : c < blank → eqb (bit_and c w) blank ≡ eqb c blank && eqb w blank
    other b =
        let n : c ≡ blank → ⊥ = λ e. omega arith in
        let m : bit_and c w ≡ blank → ⊥ = λ e. omega (arith, and_le_l c w) in
        rw (ne_eqb c blank n, ne_eqb (bit_and c w) blank m)

-- c is what the words from at to i have in common: it and the words from i on decide
pub record Blanking (p : List ℕ) (at i c : ℕ) : Type 0 where
  pub same : eqb c blank && all_blank (drop i p) ≡ all_blank (drop at p)
  pub below : c ≤ blank

pub blanking_start : {p : List ℕ} {at : ℕ} → Blanking p at at blank
blanking_start = record { same = refl; below = omega arith }

pub blanking_on : {p : List ℕ} {at i c : ℕ} → Blanking p at i c → i < length p → Fits w32 (get_or p i 0) → Blanking p at (i + 1) (bit_and c (get_or p i 0))
blanking_on {p} {at} {i} {c} b h f =
    let w = get_or p i 0 in
    let n = b.below in
    let m = f.fits in
    let l : w ≤ blank = omega arith in
    record {
      same = rw (common_blank c w n l, add-one i) (and_assoc (eqb c blank) (eqb w blank) (all_blank (drop (suc i) p)) ∙ rw (drop-cons p i 0 h) at b.same);
      below = omega (arith, and_le_l c w);
    }

pub blanking_end : {p : List ℕ} {at i c : ℕ} → Blanking p at i c → length p ≤ i → eqb c blank ≡ all_blank (drop at p)
blanking_end {p} {at} {i} {c} b h = sym (and-true (eqb c blank)) ∙ rw (drop_of_length-le p h) at b.same

pub ruleset blanks = (blanking_start, blanking_on, blanking_end)

-- ---- where a walk stops the words from there on are left
pub rest_suffix : (k : ℕ) (ws : List ℕ) → (length (walk_in k ws).rest ≤ length ws) × ((walk_in k ws).rest ≡ drop (length ws - length (walk_in k ws).rest) ws)
rest_suffix k [] = (omega arith, refl)
rest_suffix (suc k) (w ∷ ws) =
    let r = rest_suffix k ws in
    let l = length (walk_in k ws).rest in
    let e : suc (length ws) - l ≡ suc (length ws - l) = omega (arith, r.0) in
    (omega (arith, r.0), rw e r.1)
rest_suffix zero (w ∷ ws) = go (begins w ws) refl (rest_suffix (length_of w - 1) ws)
  where
    go : (t : Bool) → begins w ws ≡ t
        → (length (walk_in (length_of w - 1) ws).rest ≤ length ws) × ((walk_in (length_of w - 1) ws).rest ≡ drop (length ws - length (walk_in (length_of w - 1) ws).rest) ws)
        → (length (walk_in 0 (w ∷ ws)).rest ≤ length (w ∷ ws)) × ((walk_in 0 (w ∷ ws)).rest ≡ drop (length (w ∷ ws) - length (walk_in 0 (w ∷ ws)).rest) (w ∷ ws))
    go true q r =
        let l = length (walk_in (length_of w - 1) ws).rest in
        let e : suc (length ws) - l ≡ suc (length ws - l) = omega (arith, r.0) in
        rw q (omega (arith, r.0), rw e r.1)
    go false q r = let e : suc (length ws) - suc (length ws) ≡ 0 = omega arith in rw q (omega arith, rw e refl)

rest_stop : (p : List ℕ) → rest p ≡ drop (stop p) p
unfolding rest stop
rest_stop p = ⊎_elim long short (le_or_lt 2 (length p))
  where
    long : 2 ≤ length p → (walk_in 0 (drop 2 p)).rest ≡ drop (length p - length (walk_in 0 (drop 2 p)).rest) p
    long h =
        let s = rest_suffix 0 (drop 2 p) in
        let l = length (walk_in 0 (drop 2 p)).rest in
        let e : 2 + (length (drop 2 p) - l) ≡ length p - l = omega (arith, length-drop 2 p, s.0) in
        s.1 ∙ drop-drop (length (drop 2 p) - l) 2 p ∙ ap (λ (k : ℕ). drop k p) e

    short : length p < 2 → (walk_in 0 (drop 2 p)).rest ≡ drop (length p - length (walk_in 0 (drop 2 p)).rest) p
    short h =
        let r : (walk_in 0 (drop 2 p)).rest ≡ [] = short_rest p h in
        let d : drop (length p - 0) p ≡ [] = drop_of_length-le p {i = length p - 0} (omega arith) in
        rw r (sym d)

-- ---- the kind of a page
pub kind_other : {m : Bool} (n i : ℕ) (p : List ℕ) → m ≡ meta_right n i p → m ≡ false → Neither ≡ kind_of n i p
unfolding kind_of
kind_other n i p e t = let f : meta_right n i p ≡ false = sym e ∙ t in rw f

module _ {m : Bool} (n i : ℕ) (p : List ℕ) (at : ℕ) (e : m ≡ meta_right n i p) (t : m ≡ true) (s : at ≡ stop p) where
  by_rest : kind_of n i p ≡ end_kind (drop at p)
  unfolding kind_of
  by_rest = let f : meta_right n i p ≡ true = sym e ∙ t in rw (f, rest_stop p, s)

  pub kind_no_end : length p ≤ at → Neither ≡ kind_of n i p
  kind_no_end h = sym (by_rest ∙ ap end_kind (drop_of_length-le p h))

  module _ {b : Bool} (h : at < length p) (c : b ≡ all_blank (drop (at + 1) p)) where
    by_end : kind_of n i p ≡ cond b (cond (eqb (get_or p at 0) seal) Sealed (cond (eqb (get_or p at 0) blank) Torn Neither)) Neither
    by_end = by_rest ∙ rw (c, add-one at, drop-cons p at 0 h)

    pub kind_not_blank : b ≡ false → Neither ≡ kind_of n i p
    kind_not_blank f = sym (rw f at by_end)

    pub kind_sealed : b ≡ true → get_or p at 0 ≡ seal → Sealed ≡ kind_of n i p
    kind_sealed f q = sym (rw (f, eq-eqb (get_or p at 0) seal q) at by_end)

    pub kind_torn : b ≡ true → (get_or p at 0 ≡ seal → ⊥) → get_or p at 0 ≡ blank → Torn ≡ kind_of n i p
    kind_torn f q r = sym (rw (f, ne_eqb (get_or p at 0) seal q, eq-eqb (get_or p at 0) blank r) at by_end)

    pub kind_odd : b ≡ true → (get_or p at 0 ≡ seal → ⊥) → (get_or p at 0 ≡ blank → ⊥) → Neither ≡ kind_of n i p
    kind_odd f q r = sym (rw (f, ne_eqb (get_or p at 0) seal q, ne_eqb (get_or p at 0) blank r) at by_end)

pub ruleset kinds = (not-true, not-false, kind_other, kind_no_end, kind_not_blank, kind_sealed, kind_torn, kind_odd)

-- ---- what R is
module _ {b : Bool} (n : ℕ) (r : List ℕ) (e : b ≡ all_blank (drop 0 r)) where
  pub is_free : b ≡ true → Free ≡ recovery_of n r
  unfolding recovery_of
  is_free t = let f : all_blank r ≡ true = sym e ∙ t in rw f

  module _ (w : ℕ) (t : b ≡ false) (q : w ≡ get_or r 1 0) where
    by_word : recovery_of n r ≡ cond (eqb w blank) Unfinished (cond (ltb (index_of w) n && is_sealed (kind_of n (index_of w) r)) (Committed (index_of w)) Damage)
    unfolding recovery_of
    by_word = let f : all_blank r ≡ false = sym e ∙ t in rw (f, q)

    pub is_unfinished : w ≡ blank → Unfinished ≡ recovery_of n r
    is_unfinished h = sym (rw (eq-eqb w blank h) at by_word)

    module _ (o : w ≡ blank → ⊥) where
      pub names_none : n ≤ index_of w → Damage ≡ recovery_of n r
      names_none h = sym (rw (ne_eqb w blank o, le-ltb (index_of w) n h) at by_word)

      module _ {k : Kind} (h : index_of w < n) (d : k ≡ kind_of n (index_of w) r) where
        by_kind : (s : Bool) → is_sealed k ≡ s → recovery_of n r ≡ cond s (Committed (index_of w)) Damage
        by_kind s c = let g : is_sealed (kind_of n (index_of w) r) ≡ s = ap is_sealed (sym d) ∙ c in by_word ∙ rw (ne_eqb w blank o, lt-ltb (index_of w) n h, g)

        pub is_committed : k ≡ Sealed → Committed (index_of w) ≡ recovery_of n r
        is_committed q = sym (by_kind true (ap is_sealed q))

        pub is_torn : k ≡ Torn → Damage ≡ recovery_of n r
        is_torn q = sym (by_kind false (ap is_sealed q))

        pub is_neither : k ≡ Neither → Damage ≡ recovery_of n r
        is_neither q = sym (by_kind false (ap is_sealed q))

pub ruleset recoveries = (is_free, is_unfinished, names_none, is_committed, is_torn, is_neither)
