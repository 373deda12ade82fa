-- The walk of a page by places: the length of the entry at a place, the entries from a place on, and what a loop over them has come to. A
-- page is the list of its words; the words in front of a place do not matter to what stands behind it. Assumes nothing.
use Rattle.std.specs.Prelude.{◌≡◌, Bool, ◌&&◌, length, take, drop, leb, ltb}
use Rattle.std.proofs.Math.Path.{refl, ap}
use Rattle.std.proofs.Common.{sym, ◌∙◌, length-take, length-drop, drop_of_length-le, eq-eqb, ne_eqb}
use mathlib.Core.List.{List, [], ◌∷◌}
use Rattle.std.proofs.Math.Bool.{true, false, cond}
use Prim.Native.Nat.{ℕ, suc, zero, ◌+◌, ◌-◌, ◌≤◌, ◌<◌}
use native.Mathlib.Omega.{arith}
use Rattle.std.proofs.Math.ListN.{get_or}
use Rattle.std.proofs.Math.Seq.{drop-cons, drop-drop}
use Rattle.rules.specs.Words.{longest, handle_of, length_of, special, is_live}
use Rattle.rules.specs.Walk.{begins, Walked, taken, walk_in, items, rest, stop}
use Rattle.rules.specs.Areas.{Entry, placed, live_words}
use Rattle.rules.specs.Laws.{begins_fits}

-- ---- the length of the entry that begins at a place, 0 if none does
abbrev pub length_in : List ℕ → ℕ
length_in [] = 0
length_in (w ∷ ws) = cond (begins w ws) (length_of w) 0

unfoldable pub length_at : List ℕ → ℕ → ℕ
length_at p at = length_in (drop at p)

-- ---- what the walk finds from a place on
unfoldable pub walk_at : List ℕ → ℕ → Walked
walk_at p at = walk_in 0 (drop at p)

-- its entries, each with its place
unfoldable pub entries_at : List ℕ → ℕ → List Entry
entries_at p at = placed at (walk_at p at).items

-- the entry of n words at a place
unfoldable pub entry_at : List ℕ → ℕ → ℕ → Entry
entry_at p at n = record { place = at; handle = handle_of (get_or p at 0); words = take (n - 1) (drop (suc at) p) }

-- ---- laws
-- the test of `begins` by handle and length, r being the words that are left behind the header
abbrev pub is_header : ℕ → ℕ → ℕ → Bool
is_header h l r = ltb h special && (leb 1 l && (leb l longest && leb l r))

begins_room : (p : List ℕ) (at w : ℕ) → begins w (drop (suc at) p) ≡ is_header (handle_of w) (length_of w) (length p - at - 1)
unfolding begins
begins_room p at w = let e : length (drop (suc at) p) ≡ length p - at - 1 = omega (arith, length-drop (suc at) p) in rw e

pub length_outside : (p : List ℕ) (at : ℕ) → length p ≤ at → 0 ≡ length_at p at
unfolding length_at
length_outside p at h = rw (drop_of_length-le p h)

-- an entry leaves the page's last word
length_within : (ws : List ℕ) → length_in ws ≤ length ws - 1
length_within [] = omega arith
length_within (w ∷ ws) = go (begins w ws) refl
  where
    go : (t : Bool) → begins w ws ≡ t → cond t (length_of w) 0 ≤ length (w ∷ ws) - 1
    go true e = let i = begins_fits w ws e in omega (arith, i.1)
    go false e = omega arith

pub length_inside : (p : List ℕ) (at : ℕ) → length_at p at ≤ length p - at - 1
unfolding length_at
length_inside p at = omega (arith, length_within (drop at p), length-drop at p)

module _ {h l : ℕ} (p : List ℕ) (at : ℕ) (i : at < length p) (a : h ≡ handle_of (get_or p at 0)) (b : l ≡ length_of (get_or p at 0)) where
  length_here : length_at p at ≡ cond (is_header h l (length p - at - 1)) l 0
  unfolding length_at
  length_here = rw (a, b, drop-cons p at 0 i, begins_room p at (get_or p at 0))

  pub length_header : is_header h l (length p - at - 1) ≡ true → l ≡ length_at p at
  length_header t = sym (rw t at length_here)

  pub length_fits : is_header h l (length p - at - 1) ≡ true → l ≤ length p - at - 1
  length_fits t = rw (length_header t) (length_inside p at)

  pub length_none : is_header h l (length p - at - 1) ≡ false → 0 ≡ length_at p at
  length_none t = sym (rw t at length_here)

walk_behind : (k : ℕ) (ws : List ℕ) → walk_in k ws ≡ walk_in 0 (drop k ws)
walk_behind zero ws = refl
walk_behind (suc k) [] = refl
walk_behind (suc k) (w ∷ ws) = walk_behind k ws

-- where there is no entry the walk stops
module _ (p : List ℕ) (at : ℕ) where
  pub stops : length_at p at ≡ 0 → walk_at p at ≡ record { items = []; rest = drop at p }
  unfolding length_at walk_at
  stops z = go (drop at p) z
    where
      here : (w : ℕ) (ws : List ℕ) (t : Bool) → begins w ws ≡ t → cond t (length_of w) 0 ≡ 0 → walk_in 0 (w ∷ ws) ≡ record { items = []; rest = w ∷ ws }
      here w ws true e z = let i = begins_fits w ws e in absurd (let y : ⊥ = omega (arith, i.0) in y)
      here w ws false e z = rw e

      go : (ws : List ℕ) → length_in ws ≡ 0 → walk_in 0 ws ≡ record { items = []; rest = ws }
      go [] z = refl
      go (w ∷ ws) z = here w ws (begins w ws) refl z

-- and behind an entry it goes on
module _ (p : List ℕ) (at n : ℕ) (e : n ≡ length_at p at) (z : n ≡ 0 → ⊥) where
  inside : at < length p
  inside = omega (arith, length_inside p at)

  pub at_header : (begins (get_or p at 0) (drop (suc at) p) ≡ true) × (length_of (get_or p at 0) ≡ n)
  unfolding length_at
  at_header = go (begins (get_or p at 0) (drop (suc at) p)) refl
    where
      here : length_at p at ≡ cond (begins (get_or p at 0) (drop (suc at) p)) (length_of (get_or p at 0)) 0
      here = rw (drop-cons p at 0 inside)

      go : (t : Bool) → begins (get_or p at 0) (drop (suc at) p) ≡ t → (begins (get_or p at 0) (drop (suc at) p) ≡ true) × (length_of (get_or p at 0) ≡ n)
      go true q = (q, sym (rw q at here) ∙ sym e)
      go false q = absurd (z (e ∙ rw q at here))

  pub goes_on : walk_at p at ≡ taken (get_or p at 0) (drop (suc at) p) (walk_at p (at + n))
  unfolding walk_at
  goes_on =
      let h = at_header in
      let w = get_or p at 0 in
      let b : length_of w - 1 ≡ n - 1 = ap (λ (l : ℕ). l - 1) h.1 in
      let d : suc at + (n - 1) ≡ at + n = omega arith in
      rw (drop-cons p at 0 inside, h.0) (ap (λ (r : Walked). taken w (drop (suc at) p) r) (walk_behind (length_of w - 1) (drop (suc at) p) ∙ rw (b, drop-drop (n - 1) (suc at) p, d)))

  pub data_words_length : length (take (n - 1) (drop (suc at) p)) + 1 ≡ n
  data_words_length = omega (arith, length-take (n - 1) (drop (suc at) p), length-drop (suc at) p, length_inside p at)

  pub entries_on : entries_at p at ≡ entry_at p at n ∷ entries_at p (at + n)
  unfolding entries_at entry_at
  entries_on = rw (goes_on, at_header.1, data_words_length)

  rest_on : (walk_at p at).rest ≡ (walk_at p (at + n)).rest
  rest_on = ap (λ (r : Walked). r.rest) goes_on

pub entries_end : {n : ℕ} (p : List ℕ) (at : ℕ) → n ≡ length_at p at → n ≡ 0 → entries_at p at ≡ []
unfolding entries_at
entries_end p at e z = ap (λ (r : Walked). placed at r.items) (stops p at (sym e ∙ z))

-- ---- the walk has come to a place
pub record Walking (p : List ℕ) (at : ℕ) : Type 0 where
  pub same : (walk_at p at).rest ≡ rest p
  pub inside : at ≤ length p

pub walking_start : {p : List ℕ} → 2 ≤ length p → Walking p 2
unfolding walk_at rest
walking_start h = record { same = refl; inside = h }

pub walking_on : {p : List ℕ} {at n : ℕ} → Walking p at → n ≡ length_at p at → (n ≡ 0 → ⊥) → Walking p (at + n)
walking_on {p} {at} {n} w e z = record { same = sym (rest_on p at n e z) ∙ w.same; inside = omega (arith, length_inside p at) }

pub walking_end : {p : List ℕ} {at n : ℕ} → Walking p at → n ≡ length_at p at → n ≡ 0 → at ≡ stop p
unfolding stop
walking_end {p} {at} w e z =
    let i = w.inside in
    let r : rest p ≡ drop at p = sym w.same ∙ ap (λ (r : Walked). r.rest) (stops p at (sym e ∙ z)) in
    rw r (omega (arith, length-drop at p))

pub short_rest : (p : List ℕ) → length p < 2 → rest p ≡ []
unfolding rest
short_rest p h = ap (λ (u : List ℕ). (walk_in 0 u).rest) (drop_of_length-le p {i = 2} (omega arith))

pub short_stop : (p : List ℕ) → length p < 2 → length p ≡ stop p
unfolding stop
short_stop p h = rw (short_rest p h) (omega arith)

-- the page's entries by its own places
page_entries : (p : List ℕ) → entries_at p 2 ≡ placed 2 (items p)
unfolding entries_at walk_at items
page_entries p = refl

-- ---- a count of live words has come to a place
-- what an entry of n words counts
abbrev pub counted : ℕ → ℕ → ℕ
counted h n = cond (is_live h) n 0

pub record Counting (p : List ℕ) (at sum : ℕ) : Type 0 where
  pub same : sum + live_words (entries_at p at) ≡ live_words (placed 2 (items p))
  pub below : sum ≤ at
  pub inside : at ≤ length p

pub counting_start : {p : List ℕ} → 2 ≤ length p → Counting p 2 0
counting_start {p} h = record { same = omega (arith, ap live_words (page_entries p)); below = omega arith; inside = h }

pub counting_on : {p : List ℕ} {at sum n m h : ℕ} → Counting p at sum → n ≡ length_at p at → (n ≡ 0 → ⊥) → m ≡ counted h n → m ≤ n → h ≡ handle_of (get_or p at 0)
    → Counting p (at + n) (sum + m)
unfolding entry_at
counting_on {p} {at} {sum} {n} {m} c e z d l q =
    let s : sum + (m + live_words (entries_at p (at + n))) ≡ live_words (placed 2 (items p)) = rw (d, q) (rw (entries_on p at n e z, data_words_length p at n e z) at c.same) in
    let b = c.below in
    record { same = omega arith; below = omega arith; inside = omega (arith, length_inside p at) }

pub counting_end : {p : List ℕ} {at sum n : ℕ} → Counting p at sum → n ≡ length_at p at → n ≡ 0 → sum ≡ live_words (placed 2 (items p))
counting_end {p} {at} {sum} c e z = let s = rw (entries_end p at e z) at c.same in omega arith

pub short_live : (p : List ℕ) → length p < 2 → 0 ≡ live_words (placed 2 (items p))
short_live p h = ap live_words (sym (entries_end p 2 (length_outside p 2 (omega arith)) refl) ∙ page_entries p)

pub counted_live : (h n : ℕ) → (h ≡ 0 → ⊥) → n ≡ counted h n
counted_live h n z = rw (ne_eqb h 0 z)

pub counted_dead : (h n : ℕ) → h ≡ 0 → 0 ≡ counted h n
counted_dead h n z = rw (eq-eqb h 0 z)

pub ruleset steps = (length_outside, length_header, length_fits, length_none, walking_start, walking_on, walking_end, short_stop)

pub ruleset counts = (counting_start, counting_on, counting_end, short_live, counted_live, counted_dead)
