-- What the walks that look for a handle live twice have come to: the one over all windows, the one over a window, and the windows one behind
-- the other. Laws. Assumes nothing.
use Rattle.std.specs.Prelude.{◌≡◌, List, [], ◌∷◌, Bool, not, ◌&&◌, ◌||◌, ℕ, ◌+◌, ◌*◌, ◌/◌, ◌%◌, ◌^◌, ◌≤◌, ◌<◌, length, eqb}
use Rattle.std.proofs.Math.Path.{refl, sym}
use Rattle.std.proofs.Common.{ap, ◌∙◌, ⊎_elim, arith, mod-lt, pow_mono, pow_pos, eqb-true, eq-eqb, ne_eqb, Fits}
use Rattle.std.proofs.Math.Bool.{true, false, and-true, and-false}
use Rattle.std.proofs.Math.Nat.{div-eq_of_lt, lt-mul-div-succ}
use Rattle.std.proofs.lemmas.List.{length-replicate, get_or-replicate}
use Rattle.std.specs.Int.Bits.{bit_and, and_zero_l}
use Rattle.std.specs.Int.{w64}
use Rattle.flash.specs.Laws.{le_or_lt}
use Rattle.rules.specs.Words.{is_live}
use Rattle.rules.specs.Areas.{Entry, any_of, live_of, twice}
use Rattle.rules.specs.Laws.{and_left, and_right, nor_left, nor_right}
use Rattle.entries.specs.declared.walk.Header.{Header}
use Rattle.entries.specs.Ahead.{Heads}
use Rattle.entries.specs.Noting.{Kept, slot, is_set, has, marked, noted, is_noted, all_noted, any_handle, beside, blank_map, nothing, unmarked, unnoted}
use Rattle.entries.specs.Repeats.{twice_in, in_window, both, has_marked, marked_long, alone, eq_or_not, false_by, true_by, set_by, window_once, dead_none}

-- ---- the walk over all windows
pub record Hearing (es ds : List Entry) (m : List ℕ) (s : Kept) : Type 0 where
  pub same : all_noted any_handle m s ds ≡ all_noted any_handle blank_map nothing es

pub hearing_start : {es ds : List Entry} → ds ≡ es → Hearing es ds blank_map nothing
hearing_start e = record { same = ap (all_noted any_handle blank_map nothing) e }

noted_live : (m : List ℕ) (s : Kept) (e : Entry) (es : List Entry)
    → all_noted any_handle m s (e ∷ es) ≡ all_noted any_handle (marked m (is_live e.handle) e.handle) (noted m s (is_live e.handle) e.handle) es
noted_live m s e es = ap (λ (b : Bool). all_noted any_handle (marked m b e.handle) (noted m s b e.handle) es) (and-true (is_live e.handle))

module _ {es ds us : List Entry} {m : List ℕ} {s : Kept} {h : Header} (x : Hearing es ds m s) (w : Heads ds h us) where
  heard : all_noted any_handle (marked m (is_live h.handle) h.handle) (noted m s (is_live h.handle) h.handle) us ≡ all_noted any_handle blank_map nothing es
  heard =
      let i : w.entry.handle ≡ h.handle = ap (λ (u : Header). u.handle) w.header in
      rw i at (sym (noted_live m s w.entry us) ∙ ap (all_noted any_handle m s) (sym w.first) ∙ x.same)

  pub hearing_live : {n : List ℕ} {u : Kept} → (h.handle ≡ 0 → ⊥) → n ≡ marked m true h.handle → u ≡ noted m s true h.handle → Hearing es us n u
  hearing_live y p q = record { same = rw (p, q) (rw (ne_eqb h.handle 0 y) at heard) }

  pub hearing_dead : h.handle ≡ 0 → Hearing es us m s
  hearing_dead y =
      let t : is_live h.handle ≡ false = rw y in
      record { same = rw (← unmarked (is_live h.handle) m h.handle t, ← unnoted (is_live h.handle) m h.handle t s) at heard }

pub hearing_end : {es ds : List Entry} {m : List ℕ} {s : Kept} → Hearing es ds m s → ds ≡ [] → s.windows ≡ (all_noted any_handle blank_map nothing es).windows
hearing_end {m = m} {s = s} x z = ap (λ (u : Kept). u.windows) (ap (all_noted any_handle m s) (sym z) ∙ x.same)

-- ---- the walk over a window
-- whether an entry is noted in the map already
abbrev again : (ℕ → Bool) → List ℕ → Entry → Bool
again t m e = is_noted t e && has m e.handle

pub record Repeating (t : ℕ → Bool) (w : ℕ) (es ds : List Entry) (m : List ℕ) : Type 0 where
  pub long : length m ≡ 16
  pub same : any_of (again (both t w) m) ds || twice_in (both t w) ds ≡ twice_in (both t w) es

-- nothing is noted in a blank map
has_none : (h : ℕ) → has blank_map h ≡ false
has_none h = ap (λ (u : ℕ). is_set u (h % 64)) (get_or-replicate {A = ℕ} 16 (slot h) 0 0 (mod-lt (h / 64) {m = 16} (omega arith))) ∙ ap (λ (u : ℕ). not (eqb u 0)) (and_zero_l (2 ^ (h % 64)))

none_again : (t : ℕ → Bool) (es : List Entry) → any_of (again t blank_map) es ≡ false
none_again t [] = refl
none_again t (e ∷ es) = rw (has_none e.handle, and-false (is_noted t e)) (none_again t es)

pub repeating_start : {t : ℕ → Bool} {w : ℕ} {es ds : List Entry} → ds ≡ es → Repeating t w es ds blank_map
repeating_start {t} {w} {ds = ds} s = record { long = length-replicate {A = ℕ} 16 0; same = rw (none_again (both t w) ds) (ap (twice_in (both t w)) s) }

-- a handle of the window is noted
module _ (t : ℕ → Bool) (w : ℕ) (m : List ℕ) (n : length m ≡ 16) (e : Entry) (q : is_noted (both t w) e ≡ true) where
  abbrev h : ℕ
  h = e.handle

  its : h / 1024 ≡ w
  its = eqb-true (h / 1024) w (and_right (t h) (in_window w h) (and_right (is_live h) (both t w h) q))

  one_more : (d : Entry) → again (both t w) (marked m true h) d ≡ again (both t w) m d || live_of h d
  one_more d = go (is_noted (both t w) d) refl
    where
      k : ℕ
      k = d.handle

      within : is_noted (both t w) d ≡ true → k / 1024 ≡ w
      within p = eqb-true (k / 1024) w (and_right (t k) (in_window w k) (and_right (is_live k) (both t w k) p))

      differ : is_noted (both t w) d ≡ true → eqb (h % 1024) (k % 1024) ≡ eqb k h
      differ p =
          let i = its in
          let j = within p in
          ⊎_elim
          (λ (y : k ≡ h). rw (eq-eqb k h y, eq-eqb (h % 1024) (k % 1024) (omega arith)))
          (λ (y : k ≡ h → ⊥). rw (ne_eqb k h y, ne_eqb (h % 1024) (k % 1024) (λ z. y (omega arith))))
          (eq_or_not k h)

      absent : is_noted (both t w) d ≡ false → live_of h d ≡ false
      absent p = false_by (live_of h d) (is_noted (both t w) d) (λ y. let o : k ≡ h = eqb-true k h (and_right (is_live h) (eqb k h) y) in rw o q) p

      go : (b : Bool) → is_noted (both t w) d ≡ b → again (both t w) (marked m true h) d ≡ again (both t w) m d || live_of h d
      go true p = rw (p, has_marked m n h k, differ p, and_left (is_live h) (both t w h) q)
      go false p = rw (p, absent p)

  any_more : (es : List Entry) → any_of (again (both t w) (marked m true h)) es ≡ any_of (again (both t w) m) es || any_of (live_of h) es
  any_more [] = refl
  any_more (d ∷ es) = rw (one_more d, any_more es) (swap (again (both t w) m d) (live_of h d) (any_of (again (both t w) m) es) (any_of (live_of h) es))
    where
      swap : (a b c d : Bool) → (a || b) || (c || d) ≡ (a || c) || (b || d)
      swap true b c d = refl
      swap false true true d = refl
      swap false true false d = refl
      swap false false c d = refl

-- past an entry that was not noted before
past : (t : ℕ → Bool) (w : ℕ) (m : List ℕ) → length m ≡ 16 → (e : Entry) (es : List Entry) (g : Bool) → is_noted (both t w) e ≡ g → g && has m e.handle ≡ false
    → any_of (again (both t w) m) (e ∷ es) || twice_in (both t w) (e ∷ es) ≡ any_of (again (both t w) (marked m g e.handle)) es || twice_in (both t w) es
unfolding marked
past t w m n e es true r z =
    rw (r, z, and_right (is_live e.handle) (both t w e.handle) r, any_more t w m n e r es)
    (assoc (any_of (again (both t w) m) es) (any_of (live_of e.handle) es) (twice_in (both t w) es))
  where
    assoc : (i j l : Bool) → i || (j || l) ≡ (i || j) || l
    assoc true j l = refl
    assoc false j l = refl
past t w m n e es false r z = rw (r, alone (both t w) e es r)

module _ {t : ℕ → Bool} {w : ℕ} {es ds us : List Entry} {m : List ℕ} {b : Bool} {d : Header} (x : Repeating t w es ds m) (y : Heads ds d us)
    (q : b ≡ (is_live d.handle && both t w d.handle) && has m d.handle) where
  met : y.entry.handle ≡ d.handle
  met = ap (λ (u : Header). u.handle) y.header

  here : any_of (again (both t w) m) (y.entry ∷ us) || twice_in (both t w) (y.entry ∷ us) ≡ twice_in (both t w) es
  here = rw y.first at x.same

  again_is : is_noted (both t w) y.entry && has m y.entry.handle ≡ b
  again_is = rw met (sym q)

  -- it was noted before
  pub repeated_is : b ≡ true → true ≡ twice_in (both t w) es
  repeated_is z = rw (again_is ∙ z) at here

  pub repeated_in : b ≡ true → d.handle / 1024 ≡ w
  repeated_in z =
      let i = and_right (is_live d.handle) (both t w d.handle) (and_left (is_live d.handle && both t w d.handle) (has m d.handle) (sym q ∙ z)) in
      eqb-true (d.handle / 1024) w (and_right (t d.handle) (in_window w d.handle) i)

  -- it was not
  pub repeating_on : {n : List ℕ} → b ≡ false → n ≡ marked m (is_live d.handle && both t w d.handle) d.handle → Repeating t w es us n
  repeating_on {n} z p =
      record {
        long = rw p (marked_long m (is_live d.handle && both t w d.handle) d.handle ∙ x.long);
        same = rw p (rw met at (sym (past t w m x.long y.entry us (is_noted (both t w) y.entry) refl (again_is ∙ z)) ∙ here));
      }

pub repeating_end : {t : ℕ → Bool} {w : ℕ} {es ds : List Entry} {m : List ℕ} → Repeating t w es ds m → ds ≡ [] → false ≡ twice_in (both t w) es
repeating_end {t} {w} {m = m} x z = rw z at x.same

pub ruleset sweeps = (hearing_start, hearing_live, hearing_dead, hearing_end, repeating_start, repeated_is, repeated_in, repeating_on, repeating_end)

-- ---- the windows, one behind the other
-- live handles that pass a narrower test
narrow : (t u : ℕ → Bool) → ((h : ℕ) → is_live h ≡ true → u h ≡ true → t h ≡ true) → (es : List Entry) → twice_in t es ≡ false → twice_in u es ≡ false
narrow t u i [] z = refl
narrow t u i (e ∷ es) z =
    rw (go (is_live k) refl (u k) refl) (narrow t u i es (nor_right (t k && d) (twice_in t es) z))
  where
    k : ℕ
    k = e.handle

    d : Bool
    d = any_of (live_of k) es

    go : (b : Bool) → is_live k ≡ b → (c : Bool) → u k ≡ c → u k && d ≡ false
    go b p false q = rw q
    go false p true q = rw (dead_none k es p) (and-false (u k))
    go true p true q = rw q (rw (i k p q) at (nor_left (t k && d) (twice_in t es) z))

module _ (es : List Entry) where
  unmet : (t : ℕ → Bool) (w : ℕ) → is_set (all_noted any_handle blank_map nothing es).windows w ≡ false → twice_in (both t w) es ≡ false
  unmet t w z = narrow (both any_handle w) (both t w) (λ h l q. and_right (t h) (in_window w h) q) es (window_once any_handle w blank_map nothing es (length-replicate {A = ℕ} 16 0) z)

  pub window_clear : {n b : ℕ} (t : ℕ → Bool) (w : ℕ) → n ≡ (all_noted any_handle blank_map nothing es).windows → b ≡ 2 ^ w → bit_and n b ≡ 0 → false ≡ twice_in (both t w) es
  window_clear {n} {b} t w e q z =
      let y : is_set (all_noted any_handle blank_map nothing es).windows w ≡ false = rw (← e, ← q, eq-eqb (bit_and n b) 0 z) in
      rw (unmet t w y)

-- a handle twice in a window is one twice
part_false : (t : ℕ → Bool) (w : ℕ) (es : List Entry) → twice_in t es ≡ false → twice_in (both t w) es ≡ false
part_false t w [] z = refl
part_false t w (e ∷ es) z =
    let k = e.handle in
    let d = any_of (live_of k) es in
    rw (narrow (t k) (in_window w k) d (nor_left (t k && d) (twice_in t es) z)) (part_false t w es (nor_right (t k && d) (twice_in t es) z))
  where
    narrow : (i j l : Bool) → i && l ≡ false → (i && j) && l ≡ false
    narrow true true l z = z
    narrow true false l z = refl
    narrow false j l z = refl

-- and if there is none in any window, there is none
no_window : (t : ℕ → Bool) (es : List Entry) → ((w : ℕ) → twice_in (both t w) es ≡ false) → twice_in t es ≡ false
no_window t [] i = refl
no_window t (e ∷ es) i =
    let k = e.handle in
    let d = any_of (live_of k) es in
    let o = nor_left (both t (k / 1024) k && d) (twice_in (both t (k / 1024)) es) (i (k / 1024)) in
    rw (widen (t k) d (rw (eq-eqb (k / 1024) (k / 1024) refl) at o)) (no_window t es (λ w. nor_right (both t w k && d) (twice_in (both t w) es) (i w)))
  where
    widen : (a b : Bool) → (a && true) && b ≡ false → a && b ≡ false
    widen true b z = z
    widen false b z = refl

-- below i there is none
pub record Windowed (t : ℕ → Bool) (es : List Entry) (i : ℕ) : Type 0 where
  pub none : (w : ℕ) → w < i → twice_in (both t w) es ≡ false

pub windowed_start : {t : ℕ → Bool} {es : List Entry} → Windowed t es 0
windowed_start = record { none = λ w l. absurd (let z : ⊥ = omega arith in z) }

module _ {t : ℕ → Bool} {es : List Entry} {i : ℕ} {b : Bool} (x : Windowed t es i) (e : b ≡ twice_in (both t i) es) where
  pub windowed_on : b ≡ false → Windowed t es (i + 1)
  windowed_on z =
      record {
        none = λ w l.
            ⊎_elim
            (λ (y : i ≤ w). let o : w ≡ i = omega arith in rw o (sym e ∙ z))
            (λ (y : w < i). x.none w y)
            (le_or_lt i w);
      }

  pub windowed_found : b ≡ true → b ≡ twice_in t es
  windowed_found z = rw (z, true_by (twice_in (both t i) es) (twice_in t es) (part_false t i es) (sym e ∙ z))

pub windowed_below : {t : ℕ → Bool} {es : List Entry} {i j : ℕ} → Windowed t es i → j ≤ i → Windowed t es j
windowed_below x l = record { none = λ w h. x.none w (omega arith) }

-- and if one more is left aside, there is none either
pub windowed_aside : {es : List Entry} {i : ℕ} (k : ℕ) → Windowed (beside 0) es i → Windowed (beside k) es i
windowed_aside {es} k x = record { none = λ w h. narrow (both (beside 0) w) (both (beside k) w) (λ u l q. rw (l, and_right (beside k u) (in_window w u) q)) es (x.none w h) }

-- no window from i on has its bit set
module _ {t : ℕ → Bool} {es : List Entry} {i n : ℕ} (x : Windowed t es i) where
  pub windowed_past : n / 2 ^ i ≡ 0 → n ≡ (all_noted any_handle blank_map nothing es).windows → false ≡ twice_in t es
  windowed_past q e = rw (no_window t es all)
    where
      below : n < 2 ^ i
      below = let l : n < 2 ^ i * (0 + 1) = rw q at (lt-mul-div-succ n {b = 2 ^ i} (pow_pos i)) in omega arith

      high : (w : ℕ) → i ≤ w → is_set n w ≡ false
      high w y =
          let p = pow_mono {i = i} {j = w} y in
          let l = below in
          let z : n / 2 ^ w ≡ 0 = div-eq_of_lt (omega arith) in
          rw (set_by n w, z)

      all : (w : ℕ) → twice_in (both t w) es ≡ false
      all w =
          ⊎_elim
          (λ (y : i ≤ w). unmet es t w (rw (← e) (high w y)))
          (λ (y : w < i). x.none w (omega arith))
          (le_or_lt i w)

  pub windowed_end : 64 ≤ i → n ≡ (all_noted any_handle blank_map nothing es).windows → Fits w64 n → false ≡ twice_in t es
  windowed_end l e g =
      let p = pow_mono {i = 64} {j = i} l in
      windowed_past (div-eq_of_lt (omega (arith, g.fits))) e

pub ruleset windows = (window_clear, windowed_start, windowed_on, windowed_found, windowed_below, windowed_past, windowed_end)

-- ---- no handle left aside: entries are live under none that is 0
pub live_twice : (es : List Entry) → twice_in (beside 0) es ≡ twice es
live_twice [] = refl
live_twice (e ∷ es) = rw (live_twice es) (ap (λ (b : Bool). b || twice es) (go (is_live e.handle) refl))
  where
    go : (b : Bool) → is_live e.handle ≡ b → is_live e.handle && any_of (live_of e.handle) es ≡ any_of (live_of e.handle) es
    go true q = rw q
    go false q = rw (q, dead_none e.handle es q)

pub twice_by : {b : Bool} (es : List Entry) → b ≡ twice_in (beside 0) es → b ≡ twice es
twice_by es e = e ∙ live_twice es

pub ruleset confirms = (twice_by, windowed_start)
