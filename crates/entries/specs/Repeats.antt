-- Handles that are live twice, from a map of those noted: laws. What is noted twice leaves its window's bit; in one window a set bit is a
-- handle noted before. Assumes nothing.
use Rattle.std.specs.Prelude.{◌≡◌, List, [], ◌∷◌, Bool, cond, not, ◌&&◌, ◌||◌, ◌⊎◌, ℕ, suc, zero, ◌+◌, ◌*◌, ◌-◌, ◌/◌, ◌%◌, ◌^◌, ◌≤◌, ◌<◌, get_or, leb}
use Rattle.std.proofs.Math.Path.{refl}
use Rattle.std.proofs.Common.{sym, ap, ◌∙◌, true≢false, inl, inr, mul-div_cancel, pow-add, pow_pos, length-set, get_or-set_other}
use Rattle.std.proofs.Math.Bool.{true, false, and-false, or-true, or-false}
use Rattle.std.proofs.Math.Logic.{⊎_elim}
use native.Mathlib.Omega.{arith}
use Rattle.std.proofs.Math.Nat.{mod-lt, div-eq_of_lt, div_self}
use Rattle.std.proofs.Math.Pow.{pow-lt}
use Rattle.std.proofs.Math.ListN.{length}
use Rattle.std.proofs.Math.Seq.{get_or-set_same}
use Rattle.std.specs.Int.Bits.{bit_and, bit_or}
use Rattle.std.proofs.lemmas.Nat.Bits.{and_high}
use Rattle.std.proofs.lemmas.Nat.{or_shr, or_mod}
use Rattle.std.proofs.Math.Dec.{ltb, eqb}
use borrow.Author.Tests.{ltb-true, ltb-false, leb-true, eqb-true, eqb-false, lt-leb, le-leb, eq-eqb, ne_eqb}
use Rattle.flash.specs.Laws.{le_or_lt}
use Rattle.rules.specs.Words.{is_live}
use Rattle.rules.specs.Areas.{Entry, any_of, live_of}
use Rattle.rules.specs.Laws.{and_left, and_right, nor_left, nor_right}
use Rattle.entries.specs.Noting.{Kept, slot, is_set, has, marked, noted, is_noted, all_noted}

pub eq_or_not : (a b : ℕ) → (a ≡ b) ⊎ (a ≡ b → ⊥)
eq_or_not a b = go (eqb a b) refl
  where
    go : (t : Bool) → eqb a b ≡ t → (a ≡ b) ⊎ (a ≡ b → ⊥)
    go true e = inl (eqb-true a b e)
    go false e = inr (eqb-false a b e)

-- ---- bits
and_bit : (n k : ℕ) → bit_and n (2 ^ k) ≡ (n / 2 ^ k % 2) * 2 ^ k
and_bit n k =
    let p : 2 ^ (1 + k) ≡ 2 * 2 ^ k = pow-add 2 1 k in
    let e : 2 ^ (1 + k) - 2 ^ k ≡ 2 ^ k = omega arith in
    rw e at (and_high n 1 k)

-- a bit is 0 or 1
pub set_by : (n k : ℕ) → is_set n k ≡ eqb (n / 2 ^ k % 2) 1
set_by n k = rw (and_bit n k) (go (n / 2 ^ k % 2) (mod-lt (n / 2 ^ k) (omega arith)))
  where
    go : (b : ℕ) → b < 2 → not (eqb (b * 2 ^ k) 0) ≡ eqb b 1
    go zero h = let z : 0 * 2 ^ k ≡ 0 = omega arith in rw z
    go (suc zero) h =
        let p = pow_pos k in
        let z : 1 * 2 ^ k ≡ 2 ^ k = omega arith in
        rw (z, ne_eqb (2 ^ k) 0 (λ q. omega arith))
    go (suc (suc b)) h = absurd (let z : ⊥ = omega arith in z)

or_bit : (a b : ℕ) → a < 2 → b < 2 → eqb (bit_or a b) 1 ≡ eqb a 1 || eqb b 1
or_bit zero zero h l = refl
or_bit zero (suc zero) h l = refl
or_bit (suc zero) zero h l = refl
or_bit (suc zero) (suc zero) h l = refl
or_bit zero (suc (suc b)) h l = absurd (let z : ⊥ = omega arith in z)
or_bit (suc zero) (suc (suc b)) h l = absurd (let z : ⊥ = omega arith in z)
or_bit (suc (suc a)) b h l = absurd (let z : ⊥ = omega arith in z)

pub set_or : (a b k : ℕ) → is_set (bit_or a b) k ≡ is_set a k || is_set b k
set_or a b k =
    let u = a / 2 ^ k in
    let v = b / 2 ^ k in
    rw (set_by (bit_or a b) k, set_by a k, set_by b k, or_shr a b k, or_mod u v 1) (or_bit (u % 2) (v % 2) (mod-lt u (omega arith)) (mod-lt v (omega arith)))

pub set_self : (k : ℕ) → is_set (2 ^ k) k ≡ true
set_self k = rw (set_by (2 ^ k) k, div_self (pow_pos k))

pub set_other : (i k : ℕ) → (i ≡ k → ⊥) → is_set (2 ^ i) k ≡ false
set_other i k n =
    ⊎_elim
    (λ (h : k ≤ i).
    let d = i - k - 1 in
    let e : i ≡ 1 + d + k = omega arith in
    let p : 2 ^ i ≡ 2 ^ (1 + d) * 2 ^ k = ap (λ (x : ℕ). 2 ^ x) e ∙ pow-add 2 (1 + d) k in
    let q : 2 ^ (1 + d) ≡ 2 * 2 ^ d = pow-add 2 1 d in
    let z : 2 ^ (1 + d) % 2 ≡ 0 = omega arith in
    rw (set_by (2 ^ i) k, p, mul-div_cancel (2 ^ (1 + d)) (pow_pos k), z))
    (λ (h : i < k). rw (set_by (2 ^ i) k, div-eq_of_lt (pow-lt {i = i} {j = k} h)))
    (le_or_lt k i)

-- ---- the map
pub marked_long : (m : List ℕ) (t : Bool) (h : ℕ) → length (marked m t h) ≡ length m
unfolding marked
marked_long m true h = length-set m (slot h) _
marked_long m false h = refl

-- a handle's bit is set by it, and by those that differ from it by a multiple of 1,024
module _ (m : List ℕ) (n : length m ≡ 16) (h x : ℕ) where
  pub has_marked : has (marked m true h) x ≡ has m x || eqb (h % 1024) (x % 1024)
  unfolding marked
  has_marked =
      ⊎_elim
      (λ (e : slot x ≡ slot h).
      let i : slot h < length m = omega (arith, mod-lt (h / 64) {m = 16} (omega arith)) in
      rw (e, get_or-set_same m (slot h) (bit_or (get_or m (slot h) 0) (2 ^ (h % 64))) 0 i, set_or (get_or m (slot h) 0) (2 ^ (h % 64)) (x % 64))
      (ap (λ (b : Bool). is_set (get_or m (slot h) 0) (x % 64) || b) (here e)))
      (λ (d : slot x ≡ slot h → ⊥).
      rw (get_or-set_other m (slot h) (slot x) (bit_or (get_or m (slot h) 0) (2 ^ (h % 64))) 0 d, ne_eqb (h % 1024) (x % 1024) (λ q. d (omega arith))) (sym (or-false (has m x))))
      (eq_or_not (slot x) (slot h))
    where
      here : slot x ≡ slot h → is_set (2 ^ (h % 64)) (x % 64) ≡ eqb (h % 1024) (x % 1024)
      here e =
          ⊎_elim
          (λ (q : h % 64 ≡ x % 64). rw (q, set_self (x % 64), eq-eqb (h % 1024) (x % 1024) (omega arith)))
          (λ (d : h % 64 ≡ x % 64 → ⊥). rw (set_other (h % 64) (x % 64) d, ne_eqb (h % 1024) (x % 1024) (λ q. d (omega arith))))
          (eq_or_not (h % 64) (x % 64))

-- ---- handles that pass a test and are live twice
abbrev pub twice_in : (ℕ → Bool) → List Entry → Bool
twice_in t [] = false
twice_in t (e ∷ es) = (t e.handle && any_of (live_of e.handle) es) || twice_in t es

-- the windows of 1,024 handles
abbrev pub in_window : ℕ → ℕ → Bool
in_window w h = eqb (h / 1024) w

-- a test, within one window
abbrev pub both : (ℕ → Bool) → ℕ → ℕ → Bool
both t w h = t h && in_window w h

pub false_by : (a b : Bool) → (a ≡ true → b ≡ true) → b ≡ false → a ≡ false
false_by true b i n = sym (i refl) ∙ n
false_by false b i n = refl

pub true_by : (a b : Bool) → (b ≡ false → a ≡ false) → a ≡ true → b ≡ true
true_by a true i q = refl
true_by a false i q = absurd (true≢false (sym q ∙ i refl))

-- what passes a test passes a wider one
any_false : (p q : Entry → Bool) → ((e : Entry) → p e ≡ true → q e ≡ true) → (es : List Entry) → any_of q es ≡ false → any_of p es ≡ false
any_false p q i [] n = refl
any_false p q i (e ∷ es) n = rw (false_by (p e) (q e) (i e) (nor_left (q e) (any_of q es) n), any_false p q i es (nor_right (q e) (any_of q es) n))

any_no : (es : List Entry) → any_of (λ e. false) es ≡ false
any_no [] = refl
any_no (e ∷ es) = any_no es

-- a handle that no entry can be live under is not live behind anything
pub dead_none : (h : ℕ) (es : List Entry) → is_live h ≡ false → any_of (live_of h) es ≡ false
dead_none h es d = any_false (live_of h) (λ e. false) (λ e q. sym d ∙ and_left (is_live h) (eqb e.handle h) q) es (any_no es)

-- what is not noted has no part in it
pub alone : (t : ℕ → Bool) (e : Entry) (es : List Entry) → is_noted t e ≡ false → t e.handle && any_of (live_of e.handle) es ≡ false
alone t e es q = go (is_live e.handle) refl (t e.handle) refl q
  where
    go : (a : Bool) → is_live e.handle ≡ a → (b : Bool) → t e.handle ≡ b → a && b ≡ false → t e.handle && any_of (live_of e.handle) es ≡ false
    go a p false r z = rw r
    go false p true r z = rw (dead_none e.handle es p) (and-false (t e.handle))
    go true p true r z = absurd (true≢false z)

-- ---- a handle that was noted is met again: its bit is set, and it is not above the highest
abbrev met : List ℕ → Kept → ℕ → Bool
met m s h = has m h && leb h s.top

module _ (m : List ℕ) (s : Kept) (h : ℕ) where
  top_higher : s.top ≤ (noted m s true h).top
  unfolding noted
  top_higher = go (ltb s.top h) refl (has m h)
    where
      go : (b : Bool) → ltb s.top h ≡ b → (c : Bool)
          → s.top ≤ (cond b (record { top = h; windows = s.windows }) (cond c (record { top = s.top; windows = bit_or s.windows (2 ^ (h / 1024)) }) s)).top
      go true q c = let l = ltb-true s.top h q in omega arith
      go false q true = omega arith
      go false q false = omega arith

  top_reached : h ≤ (noted m s true h).top
  unfolding noted
  top_reached = go (ltb s.top h) refl (has m h)
    where
      go : (b : Bool) → ltb s.top h ≡ b → (c : Bool)
          → h ≤ (cond b (record { top = h; windows = s.windows }) (cond c (record { top = s.top; windows = bit_or s.windows (2 ^ (h / 1024)) }) s)).top
      go true q c = omega arith
      go false q true = ltb-false s.top h q
      go false q false = ltb-false s.top h q

  -- its window's bit is set
  window_set : (w : ℕ) → is_set (noted m s true h).windows w ≡ false → (is_set s.windows w ≡ false) × (in_window w h && met m s h ≡ false)
  unfolding noted
  window_set w = go (ltb s.top h) refl (has m h) refl
    where
      other : (t : Bool) → t && false ≡ false
      other true = refl
      other false = refl

      away : is_set (2 ^ (h / 1024)) w ≡ false → in_window w h ≡ false
      away z = ne_eqb (h / 1024) w (λ q. true≢false (sym (rw q (set_self w)) ∙ z))

      go : (b : Bool) → ltb s.top h ≡ b → (c : Bool) → has m h ≡ c
          → is_set (cond b (record { top = h; windows = s.windows }) (cond c (record { top = s.top; windows = bit_or s.windows (2 ^ (h / 1024)) }) s)).windows w ≡ false
          → (is_set s.windows w ≡ false) × (in_window w h && met m s h ≡ false)
      go true q c p z = (z, let l = ltb-true s.top h q in rw (lt-leb h s.top l, other (has m h)) (other (in_window w h)))
      go false q true p z =
          let y = sym (set_or s.windows (2 ^ (h / 1024)) w) ∙ z in
          (nor_left (is_set s.windows w) (is_set (2 ^ (h / 1024)) w) y, rw (away (nor_right (is_set s.windows w) (is_set (2 ^ (h / 1024)) w) y)))
      go false q false p z = (z, rw p (other (in_window w h)))

  module _ (n : length m ≡ 16) where
    met_still : (x : ℕ) → met m s x ≡ true → met (marked m true h) (noted m s true h) x ≡ true
    met_still x e =
        let l = leb-true x s.top (and_right (has m x) (leb x s.top) e) in
        let g = top_higher in
        rw (has_marked m n h x, and_left (has m x) (leb x s.top) e) (le-leb x (noted m s true h).top (omega arith))

    met_self : met (marked m true h) (noted m s true h) h ≡ true
    met_self = rw (has_marked m n h h, eq-eqb (h % 1024) (h % 1024) refl, or-true (has m h)) (le-leb h (noted m s true h).top top_reached)

-- ---- a window whose bit is not set has no handle twice
module _ (t : ℕ → Bool) (w : ℕ) where
  abbrev again : List ℕ → Kept → Entry → Bool
  again m s e = is_noted t e && (in_window w e.handle && met m s e.handle)

  record Clear (m : List ℕ) (s : Kept) (es : List Entry) : Type 0 where
    windows : is_set s.windows w ≡ false
    fresh : any_of (again m s) es ≡ false
    once : twice_in (both t w) es ≡ false

  -- an entry in front that is not noted
  clear_past : (m : List ℕ) (s : Kept) (e : Entry) (es : List Entry) → is_noted t e ≡ false → Clear (marked m false e.handle) (noted m s false e.handle) es
      → Clear m s (e ∷ es)
  unfolding marked noted
  clear_past m s e es q c = record { windows = c.windows; fresh = rw q c.fresh; once = rw (alone (both t w) e es (off (is_live e.handle) (t e.handle) (in_window w e.handle) q)) c.once }
    where
      off : (a b d : Bool) → a && b ≡ false → a && (b && d) ≡ false
      off true true d z = absurd (true≢false z)
      off true false d z = refl
      off false b d z = refl

  -- one that is
  clear_noted : (m : List ℕ) (s : Kept) (e : Entry) (es : List Entry) → length m ≡ 16 → is_noted t e ≡ true
      → Clear (marked m true e.handle) (noted m s true e.handle) es → Clear m s (e ∷ es)
  clear_noted m s e es n q c =
      record {
        windows = x.0;
        fresh = rw (q, x.1) (any_false (again m s) (again m' s') still es c.fresh);
        once = rw (false_by (both t w h && any_of (live_of h) es) (any_of (again m' s') es) found c.fresh) c.once;
      }
    where
      h : ℕ
      h = e.handle

      m' : List ℕ
      m' = marked m true h

      s' : Kept
      s' = noted m s true h

      x : (is_set s.windows w ≡ false) × (in_window w h && met m s h ≡ false)
      x = window_set m s h w c.windows

      still : (d : Entry) → again m s d ≡ true → again m' s' d ≡ true
      still d y =
          let k = d.handle in
          let a = and_left (is_noted t d) (in_window w k && met m s k) y in
          let b = and_right (is_noted t d) (in_window w k && met m s k) y in
          rw (a, and_left (in_window w k) (met m s k) b, met_still m s h n k (and_right (in_window w k) (met m s k) b))

      same : (d : Entry) → both t w h ≡ true → live_of h d ≡ true → again m' s' d ≡ true
      same d g y =
          let k : d.handle ≡ h = eqb-true d.handle h (and_right (is_live h) (eqb d.handle h) y) in
          rw (k, and_left (is_live h) (eqb d.handle h) y, and_left (t h) (in_window w h) g, and_right (t h) (in_window w h) g) (met_self m s h n)

      found : both t w h && any_of (live_of h) es ≡ true → any_of (again m' s') es ≡ true
      found y = true_by (any_of (live_of h) es) (any_of (again m' s') es) (any_false (live_of h) (again m' s') (λ d. same d (and_left (both t w h) (any_of (live_of h) es) y)) es) (and_right (both t w h) (any_of (live_of h) es) y)

  clear : (m : List ℕ) (s : Kept) (es : List Entry) → length m ≡ 16 → is_set (all_noted t m s es).windows w ≡ false → Clear m s es
  clear m s [] n z = record { windows = z; fresh = refl; once = refl }
  clear m s (e ∷ es) n z =
      go (is_noted t e) refl (clear (marked m (is_noted t e) e.handle) (noted m s (is_noted t e) e.handle) es (marked_long m (is_noted t e) e.handle ∙ n) z)
    where
      go : (b : Bool) → is_noted t e ≡ b → Clear (marked m b e.handle) (noted m s b e.handle) es → Clear m s (e ∷ es)
      go true q c = clear_noted m s e es n q c
      go false q c = clear_past m s e es q c

  pub window_once : (m : List ℕ) (s : Kept) (es : List Entry) → length m ≡ 16 → is_set (all_noted t m s es).windows w ≡ false → twice_in (both t w) es ≡ false
  window_once m s es n z = (clear m s es n z).once
