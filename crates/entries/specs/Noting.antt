-- A map of handles noted, what is kept beside it, and laws: which handles may have been noted twice. Assumes nothing.
use Rattle.std.specs.Prelude.{◌≡◌, List, [], ◌∷◌, Bool, not, ◌&&◌, ℕ, ◌*◌, ◌/◌, ◌%◌, ◌^◌, ◌≤◌, ◌<◌, get_or, replicate, ltb, eqb}
use Rattle.std.proofs.Math.Path.{refl}
use Rattle.std.proofs.Common.{sym, ◌∙◌, arith, mod-eq_of_lt}
use Rattle.std.proofs.Math.Bool.{true, false, cond}
use Rattle.std.proofs.Math.Pow.{pow-lt}
use borrow.Author.Tests.{lt-ltb, le-ltb, not-true, not-false}
use Rattle.std.proofs.Math.ListN.{set}
use Rattle.std.proofs.lemmas.List.{set-get_or}
use Rattle.std.specs.Int.Bits.{bit_and, bit_or, or_zero_r, and_zero_r}
use Rattle.rules.specs.Words.{is_live}
use Rattle.rules.specs.Areas.{Entry}
use Rattle.entries.specs.declared.doubles.Seen.{Seen}

-- ---- the map: sixteen numbers of 64 bits
abbrev pub slot : ℕ → ℕ
slot h = h / 64 % 16

-- whether a number's bit is set
abbrev pub is_set : ℕ → ℕ → Bool
is_set n k = not (eqb (bit_and n (2 ^ k)) 0)

-- whether a handle's bit is
abbrev pub has : List ℕ → ℕ → Bool
has m h = is_set (get_or m (slot h) 0) (h % 64)

-- the map once a handle is noted, if it is to be
unfoldable pub marked : List ℕ → Bool → ℕ → List ℕ
marked m t h = cond t (set m (slot h) (bit_or (get_or m (slot h) 0) (2 ^ (h % 64)))) m

-- what is kept beside it: the highest handle noted, and the windows in which one may have been noted twice
pub record Kept : Type 0 where
  pub top : ℕ
  pub windows : ℕ

abbrev pub kept : Seen → Kept
kept n = record { top = n.top; windows = n.windows }

-- that, once a handle is noted
unfoldable pub noted : List ℕ → Kept → Bool → ℕ → Kept
noted m s t h =
    cond t (cond (ltb s.top h) (record { top = h; windows = s.windows }) (cond (has m h) (record { top = s.top; windows = bit_or s.windows (2 ^ (h / 1024)) }) s)) s

-- ---- entries are noted, one behind the other: those that are live and whose handle passes a test
abbrev pub is_noted : (ℕ → Bool) → Entry → Bool
is_noted t e = is_live e.handle && t e.handle

abbrev pub all_marked : (ℕ → Bool) → List ℕ → List Entry → List ℕ
all_marked t m [] = m
all_marked t m (e ∷ es) = all_marked t (marked m (is_noted t e) e.handle) es

abbrev pub all_noted : (ℕ → Bool) → List ℕ → Kept → List Entry → Kept
all_noted t m s [] = s
all_noted t m s (e ∷ es) = all_noted t (marked m (is_noted t e) e.handle) (noted m s (is_noted t e) e.handle) es

abbrev pub any_handle : ℕ → Bool
any_handle h = true

-- all but one handle
abbrev pub beside : ℕ → ℕ → Bool
beside k h = not (eqb h k)

-- a walk begins
abbrev pub blank_map : List ℕ
blank_map = replicate 16 0

abbrev pub nothing : Kept
nothing = record { top = 0; windows = 0 }

abbrev pub unseen : Seen
unseen = record { map = blank_map; top = 0; windows = 0 }

-- ---- a handle is noted
pub one_bit : (k : ℕ) → k < 64 → 1 * 2 ^ k % 18446744073709551616 ≡ 2 ^ k
one_bit k h = let e : 1 * 2 ^ k ≡ 2 ^ k = omega arith in rw e (mod-eq_of_lt (pow-lt {i = k} {j = 64} h))

pub unmarked : (t : Bool) (m : List ℕ) (h : ℕ) → t ≡ false → m ≡ marked m t h
unfolding marked
unmarked t m h q = rw q

pub unnoted : (t : Bool) (m : List ℕ) (h : ℕ) → t ≡ false → (s : Kept) → s ≡ noted m s t h
unfolding noted
unnoted t m h q s = rw q

module _ {b : ℕ} (t : Bool) (m : List ℕ) (h : ℕ) (e : b ≡ cond t (2 ^ (h % 64)) 0) where
  pub mark_map : set m (slot h) (bit_or (get_or m (slot h) 0) b) ≡ marked m t h
  unfolding marked
  mark_map = rw e (go t)
    where
      go : (t : Bool) → set m (slot h) (bit_or (get_or m (slot h) 0) (cond t (2 ^ (h % 64)) 0)) ≡ cond t (set m (slot h) (bit_or (get_or m (slot h) 0) (2 ^ (h % 64)))) m
      go true = refl
      go false = rw (or_zero_r (get_or m (slot h) 0)) (set-get_or m (slot h) 0)

  pub mark_has : not (eqb (bit_and (get_or m (slot h) 0) b) 0) ≡ t && has m h
  mark_has = rw e (go t)
    where
      go : (t : Bool) → not (eqb (bit_and (get_or m (slot h) 0) (cond t (2 ^ (h % 64)) 0)) 0) ≡ t && has m h
      go true = refl
      go false = rw (and_zero_r (get_or m (slot h) 0))

module _ {b : Bool} (m : List ℕ) (h : ℕ) (e : b ≡ has m h) (s : Kept) where
  pub note_higher : s.top < h → record { top = h; windows = s.windows } ≡ noted m s true h
  unfolding noted
  note_higher l = rw (lt-ltb s.top h l)

  module _ (l : h ≤ s.top) where
    pub note_new : not b ≡ true → s ≡ noted m s true h
    unfolding noted
    note_new z = rw (le-ltb s.top h l, sym e ∙ not-true b z)

    pub note_again : {w : ℕ} → not b ≡ false → w ≡ bit_or s.windows (2 ^ (h / 1024)) → record { top = s.top; windows = w } ≡ noted m s true h
    unfolding noted
    note_again z y = rw (le-ltb s.top h l, sym e ∙ not-false b z, y)

pub ruleset notes = (one_bit, mark_map, mark_has, note_higher, note_new, note_again)
