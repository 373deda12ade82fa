-- The kinds of frames: their numbers, the digits that they have, and the frame of a line by its kind: definitions and laws. Assumes nothing.
use Rattle.std.specs.Prelude.{◌≡◌, Some, None, List, Bool, true, false, ℕ, ◌-◌, ◌/◌, ◌≤◌, ◌<◌, length, leb, eqb}
use Rattle.std.proofs.Common.{sym, ◌∙◌, arith, leb-true, eqb-true, ne_eqb}
use Rattle.rules.specs.Laws.{and_left}
use Rattle.frames.specs.declared.Frame.{Frame}
use Rattle.frames.specs.declared.line.Kind.{Kind}
use Rattle.frames.specs.Frames.{two, four, is_write, shaped}

-- ---- a kind's number in document 01's table
abbrev pub number_of_kind : Kind → ℕ
number_of_kind Kind.Write = 0x01
number_of_kind Kind.Read = 0x02
number_of_kind Kind.Delete = 0x03
number_of_kind Kind.List = 0x04
number_of_kind Kind.Recover = 0x05
number_of_kind Kind.Power = 0x06
number_of_kind Kind.Format = 0x07

-- whether a frame of a kind can have so many digits
abbrev pub has_digits : Kind → ℕ → Bool
has_digits Kind.Write n = is_write n
has_digits Kind.Read n = eqb n 6
has_digits Kind.Delete n = eqb n 6
has_digits Kind.List n = eqb n 10
has_digits Kind.Recover n = eqb n 2
has_digits Kind.Power n = eqb n 6
has_digits Kind.Format n = eqb n 6

-- ---- the frame by its kind
module _ (l : List ℕ) where
  pub no_kind : (n : ℕ) → (1 ≤ n → 7 < n) → None ≡ shaped n l
  unfolding shaped
  no_kind n h =
      rw (
        ne_eqb n 1 (λ (e : n ≡ 1). let k = h (omega arith) in omega arith),
        ne_eqb n 2 (λ (e : n ≡ 2). let k = h (omega arith) in omega arith),
        ne_eqb n 3 (λ (e : n ≡ 3). let k = h (omega arith) in omega arith),
        ne_eqb n 4 (λ (e : n ≡ 4). let k = h (omega arith) in omega arith),
        ne_eqb n 5 (λ (e : n ≡ 5). let k = h (omega arith) in omega arith),
        ne_eqb n 6 (λ (e : n ≡ 6). let k = h (omega arith) in omega arith),
        ne_eqb n 7 (λ (e : n ≡ 7). let k = h (omega arith) in omega arith),
      )

  unshaped : (k : Kind) → has_digits k (length l) ≡ false → None ≡ shaped (number_of_kind k) l
  unfolding shaped
  unshaped Kind.Write e = rw e
  unshaped Kind.Read e = rw e
  unshaped Kind.Delete e = rw e
  unshaped Kind.List e = rw e
  unshaped Kind.Recover e = rw e
  unshaped Kind.Power e = rw e
  unshaped Kind.Format e = rw e

  module _ {b : Bool} (k : Kind) (q : b ≡ has_digits k (length l)) where
    pub no_frame : b ≡ false → None ≡ shaped (number_of_kind k) l
    no_frame t = unshaped k (sym q ∙ t)

    module _ (t : b ≡ true) where
      has : has_digits k (length l) ≡ true
      has = sym q ∙ t

      pub write_wide : k ≡ Kind.Write → 6 ≤ length l
      write_wide e = let h : is_write (length l) ≡ true = rw e at has in leb-true 6 (length l) (and_left (leb 6 (length l)) _ h)

      pub read_wide : k ≡ Kind.Read → length l ≡ 6
      read_wide e = let h : eqb (length l) 6 ≡ true = rw e at has in eqb-true (length l) 6 h

      pub delete_wide : k ≡ Kind.Delete → length l ≡ 6
      delete_wide e = let h : eqb (length l) 6 ≡ true = rw e at has in eqb-true (length l) 6 h

      pub list_wide : k ≡ Kind.List → length l ≡ 10
      list_wide e = let h : eqb (length l) 10 ≡ true = rw e at has in eqb-true (length l) 10 h

      pub power_wide : k ≡ Kind.Power → length l ≡ 6
      power_wide e = let h : eqb (length l) 6 ≡ true = rw e at has in eqb-true (length l) 6 h

      pub format_wide : k ≡ Kind.Format → length l ≡ 6
      format_wide e = let h : eqb (length l) 6 ≡ true = rw e at has in eqb-true (length l) 6 h

      pub is_write_shaped : {h : ℕ} → k ≡ Kind.Write → h ≡ four l 2 → Some (Frame.Write h ((length l - 6) / 8)) ≡ shaped (number_of_kind k) l
      unfolding shaped
      is_write_shaped e d = let h : is_write (length l) ≡ true = rw e at has in rw (e, h, d)

      pub is_read : {h : ℕ} → k ≡ Kind.Read → h ≡ four l 2 → Some (Frame.Read h) ≡ shaped (number_of_kind k) l
      unfolding shaped
      is_read e d = rw (e, read_wide e, d)

      pub is_delete : {h : ℕ} → k ≡ Kind.Delete → h ≡ four l 2 → Some (Frame.Delete h) ≡ shaped (number_of_kind k) l
      unfolding shaped
      is_delete e d = rw (e, delete_wide e, d)

      pub is_list : {m p : ℕ} → k ≡ Kind.List → m ≡ four l 2 → p ≡ four l 6 → Some (Frame.List m p) ≡ shaped (number_of_kind k) l
      unfolding shaped
      is_list e d q = rw (e, list_wide e, d, q)

      pub is_recover : k ≡ Kind.Recover → Some Frame.Recover ≡ shaped (number_of_kind k) l
      unfolding shaped
      is_recover e = let h : eqb (length l) 2 ≡ true = rw e at has in rw (e, h)

      pub is_power : {h : ℕ} → k ≡ Kind.Power → h ≡ four l 2 → Some (Frame.Power h) ≡ shaped (number_of_kind k) l
      unfolding shaped
      is_power e d = rw (e, power_wide e, d)

      pub is_format_shaped : {n z : ℕ} → k ≡ Kind.Format → n ≡ two l 2 → z ≡ two l 4 → Some (Frame.Format n z) ≡ shaped (number_of_kind k) l
      unfolding shaped
      is_format_shaped e d q = rw (e, format_wide e, d, q)

pub ruleset kinds = (no_frame, write_wide, read_wide, delete_wide, list_wide, power_wide, format_wide, is_write_shaped, is_read, is_delete, is_list, is_recover, is_power, is_format_shaped)
