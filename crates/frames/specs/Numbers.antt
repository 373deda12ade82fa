-- The number that digits make, one behind the other, and that two, four and eight of a line's digits make: definition and laws. Assumes nothing.
use Rattle.std.specs.Prelude.{◌≡◌, refl, List, [], ◌∷◌, Bool, true, false, ◌&&◌, ◌⊎◌, ℕ, suc, zero, ◌+◌, ◌-◌, ◌*◌, ◌^◌, ◌≤◌, ◌<◌, length, get_or, take, drop, leb}
use Rattle.std.proofs.Common.{◌∙◌, inl, inr, ⊎_elim, arith, add-one, drop-cons, drop_of_length-le, length-take, length-drop, le-leb, leb-true, lit<, Fits}
use Rattle.std.proofs.Math.Nat.{pow-suc, pow-le-pow_right}
use Rattle.std.proofs.lemmas.Bool.{lt-leb}
use Rattle.std.specs.Int.{w8, w16, w32}
use Rattle.rules.specs.Laws.{and_left, and_right}
use Rattle.frames.specs.Frames.{is_digit, all_digits, value, two, four, eight}

-- ---- the number of digits that come behind a number
abbrev pub number_from : ℕ → List ℕ → ℕ
number_from n [] = n
number_from n (b ∷ l) = number_from (16 * n + value b) l

unfoldable pub number_of : List ℕ → ℕ
number_of l = number_from 0 l

-- ---- a digit's number
low_or_high : (b : ℕ) → is_digit b ≡ true → ((0x30 ≤ b) × (b ≤ 0x39)) ⊎ ((0x41 ≤ b) × (b ≤ 0x46))
low_or_high b e = go (leb 0x30 b && leb b 0x39) refl
  where
    go : (c : Bool) → leb 0x30 b && leb b 0x39 ≡ c → ((0x30 ≤ b) × (b ≤ 0x39)) ⊎ ((0x41 ≤ b) × (b ≤ 0x46))
    go true q = inl (leb-true 0x30 b (and_left (leb 0x30 b) (leb b 0x39) q), leb-true b 0x39 (and_right (leb 0x30 b) (leb b 0x39) q))
    go false q =
        let h : leb 0x41 b && leb b 0x46 ≡ true = rw q at e in
        inr (leb-true 0x41 b (and_left (leb 0x41 b) (leb b 0x46) h), leb-true b 0x46 (and_right (leb 0x41 b) (leb b 0x46) h))

pub value_small : (b : ℕ) → is_digit b ≡ true → value b ≤ 15
value_small b e =
    ⊎_elim
    (λ (q : (0x30 ≤ b) × (b ≤ 0x39)). let h = q.1 in rw (le-leb b 0x39 h) (omega arith))
    (λ (q : (0x41 ≤ b) × (b ≤ 0x46)). let h = q.0 in let k = q.1 in rw (lt-leb b 0x39 (omega arith)) (omega arith))
    (low_or_high b e)

-- ---- digits at places, and from a place on
pub digit_at : (l : List ℕ) (i : ℕ) → all_digits l ≡ true → i < length l → is_digit (get_or l i 0) ≡ true
digit_at [] i d h = absurd (omega arith)
digit_at (b ∷ l) zero d h = and_left (is_digit b) (all_digits l) d
digit_at (b ∷ l) (suc i) d h = digit_at l i (and_right (is_digit b) (all_digits l) d) (omega arith)

digits_drop : (n : ℕ) (l : List ℕ) → all_digits l ≡ true → all_digits (drop n l) ≡ true
digits_drop zero l d = d
digits_drop (suc n) [] d = refl
digits_drop (suc n) (b ∷ l) d = digits_drop n l (and_right (is_digit b) (all_digits l) d)

digits_take : (n : ℕ) (l : List ℕ) → all_digits l ≡ true → all_digits (take n l) ≡ true
digits_take zero l d = refl
digits_take (suc n) [] d = refl
digits_take (suc n) (b ∷ l) d = rw (and_left (is_digit b) (all_digits l) d) (digits_take n l (and_right (is_digit b) (all_digits l) d))

pub digits_part : (n i : ℕ) (l : List ℕ) → all_digits l ≡ true → all_digits (take n (drop i l)) ≡ true
digits_part n i l d = digits_take n (drop i l) (digits_drop i l d)

-- ---- the number of digits, read one behind the other: the first i of the digits l make n
pub record Counted (l : List ℕ) (i n : ℕ) : Type 0 where
  pub same : number_from n (drop i l) ≡ number_of l
  pub small : n < 16 ^ i

pub counted_start : {l : List ℕ} → Counted l 0 0
unfolding number_of
counted_start = record { same = refl; small = omega arith }

module _ {l : List ℕ} {i n : ℕ} (c : Counted l i n) where
  pub counted_on : {v : ℕ} → v ≡ value (get_or l i 0) → v < 16 → i < length l → Counted l (i + 1) (16 * n + v)
  counted_on {v} e k h =
      let s = c.small in
      rw add-one
      (record {
        same = rw e (rw (drop-cons l i 0 h) at c.same);
        small = rw (pow-suc 16 i) (omega arith);
      })

  -- so many digits fit a word
  counted_few : i < length l → length l ≤ 8 → n < 2 ^ 28
  counted_few h m =
      let s = c.small in
      let j : i ≤ 7 = omega arith in
      let p : 16 ^ i ≤ 16 ^ 7 = pow-le-pow_right {n = 16} (lit< tt) j in
      omega arith

  pub counted_shifts : i < length l → length l ≤ 8 → Fits w32 (16 * n)
  counted_shifts h m = let k = counted_few h m in record { fits = omega arith }

  pub counted_fits : {v : ℕ} → v < 16 → i < length l → length l ≤ 8 → Fits w32 (16 * n + v)
  counted_fits {v} q h m = let k = counted_few h m in record { fits = omega arith }

  pub counted_end : length l ≤ i → n ≡ number_of l
  counted_end h = rw (drop_of_length-le l h) at c.same

pub ruleset counteds = (digit_at, counted_start, counted_on, counted_shifts, counted_fits, counted_end)

-- ---- two, four and eight digits of a line
front : (l : List ℕ) (n i j : ℕ) → suc i ≡ j → i < length l → take (suc n) (drop i l) ≡ get_or l i 0 ∷ take n (drop j l)
front l n i j e h = rw (← e, drop-cons l i 0 h)

module _ (l : List ℕ) (i : ℕ) where
  two_of : i + 2 ≤ length l → number_of (take 2 (drop i l)) ≡ two l i
  unfolding number_of two
  two_of h =
      let a = front l 1 i (i + 1) (omega arith) (omega arith) in
      let b = front l 0 (i + 1) (i + 2) (omega arith) (omega arith) in
      rw (a, b) (omega arith)

  four_of : i + 4 ≤ length l → number_of (take 4 (drop i l)) ≡ four l i
  unfolding number_of four two
  four_of h =
      let a = front l 3 i (i + 1) (omega arith) (omega arith) in
      let b = front l 2 (i + 1) (i + 2) (omega arith) (omega arith) in
      let c = front l 1 (i + 2) (i + 2 + 1) (omega arith) (omega arith) in
      let d = front l 0 (i + 2 + 1) (i + 4) (omega arith) (omega arith) in
      rw (a, b, c, d) (omega arith)

  eight_of : i + 8 ≤ length l → number_of (take 8 (drop i l)) ≡ eight l i
  unfolding number_of eight four two
  eight_of h =
      let a = front l 7 i (i + 1) (omega arith) (omega arith) in
      let b = front l 6 (i + 1) (i + 2) (omega arith) (omega arith) in
      let c = front l 5 (i + 2) (i + 2 + 1) (omega arith) (omega arith) in
      let d = front l 4 (i + 2 + 1) (i + 4) (omega arith) (omega arith) in
      let e = front l 3 (i + 4) (i + 4 + 1) (omega arith) (omega arith) in
      let f = front l 2 (i + 4 + 1) (i + 4 + 2) (omega arith) (omega arith) in
      let g = front l 1 (i + 4 + 2) (i + 4 + 2 + 1) (omega arith) (omega arith) in
      let k = front l 0 (i + 4 + 2 + 1) (i + 8) (omega arith) (omega arith) in
      rw (a, b, c, d, e, f, g, k) (omega arith)

  -- what was read of them, where they are cut out of the line between two places
  module _ {x j : ℕ} where
    pub two_is : x ≡ number_of (take (j - i) (drop i l)) → j ≡ i + 2 → j ≤ length l → x ≡ two l i
    two_is e q h = let n : j - i ≡ 2 = omega arith in e ∙ rw n (two_of (omega arith))

    pub four_is : x ≡ number_of (take (j - i) (drop i l)) → j ≡ i + 4 → j ≤ length l → x ≡ four l i
    four_is e q h = let n : j - i ≡ 4 = omega arith in e ∙ rw n (four_of (omega arith))

    pub eight_is : x ≡ number_of (take (j - i) (drop i l)) → j ≡ i + 8 → j ≤ length l → x ≡ eight l i
    eight_is e q h = let n : j - i ≡ 8 = omega arith in e ∙ rw n (eight_of (omega arith))

    -- it fits as many digits
    pub two_fits : x < 16 ^ length (take (j - i) (drop i l)) → j ≡ i + 2 → j ≤ length l → Fits w8 x
    two_fits h q k =
        let n : length (take (j - i) (drop i l)) ≡ 2 = omega (arith, length-take (j - i) (drop i l), length-drop i l) in
        record { fits = rw n at h }

    pub four_fits : x < 16 ^ length (take (j - i) (drop i l)) → j ≡ i + 4 → j ≤ length l → Fits w16 x
    four_fits h q k =
        let n : length (take (j - i) (drop i l)) ≡ 4 = omega (arith, length-take (j - i) (drop i l), length-drop i l) in
        record { fits = rw n at h }

pub ruleset parts_of_line = (digits_part, two_is, four_is, eight_is, two_fits, four_fits)
