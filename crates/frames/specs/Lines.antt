-- A line's digits, the numbers they make and the frame of a line, as they are read from place to place: laws. Assumes nothing.
use Rattle.std.specs.Prelude.{◌≡◌, refl, Option, Some, None, List, [], ◌∷◌, ◌++◌, Bool, true, false, cond, ◌&&◌, ℕ, suc, zero, ◌+◌, ◌-◌, ◌*◌, ◌/◌, ◌%◌, ◌≤◌, ◌<◌, length, get_or, take, drop, set, leb, eqb}
use Rattle.std.proofs.Common.{sym, ap, ◌∙◌, append_assoc, append-nil, true≢false, zero-le, arith, add-one, length-take, length-take-le, drop_of_length-le, drop-cons, take_at, leb-true, le-leb}
use Rattle.std.proofs.lemmas.Bool.{not-true, not-false, lt-leb}
use Rattle.std.proofs.lemmas.List.{set_at}
use Rattle.std.proofs.lemmas.List.Recursion.{same_from_clauses}
use Rattle.std.specs.List.{list_all}
use borrow.Author.Tests.{leb-false}
use Rattle.flash.specs.Laws.{settled}
use Rattle.rules.specs.Laws.{and_left, and_right}
use Rattle.frames.specs.declared.Frame.{Frame}
use Rattle.frames.specs.Frames.{is_digit, all_digits, two, four, eight, words_from, is_write, shaped, frame_of, line_words, count_of, with_words, Framed}
use Rattle.frames.specs.Kinds.{no_kind}

-- ---- all bytes of a line are digits
pub all_are : (l : List ℕ) → list_all is_digit l ≡ all_digits l
all_are l = same_from_clauses (list_all is_digit) all_digits (λ b t. is_digit b && t) refl (λ _ _. refl) (λ _ _. refl) l

-- ---- the frame of a line
module _ (l : List ℕ) where
  pub too_short : length l < 2 → None ≡ frame_of l
  unfolding frame_of
  too_short h = rw (lt-leb 2 (length l) h)

  pub are_digits : {b : Bool} → b ≡ all_digits l → b ≡ true → all_digits l ≡ true
  are_digits e t = sym e ∙ t

  pub other_bytes : {b : Bool} → b ≡ all_digits l → b ≡ false → None ≡ frame_of l
  unfolding frame_of
  other_bytes e t = go (leb 2 (length l))
    where
      go : (c : Bool) → None ≡ cond (c && all_digits l) (shaped (two l 0) l) None
      go true = rw (← e, t)
      go false = refl

  module _ {b : Bool} (h : 2 ≤ length l) (e : b ≡ all_digits l) (t : b ≡ true) where
    pub is_frame : {k : ℕ} {r : Option Frame} → k ≡ two l 0 → r ≡ shaped k l → r ≡ frame_of l
    unfolding frame_of
    is_frame q d = d ∙ rw (q, le-leb 2 (length l) h, ← e, t)

pub ruleset frames = (not-true, not-false, too_short, are_digits, other_bytes, no_kind, is_frame)

-- ---- the words of a write, put into a buffer of as many: those before the i-th stand in it
pub record Filling (l v : List ℕ) (i : ℕ) (w : List ℕ) : Type 0 where
  pub done : i ≤ length v
  pub same : w ≡ words_from l i 6 ++ drop i v

words_length : (l : List ℕ) (n at : ℕ) → length (words_from l n at) ≡ n
words_length l zero at = refl
words_length l (suc n) at = ap suc (words_length l n (at + 8))

words_more : (l : List ℕ) (n at : ℕ) → words_from l (suc n) at ≡ words_from l n at ++ eight l (at + 8 * n) ∷ []
words_more l zero at = let e : at + 8 * 0 ≡ at = omega arith in rw e
words_more l (suc n) at =
    let e : at + 8 + 8 * n ≡ at + 8 * suc n = omega arith in
    ap (λ (u : List ℕ). eight l at ∷ u) (words_more l n (at + 8) ∙ rw e)

pub filling_start : {l v : List ℕ} → Filling l v 0 v
filling_start = record { done = zero-le; same = refl }

module _ {l v : List ℕ} {i : ℕ} {w : List ℕ} (f : Filling l v i w) where
  pub filling_on : {x : ℕ} → x ≡ eight l (6 + 8 * i) → i < length v → Filling l v (i + 1) (set w i x)
  filling_on {x} e h =
      let xs = words_from l i 6 in
      let s : w ≡ words_from l i 6 ++ get_or v i 0 ∷ drop (suc i) v = f.same ∙ ap (λ (u : List ℕ). words_from l i 6 ++ u) (drop-cons v i 0 h) in
      record {
        done = omega arith;
        same =
            ap (λ (u : List ℕ). set u i x) s
            ∙ set_at xs (get_or v i 0) (drop (suc i) v) x i (words_length l i 6)
            ∙ ap (λ (y : ℕ). xs ++ y ∷ drop (suc i) v) e
            ∙ sym (append_assoc xs (eight l (6 + 8 * i) ∷ []) (drop (suc i) v))
            ∙ ap (λ (u : List ℕ). u ++ drop (suc i) v) (sym (words_more l i 6))
            ∙ ap (λ (k : ℕ). words_from l k 6 ++ drop k v) (sym (add-one i));
      }

  pub filling_end : length v ≤ i → w ≡ line_words l (length v)
  unfolding line_words
  filling_end h =
      let d = f.done in
      let e : i ≡ length v = omega arith in
      f.same ∙ rw (drop_of_length-le v h, e) (append-nil (words_from l (length v) 6))

pub ruleset fillings = (filling_start, filling_on, filling_end)

-- ---- of a line that is a write: its bytes are digits, and so many words are in it
abbrev is_write_frame : Option Frame → Bool
is_write_frame (Some (Frame.Write h n)) = true
is_write_frame (Some (Frame.Read h)) = false
is_write_frame (Some (Frame.Delete h)) = false
is_write_frame (Some (Frame.List mask pattern)) = false
is_write_frame (Some Frame.Recover) = false
is_write_frame (Some (Frame.Power k)) = false
is_write_frame (Some (Frame.Format n size)) = false
is_write_frame None = false

neither : (b : Bool) (x y : Option Frame) → is_write_frame x ≡ false → is_write_frame y ≡ false → is_write_frame (cond b x y) ≡ false
neither true x y p q = p
neither false x y p q = q

abbrev Writes : List ℕ → ℕ → Type 0
Writes l n = (all_digits l ≡ true) × (6 + 8 * n ≤ length l) × (n ≤ 40)

abbrev write_of : ℕ → ℕ → Option Frame
write_of h n = Some (Frame.Write h n)

module _ (l : List ℕ) {h n : ℕ} where
  write_inside : all_digits l ≡ true → is_write (length l) ≡ true → write_of (four l 2) ((length l - 6) / 8) ≡ write_of h n → Writes l n
  write_inside d t q =
      let k = length l in
      let m : (k - 6) / 8 ≡ n = cc in
      let g : 6 ≤ k = leb-true 6 k (and_left (leb 6 k) (leb k 326 && eqb ((k - 6) % 8) 0) t) in
      let u : k ≤ 326 = leb-true k 326 (and_left (leb k 326) (eqb ((k - 6) % 8) 0) (and_right (leb 6 k) (leb k 326 && eqb ((k - 6) % 8) 0) t)) in
      (d, omega arith, omega arith)

  -- of one of the kinds, the others being no writes
  write_alone : (b w : Bool) (others : Option Frame) → all_digits l ≡ true → is_write (length l) ≡ w → is_write_frame others ≡ false
      → cond b (cond w (write_of (four l 2) ((length l - 6) / 8)) None) others ≡ write_of h n → Writes l n
  write_alone true true others d t o e = write_inside d t e
  write_alone true false others d t o e = absurd (true≢false (sym (ap is_write_frame e)))
  write_alone false w others d t o e = absurd (true≢false (sym (ap is_write_frame e) ∙ o))

  write_shaped : (k : ℕ) → all_digits l ≡ true → shaped k l ≡ write_of h n → Writes l n
  unfolding shaped
  write_shaped k d q =
      let m = length l in
      write_alone (eqb k 0x01) (is_write m) _ d refl
      (neither (eqb k 0x02) _ _ (neither (eqb m 6) _ _ refl refl)
      (neither (eqb k 0x03) _ _ (neither (eqb m 6) _ _ refl refl)
      (neither (eqb k 0x04) _ _ (neither (eqb m 10) _ _ refl refl)
      (neither (eqb k 0x05) _ _ (neither (eqb m 2) _ _ refl refl)
      (neither (eqb k 0x06) _ _ (neither (eqb m 6) _ _ refl refl)
      (neither (eqb k 0x07) _ _ (neither (eqb m 6) _ _ refl refl) refl))))))
      q

  written : frame_of l ≡ write_of h n → Writes l n
  unfolding frame_of
  written q = go (leb 2 (length l) && all_digits l) refl q
    where
      go : (b : Bool) → leb 2 (length l) && all_digits l ≡ b → cond b (shaped (two l 0) l) None ≡ write_of h n → Writes l n
      go true t e = write_shaped (two l 0) (and_right (leb 2 (length l)) (all_digits l) t) e
      go false t e = absurd (true≢false (sym (ap is_write_frame e)))

-- ---- the words of a frame
words_put : {w : List ℕ} (l v : List ℕ) (n : ℕ) → w ≡ line_words l n ++ v → take n w ≡ line_words l n
unfolding line_words
words_put {w} l v n e = ap (take n) e ∙ take_at (words_from l n 6) v n (words_length l n 6)

-- none are put where there are none
unwritten : {x : Option Frame} (l v : List ℕ) → x ≡ frame_of l → count_of x ≡ 0 → Framed l v x v
unfolding line_words
unwritten l v e z = record { frame = e; words = rw (← e, z, le-leb 0 (length v) zero-le) }

pub framed_none : {l v : List ℕ} → None ≡ frame_of l → Framed l v None v
framed_none {l} {v} e = unwritten l v e refl

module _ {x : Frame} (l : List ℕ) (e : Some x ≡ frame_of l) where
  pub framed_other : {v : List ℕ} → ((h n : ℕ) → x ≡ Frame.Write h n → ⊥) → Framed l v (Some x) v
  framed_other {v} d = unwritten l v e (go x d)
    where
      go : (y : Frame) → ((h n : ℕ) → y ≡ Frame.Write h n → ⊥) → count_of (Some y) ≡ 0
      go (Frame.Write h n) m = absurd (m h n refl)
      go (Frame.Read h) m = refl
      go (Frame.Delete h) m = refl
      go (Frame.List mask pattern) m = refl
      go Frame.Recover m = refl
      go (Frame.Power k) m = refl
      go (Frame.Format n size) m = refl

  module _ {h n : ℕ} (q : x ≡ Frame.Write h n) where
    counted : count_of (frame_of l) ≡ n
    counted = ap count_of (sym e) ∙ ap (λ (y : Frame). count_of (Some y)) q

    writes : Writes l n
    writes = written l {h = h} {n = n} (sym e ∙ ap (λ (y : Frame). Some y) q)

    pub write_digits : all_digits l ≡ true
    write_digits = writes.0

    pub write_fits : (v : List ℕ) → 6 + 8 * length (take n v) ≤ length l
    write_fits v = let f = writes.1 in omega (arith, length-take n v)

    pub framed_short : {v : List ℕ} → length v < n → Framed l v (Some x) v
    framed_short {v} h = record { frame = e; words = rw (counted, lt-leb n (length v) h) }

    pub framed_put : {v w : List ℕ} → n ≤ length v → w ≡ line_words l (length (take n v)) → Framed l v (Some x) (w ++ drop n v)
    framed_put {v} {w} h d =
        let k : length (take n v) ≡ n = omega (arith, length-take n v) in
        record { frame = e; words = rw (counted, le-leb n (length v) h) (rw (d, k)) }

pub ruleset framings = (length-take-le, framed_none, framed_other, write_digits, write_fits, framed_short, framed_put)

-- of a write, in a buffer of forty
module _ {l v w : List ℕ} {x : Frame} {h n : ℕ} (f : Framed l v (Some x) w) (q : x ≡ Frame.Write h n) (k : length w ≡ 40) where
  is_written : frame_of l ≡ write_of h n
  is_written = sym f.frame ∙ ap (λ (y : Frame). Some y) q

  framed_few : n ≤ 40
  framed_few = (written l {h = h} {n = n} is_written).2

  pub framed_room : n ≤ length w
  framed_room = let m = framed_few in omega arith

  pub framed_words : take n w ≡ line_words l n
  framed_words = go (leb n (length v)) refl (f.words ∙ ap (λ (y : Option Frame). with_words l (count_of y) v) is_written)
    where
      go : (b : Bool) → leb n (length v) ≡ b → w ≡ cond b (line_words l n ++ drop n v) v → take n w ≡ line_words l n
      go true t e = words_put l (drop n v) n e
      go false t e = let y = leb-false n (length v) t in let m = framed_few in absurd (omega (arith, ap length e))

-- one outcome, and no other
pub framed_settles : {l v w z : List ℕ} {x y : Option Frame} → Framed l v x w → Framed l v y z → (x ≡ y) × (w ≡ z)
framed_settles a b = (settled a.frame b.frame, settled a.words b.words)
