-- A line's answer, from what the line does and what is said of it; that the promise allows one outcome; where a line ends; and that the
-- pieces of an answer are the answer: laws.
-- Assumes nothing.
use Rattle.std.specs.Prelude.{◌≡◌, refl, Some, None, unwrap_or, List, [], ◌∷◌, ◌++◌, Bool, true, false, cond, ℕ, suc, zero, ◌+◌, ◌≤◌, ◌<◌, length, take, drop, ltb, eqb}
use Rattle.std.proofs.Common.{sym, ap, ap₂, ◌∙◌, append_assoc, append-nil, zero-le, arith, length-take, length-drop, take-append-drop, drop_of_length-le, drop-drop, take_at, ltb-false}
use Rattle.std.proofs.lemmas.List.Recursion.{is_position_or_len}
use Rattle.std.specs.List.{position_or_len}
use Rattle.flash.specs.Laws.{settled}
use Rattle.frames.specs.declared.State.{State}
use Rattle.frames.specs.declared.Reply.{Reply}
use Rattle.frames.specs.declared.Said.{Said}
use Rattle.frames.specs.declared.Answered.{Answered}
use Rattle.frames.specs.Frames.{bytes, carried, newline, Says, Responds, line_length, lines_from}
use Rattle.frames.specs.Carrying.{Carries}
use Rattle.frames.specs.Saying.{says_settles}

-- ---- an answer
pub responds : {s p : State} {r : Reply} {g h o q : List ℕ} {d : Said} (f l : List ℕ) → Carries (carried s f l) r p g → Says (bytes r g) 0 o d q → h ≡ g
    → Responds s f l o (record { state = p; reply = r; said = d }) h q
responds f l c b e = record { state = c.state; reply = c.reply; flash = e ∙ c.flash; said = rw (c.reply, c.flash) at b }

-- one outcome, and no other
pub response_settles : {s : State} {f l o g h p q : List ℕ} {x y : Answered} → Responds s f l o x g p → Responds s f l o y h q → (x ≡ y) × (g ≡ h) × (p ≡ q)
response_settles {x = x} {y} a b =
    let w = says_settles a.said b.said in
    let e : x.state ≡ y.state = settled a.state b.state in
    let r : x.reply ≡ y.reply = settled a.reply b.reply in (
      ap (λ (u : State). record { state = u; reply = x.reply; said = x.said }) e
          ∙ ap (λ (u : Reply). record { state = y.state; reply = u; said = x.said }) r
          ∙ ap (λ (u : Said). record { state = y.state; reply = y.reply; said = u }) w.0,
      settled a.flash b.flash,
      w.1,
    )

-- ---- the end of a line
abbrev pub is_newline : ℕ → Bool
is_newline b = eqb b newline

-- the place of the first newline, or the end
line_ends : (t : List ℕ) → line_length t ≡ position_or_len is_newline t
line_ends t = is_position_or_len line_length is_newline refl (λ b u. go (is_newline b) u) t
  where
    go : (c : Bool) (u : List ℕ) → cond c 0 (suc (line_length u)) ≡ cond c 0 (1 + line_length u)
    go true u = refl
    go false u = omega arith

line_inside : (t : List ℕ) → line_length t ≤ length t
line_inside [] = zero-le
line_inside (b ∷ t) = go (is_newline b) (line_inside t)
  where
    go : (c : Bool) → line_length t ≤ length t → cond c 0 (suc (line_length t)) ≤ suc (length t)
    go true h = zero-le
    go false h = omega arith

-- as a search for it finds it
pub found_end : (t : List ℕ) → unwrap_or (cond (ltb (position_or_len is_newline t) (length t)) (Some (position_or_len is_newline t)) None) (length t) ≡ line_length t
found_end t = go (ltb n (length t)) refl
  where
    n : ℕ
    n = position_or_len is_newline t

    go : (c : Bool) → ltb n (length t) ≡ c → unwrap_or (cond c (Some n) None) (length t) ≡ line_length t
    go true q = sym (line_ends t)
    go false q = omega (arith, ltb-false n (length t) q, line_ends t, line_inside t)

pub end_inside : {n : ℕ} (t : List ℕ) → n ≡ line_length t → n ≤ length t
end_inside t e = omega (arith, line_inside t)

-- a line so far, and what stands before the first newline, is the next line
cut_at : (l t : List ℕ) → line_length t < length t → lines_from l t ≡ (l ++ take (line_length t) t) ∷ lines_from [] (drop (suc (line_length t)) t)
cut_at l [] h = absurd (omega arith)
cut_at l (b ∷ t) h = go (eqb b newline) refl (cut_at (l ++ b ∷ []) t)
  where
    go : (c : Bool) → eqb b newline ≡ c → (line_length t < length t → lines_from (l ++ b ∷ []) t ≡ ((l ++ b ∷ []) ++ take (line_length t) t) ∷ lines_from [] (drop (suc (line_length t)) t))
        → lines_from l (b ∷ t) ≡ (l ++ take (line_length (b ∷ t)) (b ∷ t)) ∷ lines_from [] (drop (suc (line_length (b ∷ t))) (b ∷ t))
    go true q ih = rw q (ap (λ (u : List ℕ). u ∷ lines_from [] t) (sym (append-nil l)))
    go false q ih =
        let k : suc (line_length t) < suc (length t) = rw q at h in
        rw q (ih (omega arith) ∙ ap (λ (u : List ℕ). u ∷ lines_from [] (drop (suc (line_length t)) t)) (append_assoc l (b ∷ []) (take (line_length t) t)))

-- without a newline all of it is, if there is anything
uncut : (l t : List ℕ) → line_length t ≡ length t → lines_from l t ≡ lines_from (l ++ t) []
uncut l [] h = ap (λ (u : List ℕ). lines_from u []) (sym (append-nil l))
uncut l (b ∷ t) h = go (eqb b newline) refl (uncut (l ++ b ∷ []) t)
  where
    go : (c : Bool) → eqb b newline ≡ c → (line_length t ≡ length t → lines_from (l ++ b ∷ []) t ≡ lines_from ((l ++ b ∷ []) ++ t) []) → lines_from l (b ∷ t) ≡ lines_from (l ++ b ∷ t) []
    go true q ih = let z : 0 ≡ suc (length t) = rw q at h in absurd (omega arith)
    go false q ih =
        let k : suc (line_length t) ≡ suc (length t) = rw q at h in
        rw q (ih (omega arith) ∙ ap (λ (u : List ℕ). lines_from u []) (append_assoc l (b ∷ []) t))

-- the lines of a text are cut where the bytes before its first newline end
pub first_line : (t : List ℕ) → line_length t < length t → lines_from [] t ≡ take (line_length t) t ∷ lines_from [] (drop (suc (line_length t)) t)
first_line t h = cut_at [] t h

pub last_line : (t : List ℕ) → line_length t ≡ length t → lines_from [] t ≡ lines_from t []
last_line t h = uncut [] t h

-- ---- pieces: what is in the buffer, and behind it what is left, is what was left before; where there is no more, nothing is
drop_taken : (n : ℕ) (x : List ℕ) → drop (length (take n x)) x ≡ drop n x
drop_taken zero x = refl
drop_taken (suc n) [] = refl
drop_taken (suc n) (b ∷ x) = drop_taken n x

module _ {t : List ℕ} {from : ℕ} {f g : List ℕ} {r : Said} (s : Says t from f r g) where
  pub pieces_join : take r.count g ++ drop (from + r.count) t ≡ drop from t
  pieces_join =
      let x = drop from t in
      let n = length f in
      let c : r.count ≡ length (take n x) = s.count in
      let b : take r.count g ≡ take n x = ap (take r.count) s.buffer ∙ take_at (take n x) (drop r.count f) r.count (sym c) in
      let k : drop (from + r.count) t ≡ drop r.count x = sym (drop-drop r.count from t) in
      let e : drop r.count x ≡ drop n x = ap (λ (u : ℕ). drop u x) c ∙ drop_taken n x in
      ap₂ ◌++◌ b (k ∙ e) ∙ take-append-drop n x

  pub pieces_end : r.more ≡ false → drop (from + r.count) t ≡ []
  pieces_end e =
      let h = ltb-false (length f) (length (drop from t)) (sym s.more ∙ e) in
      drop_of_length-le t {i = from + r.count} (omega (arith, s.count, length-take (length f) (drop from t), length-drop from t))
