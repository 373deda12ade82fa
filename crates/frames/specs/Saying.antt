-- A text written byte by byte into a buffer that may be too short for it, from one of its bytes on: definitions and laws, and at last that
-- what was written is the piece of the text that the buffer has room for. Assumes nothing.
use Rattle.std.specs.Prelude.{◌≡◌, refl, Bool, true, false, cond, ◌&&◌, ◌||◌, ℕ, suc, zero, ◌+◌, ◌-◌, ◌*◌, ◌/◌, ◌%◌, ◌^◌, ◌≤◌, ◌<◌, length, get_or, take, drop, set, ltb, eqb}
use Rattle.std.proofs.Math.Path.{ap}
use Rattle.std.proofs.Common.{sym, ◌∙◌, ⊎_elim, arith, add-one, length-set, take-append-drop, drop_of_length-le, drop-cons, take-suc-set, drop-set-lt}
use mathlib.Core.List.{List, [], ◌∷◌, ◌++◌, append_assoc}
use Rattle.std.proofs.Math.Bool.{or-true, or-false}
use Rattle.std.proofs.Math.Seq.{take-nil, drop-nil}
use Rattle.std.specs.Int.Bits.{bit_and}
use borrow.Author.Tests.{lt-ltb, le-ltb}
use Rattle.flash.specs.Laws.{settled, le_or_lt}
use Rattle.rules.specs.declared.Area.{Area}
use Rattle.rules.specs.Words.{is_live}
use Rattle.rules.specs.Areas.{Entry, entries}
use Rattle.rules.specs.declared.Refusal.{Refusal}
use Rattle.rules.specs.Refusals.{wrong_geometry}
use Rattle.rules.specs.Places.{right_passes}
use Rattle.rules.specs.Search.{matches}
use Rattle.entries.specs.declared.walk.Header.{Header}
use Rattle.entries.specs.Ahead.{Heads, entries_of}
use Rattle.area.specs.declared.run.Run.{Run}
use Rattle.area.specs.Reading.{Shows, Refuses}
use Rattle.frames.specs.declared.Shape.{Shape}
use Rattle.frames.specs.declared.Reply.{Reply}
use Rattle.frames.specs.declared.Said.{Said}
use Rattle.frames.specs.declared.saying.Pen.{Pen}
use Rattle.frames.specs.Frames.{digit, two_digits, four_digits, eight_digits, eights, area_of, run_of, fours, handles, list_handles, tail_bytes, newline, bytes, piece_of, Says}

-- ---- a pen on its buffer
pub record Sheet : Type 0 where
  pub skip : ℕ
  pub used : ℕ
  pub more : Bool
  pub buffer : List ℕ

abbrev sheet : ℕ → ℕ → Bool → List ℕ → Sheet
sheet skip used more f = record { skip = skip; used = used; more = more; buffer = f }

abbrev pub sheet_of : Pen → Sheet
sheet_of p = sheet p.skip p.used p.more p.out.now

-- a byte is passed over; or it is written, where there is room; or it is left out
unfoldable pub mark : ℕ → Sheet → Sheet
mark b s =
    let f = s.buffer in
    cond (ltb 0 s.skip) (sheet (s.skip - 1) s.used s.more f)
    (cond (ltb s.used (length f)) (sheet 0 (suc s.used) s.more (set f s.used b)) (sheet 0 s.used true f))

abbrev pub marks : List ℕ → Sheet → Sheet
marks [] s = s
marks (b ∷ t) s = marks t (mark b s)

-- The text t was written with the pen p: it is the pen q then.
pub record Wrote (t : List ℕ) (p q : Pen) : Type 0 where
  pub same : sheet_of q ≡ marks t (sheet_of p)

-- ---- one byte
module _ (b : ℕ) (s : Sheet) where
  mark_passed : 0 < s.skip → sheet (s.skip - 1) s.used s.more s.buffer ≡ mark b s
  unfolding mark
  mark_passed h = rw (lt-ltb 0 s.skip h)

  mark_room : s.skip ≤ 0 → s.used < length s.buffer → sheet 0 (suc s.used) s.more (set s.buffer s.used b) ≡ mark b s
  unfolding mark
  mark_room h l = rw (le-ltb 0 s.skip h, lt-ltb s.used (length s.buffer) l)

  mark_full : s.skip ≤ 0 → length s.buffer ≤ s.used → sheet 0 s.used true s.buffer ≡ mark b s
  unfolding mark
  mark_full h l = rw (le-ltb 0 s.skip h, le-ltb s.used (length s.buffer) l)

module _ {b : ℕ} {p q : Pen} where
  pub put_passed : 0 < p.skip → q.skip ≡ p.skip - 1 → q.used ≡ p.used → q.more ≡ p.more → q.out.now ≡ p.out.now → Wrote (b ∷ []) p q
  put_passed h k u m o = record { same = rw (k, u, m, o) (mark_passed b (sheet_of p) h) }

  pub put_room : p.skip ≤ 0 → p.used < length p.out.now → q.skip ≡ p.skip → q.used ≡ p.used + 1 → q.more ≡ p.more → q.out.now ≡ set p.out.now p.used b → Wrote (b ∷ []) p q
  put_room h l k u m o =
      let z : p.skip ≡ 0 = omega arith in
      let e : sheet_of q ≡ sheet 0 (suc p.used) p.more (set p.out.now p.used b) = rw (k, z, u, m, o, add-one) in
      record { same = e ∙ mark_room b (sheet_of p) h l }

  pub put_full : p.skip ≤ 0 → length p.out.now ≤ p.used → q.skip ≡ p.skip → q.used ≡ p.used → q.more ≡ true → q.out.now ≡ p.out.now → Wrote (b ∷ []) p q
  put_full h l k u m o =
      let z : p.skip ≡ 0 = omega arith in
      let e : sheet_of q ≡ sheet 0 p.used true p.out.now = rw (k, z, u, m, o) in
      record { same = e ∙ mark_full b (sheet_of p) h l }

-- ---- texts one behind the other
marks_append : (x y : List ℕ) (s : Sheet) → marks (x ++ y) s ≡ marks y (marks x s)
marks_append [] y s = refl
marks_append (b ∷ x) y s = marks_append x y (mark b s)

pub wrote_none : {p : Pen} → Wrote [] p p
wrote_none = record { same = refl }

pub wrote_append : {x y : List ℕ} {p q r : Pen} → Wrote x p q → Wrote y q r → Wrote (x ++ y) p r
wrote_append {x} {y} {p} u v = record { same = v.same ∙ ap (marks y) u.same ∙ sym (marks_append x y (sheet_of p)) }

-- ---- digits
-- the last n digits of a number
abbrev pub last_of : ℕ → ℕ → List ℕ
last_of zero x = []
last_of (suc n) x = digit (x / 2 ^ (4 * n) % 16) ∷ last_of n x

unfoldable pub digits : ℕ → ℕ → List ℕ
digits n x = last_of n x

pub digits_two : (x : ℕ) → digits 2 x ≡ two_digits x
unfolding digits two_digits
digits_two x = let a : x / 1 % 16 ≡ x % 16 = omega arith in rw a

pub digits_four : (x : ℕ) → digits 4 x ≡ four_digits x
unfolding digits four_digits two_digits
digits_four x =
    let a : x / 1 % 16 ≡ x % 16 = omega arith in
    let b : x / 4096 % 16 ≡ x / 256 / 16 % 16 = omega arith in
    rw (a, b)

pub digits_eight : (x : ℕ) → digits 8 x ≡ eight_digits x
unfolding digits eight_digits four_digits two_digits
digits_eight x =
    let a : x / 1 % 16 ≡ x % 16 = omega arith in
    let b : x / 4096 % 16 ≡ x / 256 / 16 % 16 = omega arith in
    let c : x / 1048576 % 16 ≡ x / 65536 / 16 % 16 = omega arith in
    let d : x / 16777216 % 16 ≡ x / 65536 / 256 % 16 = omega arith in
    let e : x / 268435456 % 16 ≡ x / 65536 / 256 / 16 % 16 = omega arith in
    rw (a, b, c, d, e)

-- ---- a text written part by part: with what is still to be written of it, it is what has been begun with the pen p₀
pub record Writing (t : List ℕ) (p₀ : Pen) (rest : List ℕ) (p : Pen) : Type 0 where
  pub end : (q : Pen) → Wrote rest p q → Wrote t p₀ q

pub writing_start : {t : List ℕ} {p : Pen} → Writing t p t p
writing_start = record { end = λ q w. w }

module _ {t : List ℕ} {p₀ p : Pen} where
  writing_on : {q : Pen} (x rest : List ℕ) → Writing t p₀ (x ++ rest) p → Wrote x p q → Writing t p₀ rest q
  writing_on x rest u w = record { end = λ r v. u.end r (wrote_append w v) }

  writing_end : Writing t p₀ [] p → Wrote t p₀ p
  writing_end u = u.end p wrote_none

-- so many digits of a number are left
pub record DigitsLeft (n x : ℕ) (p₀ : Pen) (i : ℕ) (p : Pen) : Type 0 where
  pub buffer : p.out.ghost_name ≡ p₀.out.ghost_name
  pub writing : Writing (digits n x) p₀ (digits i x) p

pub digits_start : {n x : ℕ} {p : Pen} → DigitsLeft n x p n p
digits_start = record { buffer = refl; writing = writing_start }

module _ {n x i : ℕ} {p₀ p : Pen} (u : DigitsLeft n x p₀ i p) where
  pub digits_on : {j b : ℕ} {q : Pen} → Wrote (b ∷ []) p q → q.out.ghost_name ≡ p.out.ghost_name → b ≡ digit (x / 2 ^ (4 * j) % 16) → i ≡ suc j → DigitsLeft n x p₀ j q
  unfolding digits
  digits_on {j} {b} v g e q =
      let d : digits i x ≡ (b ∷ []) ++ digits j x = rw (q, e) in
      record { buffer = g ∙ u.buffer; writing = writing_on (b ∷ []) (digits j x) (rw d at u.writing) v }

  pub digits_end : i ≡ 0 → Wrote (digits n x) p₀ p
  unfolding digits
  digits_end z = writing_end (rw z at u.writing)

pub ruleset some_digits = (digits_start, digits_on, digits_end)

-- the words of a list from one on are left
pub record WordsLeft (ws : List ℕ) (p₀ : Pen) (i : ℕ) (p : Pen) : Type 0 where
  pub buffer : p.out.ghost_name ≡ p₀.out.ghost_name
  pub writing : Writing (eights ws) p₀ (eights (drop i ws)) p

pub words_start : {ws : List ℕ} {p : Pen} → WordsLeft ws p 0 p
words_start = record { buffer = refl; writing = writing_start }

module _ {ws : List ℕ} {i : ℕ} {p₀ p : Pen} (u : WordsLeft ws p₀ i p) where
  pub words_on : {w : ℕ} {q : Pen} → Wrote (digits 8 w) p q → q.out.ghost_name ≡ p.out.ghost_name → i < length ws → w ≡ get_or ws i 0 → WordsLeft ws p₀ (i + 1) q
  words_on {w} v g h e =
      let d : eights (drop i ws) ≡ digits 8 w ++ eights (drop (suc i) ws) = rw (digits_eight, drop-cons ws i 0 h, e) in
      rw add-one (record { buffer = g ∙ u.buffer; writing = writing_on (digits 8 w) (eights (drop (suc i) ws)) (rw d at u.writing) v })

  pub words_end : length ws ≤ i → Wrote (eights ws) p₀ p
  words_end h = let d : drop i ws ≡ [] = drop_of_length-le ws h in writing_end (rw d at u.writing)

pub ruleset lists = (words_start, words_on, words_end)

-- ---- handles
-- four digits, if they are wanted
unfoldable pub four_if : Bool → ℕ → List ℕ
four_if b n = cond b (four_digits n) []

-- a handle's, if it is a live one and a filter lets it through
abbrev pub passed : ℕ → ℕ → ℕ → List ℕ
passed mask pattern h = four_if (is_live h && eqb (bit_and h mask) (bit_and pattern mask)) h

module _ {b : Bool} {p : Pen} (mask pattern h : ℕ) (e : b ≡ is_live h && eqb (bit_and h mask) (bit_and pattern mask)) where
  pub handle_passed : {q : Pen} → b ≡ true → Wrote (digits 4 h) p q → Wrote (passed mask pattern h) p q
  unfolding four_if
  handle_passed t w = rw (← e, t) (rw digits_four at w)

  pub handle_left : b ≡ false → Wrote (passed mask pattern h) p p
  unfolding four_if
  handle_left t = rw (← e, t) wrote_none

pub ruleset one_handle = (handle_passed, handle_left)

fours_cons : (mask pattern : ℕ) (e : Entry) (es : List Entry)
    → fours (handles mask pattern (e ∷ es)) ≡ four_if (matches mask pattern e) e.handle ++ fours (handles mask pattern es)
unfolding four_if
fours_cons mask pattern e es = go (matches mask pattern e)
  where
    go : (b : Bool) → fours (cond b (e.handle ∷ handles mask pattern es) (handles mask pattern es)) ≡ cond b (four_digits e.handle) [] ++ fours (handles mask pattern es)
    go true = refl
    go false = refl

-- those of the entries ds are left
pub record HandlesLeft (mask pattern : ℕ) (es ds : List Entry) (p₀ p : Pen) : Type 0 where
  pub buffer : p.out.ghost_name ≡ p₀.out.ghost_name
  pub writing : Writing (fours (handles mask pattern es)) p₀ (fours (handles mask pattern ds)) p

pub handles_start : {mask pattern : ℕ} {es ds : List Entry} {p : Pen} → ds ≡ es → HandlesLeft mask pattern es ds p p
handles_start e = record { buffer = refl; writing = rw e writing_start }

module _ {mask pattern : ℕ} {es ds : List Entry} {p₀ p : Pen} (u : HandlesLeft mask pattern es ds p₀ p) where
  pub handles_on : {us : List Entry} {q : Pen} {h : Header} → Heads ds h us → Wrote (passed mask pattern h.handle) p q → q.out.ghost_name ≡ p.out.ghost_name → HandlesLeft mask pattern es us p₀ q
  handles_on {us} {h = h} x w g =
      let i : x.entry.handle ≡ h.handle = ap (λ (d : Header). d.handle) x.header in
      let y : fours (handles mask pattern ds) ≡ passed mask pattern h.handle ++ fours (handles mask pattern us) =
      ap (λ (ds : List Entry). fours (handles mask pattern ds)) x.first ∙ fours_cons mask pattern x.entry us ∙ rw i in
      record { buffer = g ∙ u.buffer; writing = writing_on (passed mask pattern h.handle) (fours (handles mask pattern us)) (rw y at u.writing) w }

  pub handles_end : ds ≡ [] → Wrote (fours (handles mask pattern es)) p₀ p
  handles_end z = writing_end (rw z at u.writing)

pub ruleset listings = (handles_start, handles_on, handles_end)

-- ---- the tail of an answer
-- the handles of a shape's area, by what a function has found of its run
module _ {run : List ℕ} {area : Area} (a : Shape) (f : List ℕ) (mask pattern : ℕ) (is : area ≡ area_of a) (cut : run ≡ run_of a f) where
  by_run : list_handles a mask pattern f ≡ cond (wrong_geometry area run) [] (handles mask pattern (entries area run))
  unfolding list_handles
  by_run = rw (is, cut)

  pub none_listed : {why : Refusal} {p : Pen} → Refuses area run why → Wrote (fours (list_handles a mask pattern f)) p p
  none_listed t = rw (by_run, t.wrong) wrote_none

  pub handles_listed : {r : Run} {m k : ℕ} {p q : Pen} → Shows area run r → Wrote (fours (handles m k (entries_of r))) p q → m ≡ mask → k ≡ pattern → Wrote (fours (list_handles a mask pattern f)) p q
  handles_listed {r = r} s w x y =
      let t : wrong_geometry area run ≡ false = rw (s.area, s.words) at (right_passes r.right) in
      rw (by_run, t, ← x, ← y) (rw (s.area, s.words) at w)

pub ruleset tails = (none_listed)

-- ---- what was written in all
-- of a text on the sheet s that is the sheet z then: behind the bytes that were used comes the piece that there was room for
abbrev rest : List ℕ → Sheet → List ℕ
rest t s = drop s.skip t

abbrev room : Sheet → ℕ
room s = length s.buffer - s.used

record Filled (t : List ℕ) (s z : Sheet) : Type 0 where
  used : z.used ≡ s.used + length (take (room s) (rest t s))
  more : z.more ≡ (s.more || ltb (room s) (length (rest t s)))
  buffer : z.buffer ≡ take s.used s.buffer ++ (take (room s) (rest t s) ++ drop z.used s.buffer)

filled_none : (s : Sheet) → Filled [] s s
filled_none s =
    let d : drop {A = ℕ} s.skip [] ≡ [] = drop-nil s.skip in
    let n : take {A = ℕ} (room s) [] ≡ [] = take-nil (room s) in
    record {
      used = rw (d, n) (omega arith);
      more = rw (d, le-ltb (room s) 0 (omega arith)) (sym (or-false s.more));
      buffer = rw (d, n) (sym (take-append-drop s.used s.buffer));
    }

ltb_suc : (n l : ℕ) → ltb (suc n) (suc l) ≡ ltb n l
ltb_suc n l =
    ⊎_elim
    (λ (h : l ≤ n). rw (le-ltb (suc n) (suc l) (omega arith), le-ltb n l h))
    (λ (h : n < l). rw (lt-ltb (suc n) (suc l) (omega arith), lt-ltb n l h))
    (le_or_lt l n)

module _ (b : ℕ) (t : List ℕ) (u : ℕ) (m : Bool) (f : List ℕ) {z : Sheet} where
  filled_passed : (k : ℕ) → Filled t (sheet k u m f) z → Filled (b ∷ t) (sheet (suc k) u m f) z
  filled_passed k r = record { used = r.used; more = r.more; buffer = r.buffer }

  filled_room : u < length f → Filled t (sheet 0 (suc u) m (set f u b)) z → Filled (b ∷ t) (sheet 0 u m f) z
  filled_room h r =
      let l : length (set f u b) ≡ length f = length-set f u b in
      let e : length f - u ≡ suc (length f - suc u) = omega arith in
      let c : z.used ≡ suc u + length (take (length f - suc u) t) = rw l at r.used in
      let a : u < z.used = omega arith in
      record {
        used = rw e (omega arith);
        more = rw (e, ltb_suc (length f - suc u) (length t)) (rw l at r.more);
        buffer = rw e (rw (l, take-suc-set f u b h, drop-set-lt z.used f u b a, append_assoc) at r.buffer);
      }

  filled_full : length f ≤ u → Filled t (sheet 0 u true f) z → Filled (b ∷ t) (sheet 0 u m f) z
  filled_full h r =
      let e : length f - u ≡ 0 = omega arith in
      record { used = rw e (rw e at r.used); more = rw (e, lt-ltb 0 (suc (length t)) (omega arith)) (r.more ∙ sym (or-true m)); buffer = rw e (rw e at r.buffer) }

filled : (t : List ℕ) (k u : ℕ) (m : Bool) (f : List ℕ) → Filled t (sheet k u m f) (marks t (sheet k u m f))
filled [] k u m f = filled_none (sheet k u m f)
filled (b ∷ t) (suc k) u m f =
    let e : suc k - 1 ≡ k = omega arith in
    rw (← mark_passed b (sheet (suc k) u m f) (omega arith), e) (filled_passed b t u m f k (filled t k u m f))
filled (b ∷ t) zero u m f =
    ⊎_elim
    (λ (h : length f ≤ u). rw (← mark_full b (sheet 0 u m f) (omega arith) h) (filled_full b t u m f h (filled t 0 u true f)))
    (λ (h : u < length f). rw (← mark_room b (sheet 0 u m f) (omega arith) h) (filled_room b t u m f h (filled t 0 (suc u) m (set f u b))))
    (le_or_lt (length f) u)

-- from a byte on, with the whole buffer to write in
pub wrote_says : {t : List ℕ} {p q : Pen} → Wrote t p q → p.used ≡ 0 → p.more ≡ false → Says t p.skip p.out.now (record { count = q.used; more = q.more }) q.out.now
wrote_says {t} {p} {q} w u m =
    let f = p.out.now in
    let x : sheet_of q ≡ marks t (sheet p.skip 0 false f) = rw (u, m) at w.same in
    let r : Filled t (sheet p.skip 0 false f) (sheet_of q) = rw x (filled t p.skip 0 false f) in
    let e : length f - 0 ≡ length f = omega arith in
    let c : q.used ≡ 0 + length (piece_of t p.skip (length f)) = rw e at r.used in
    record { count = omega arith; more = rw e at r.more; buffer = rw e at r.buffer }

-- an answer
pub says_bytes : (a : Reply) (l : List ℕ) {p q r s t : Pen} {n : ℕ} {o : List ℕ} → Wrote (digits 2 n) p q → Wrote (digits 4 a.stores) q r → Wrote (tail_bytes a.tail l) r s
    → Wrote (newline ∷ []) s t → p.used ≡ 0 → p.more ≡ false → n ≡ a.number → o ≡ t.out.now → Says (bytes a l) p.skip p.out.now (record { count = t.used; more = t.more }) o
unfolding bytes
says_bytes a l u v w x e m k d =
    rw d (wrote_says (wrote_append (rw digits_two at (rw k at u)) (wrote_append (rw digits_four at v) (wrote_append w x))) e m)

-- one outcome, and no other
pub says_settles : {t : List ℕ} {from : ℕ} {f g h : List ℕ} {r s : Said} → Says t from f r g → Says t from f s h → (r ≡ s) × (g ≡ h)
says_settles {f = f} {r = r} {s} x y =
    let c : r.count ≡ s.count = settled x.count y.count in
    let m : r.more ≡ s.more = settled x.more y.more in
    let e : r ≡ s = ap (λ (n : ℕ). record { count = n; more = r.more }) c ∙ ap (λ (b : Bool). record { count = s.count; more = b }) m in
    (e, x.buffer ∙ rw c (sym y.buffer))
