-- Laws of a line's answer and of a whole input: what the power and the area are behind a line, how long an answer is, and that each line
-- has one answer line. Assumes nothing.
use Rattle.std.specs.Prelude.{◌≡◌, refl, Option, Some, None, ◌≢◌, List, [], ◌∷◌, ◌++◌, Bool, true, false, cond, ℕ, suc, ◌+◌, ◌*◌, ◌/◌, ◌%◌, ◌≤◌, ◌<◌, length, take, drop, leb, ltb, eqb}
use Rattle.std.proofs.Common.{ap, sym, ◌∙◌, subst, append_assoc, append-nil, true≢false, zero-le, arith, length-append, length-take, length-drop, take-append-drop, take_at, take_all, leb-true, le-leb, ltb-true, ltb-false, ne_eqb}
use Rattle.std.proofs.lemmas.Bool.{false≢true, lt-leb}
use Rattle.rules.specs.declared.Area.{Area}
use Rattle.rules.specs.Areas.{base, Entry, entries}
use Rattle.rules.specs.Refusals.{wrong_geometry}
use Rattle.rules.specs.Search.{matches}
use Rattle.rules.specs.Places.{Right, base_suc, right_of}
use Rattle.rules.specs.Lists.{format_list}
use Rattle.rules.specs.Laws.{and_left, and_right}
use Rattle.demands.specs.Counting.{entries_few}
use Rattle.demands.specs.Format.{format_length}
use Rattle.frames.specs.declared.Shape.{Shape}
use Rattle.frames.specs.declared.State.{State}
use Rattle.frames.specs.declared.Tail.{Tail}
use Rattle.frames.specs.declared.Reply.{Reply}
use Rattle.frames.specs.declared.Frame.{Frame}
use Rattle.frames.specs.Frames.{is_digit, all_digits, value, two, four, eight, frame_of, digit, two_digits, four_digits, eight_digits, eights, fours, area_of, run_words, run_of, with_run, handles, list_handles, tail_bytes, newline, bytes, plain, enough, start, Effect, told, size_named, format_area, is_format, carried_by, carried, lines_from, limit, lines, answers, session}

-- ---- the input
-- what stands past the limit is not read
pub past_limit : (s : State) (f x y : List ℕ) → length x ≡ limit → session s f (x ++ y) ≡ session s f x
unfolding session lines
past_limit s f x y l = ap (λ (u : List ℕ). answers s f (lines_from [] u)) (take_at x y limit l ∙ sym (take_all limit x (omega arith)))

-- ---- the run of an area, put back where it was
pub run_own : (a : Shape) (f : List ℕ) → with_run a f (run_of a f) ≡ f
unfolding with_run run_of
run_own a f = take-append-drop (run_words a) f

-- ---- formats
-- one that is well-formed is carried out on at most 15 pages, or refused for its geometry
pub format_cases : (P : Effect → Type 0) (s : State) (f l : List ℕ) (n size : ℕ) → (n ≤ 15 → P (format_area s f (record { pages = n; size = size_named size })))
    → P (told s f (plain 0x01 0)) → P (carried_by s f l (Some (Frame.Format n size)))
format_cases P s f l n size p q = go (is_format n size) refl
  where
    go : (b : Bool) → is_format n size ≡ b → P (cond b (format_area s f (record { pages = n; size = size_named size })) (told s f (plain 0x01 0)))
    go true e = p (leb-true n 15 (and_left (leb n 15) _ (and_right (leb 1 n) _ e)))
    go false e = q

-- its power is enough
pub format_whole : (a : Shape) (f : List ℕ) → a.pages ≤ 15 → leb (length (format_list (area_of a) (run_of a f))) enough ≡ true
format_whole a f h = let e = format_length (area_of a) (run_of a f) in le-leb (length (format_list (area_of a) (run_of a f))) enough (omega arith)

-- one that is not DONE leaves state and flash
abbrev Leaves : State → List ℕ → Effect → Type 0
Leaves s f c = c.reply.number ≢ 0x00 → (c.state ≡ s) × (c.flash ≡ f)

pub refused_format : (s : State) (f l : List ℕ) (n size : ℕ) → frame_of l ≡ Some (Frame.Format n size) → (carried s f l).reply.number ≢ 0x00
    → ((carried s f l).state ≡ s) × ((carried s f l).flash ≡ f)
unfolding carried
refused_format s f l n size e = subst (λ (x : Option Frame). Leaves s f (carried_by s f l x)) (sym e) (format_cases (Leaves s f) s f l n size (planned (wrong_geometry (area_of a) (run_of a f)) refl) (λ m. (refl, refl)))
  where
    a : Shape
    a = record { pages = n; size = size_named size }

    planned : (b : Bool) → wrong_geometry (area_of a) (run_of a f) ≡ b → n ≤ 15 → Leaves s f (format_area s f a)
    planned true q h m = rw q (refl, run_own a f)
    planned false q h m = absurd (m (rw (q, format_whole a f h)))

-- and no other frame changes the area
abbrev pub formats : Option Frame → Bool
formats (Some (Frame.Write h n)) = false
formats (Some (Frame.Read h)) = false
formats (Some (Frame.Delete h)) = false
formats (Some (Frame.List mask pattern)) = false
formats (Some Frame.Recover) = false
formats (Some (Frame.Power k)) = false
formats (Some (Frame.Format n size)) = true
formats None = false

pub same_shape : (s : State) (f l : List ℕ) → formats (frame_of l) ≡ false → (carried s f l).state.shape ≡ s.shape
unfolding carried
same_shape s f l = go (frame_of l)
  where
    go : (x : Option Frame) → formats x ≡ false → (carried_by s f l x).state.shape ≡ s.shape
    go (Some (Frame.Write h n)) e = refl
    go (Some (Frame.Read h)) e = refl
    go (Some (Frame.Delete h)) e = refl
    go (Some (Frame.List mask pattern)) e = refl
    go (Some Frame.Recover) e = refl
    go (Some (Frame.Power k)) e = refl
    go (Some (Frame.Format n size)) e = absurd (true≢false e)
    go None e = refl

-- ---- power
-- behind a frame, by what it was before
abbrev pub power_after : Option Frame → ℕ → ℕ
power_after (Some (Frame.Write h n)) k = enough
power_after (Some (Frame.Read h)) k = k
power_after (Some (Frame.Delete h)) k = enough
power_after (Some (Frame.List mask pattern)) k = k
power_after (Some Frame.Recover) k = enough
power_after (Some (Frame.Power j)) k = j
power_after (Some (Frame.Format n size)) k = k
power_after None k = k

pub carried_power : (s : State) (f l : List ℕ) → (carried s f l).state.power ≡ power_after (frame_of l) s.power
unfolding carried
carried_power s f l = go (frame_of l)
  where
    go : (x : Option Frame) → (carried_by s f l x).state.power ≡ power_after x s.power
    go (Some (Frame.Write h n)) = refl
    go (Some (Frame.Read h)) = refl
    go (Some (Frame.Delete h)) = refl
    go (Some (Frame.List mask pattern)) = refl
    go (Some Frame.Recover) = refl
    go (Some (Frame.Power j)) = refl
    go (Some (Frame.Format n size)) = format_cases (λ c. c.state.power ≡ s.power) s f l n size (λ h. refl) refl
    go None = refl

-- ---- before a format
-- the kinds 01 to 05
abbrev pub on_area : Option Frame → Bool
on_area (Some (Frame.Write h n)) = true
on_area (Some (Frame.Read h)) = true
on_area (Some (Frame.Delete h)) = true
on_area (Some (Frame.List mask pattern)) = true
on_area (Some Frame.Recover) = true
on_area (Some (Frame.Power k)) = false
on_area (Some (Frame.Format n size)) = false
on_area None = false

-- they are answered GEOMETRY, and all but the power stays
pub before_format : (k : ℕ) (f l : List ℕ) → on_area (frame_of l) ≡ true
    → carried (record { shape = start.shape; power = k }) f l ≡ record { state = record { shape = start.shape; power = power_after (frame_of l) k }; reply = plain 0x01 0; flash = f }
unfolding carried wrong_geometry
before_format k f l = go (frame_of l)
  where
    go : (x : Option Frame) → on_area x ≡ true
        → carried_by (record { shape = start.shape; power = k }) f l x ≡ record { state = record { shape = start.shape; power = power_after x k }; reply = plain 0x01 0; flash = f }
    go (Some (Frame.Write h n)) e = rw (run_own start.shape f)
    go (Some (Frame.Read h)) e = refl
    go (Some (Frame.Delete h)) e = rw (run_own start.shape f)
    go (Some (Frame.List mask pattern)) e = refl
    go (Some Frame.Recover) e = rw (run_own start.shape f)
    go (Some (Frame.Power j)) e = absurd (false≢true e)
    go (Some (Frame.Format n size)) e = absurd (false≢true e)
    go None e = absurd (false≢true e)

-- ---- an answer's bytes
-- frames that are answered with words or handles
abbrev pub tells : Option Frame → Bool
tells (Some (Frame.Write h n)) = false
tells (Some (Frame.Read h)) = true
tells (Some (Frame.Delete h)) = false
tells (Some (Frame.List mask pattern)) = true
tells (Some Frame.Recover) = false
tells (Some (Frame.Power k)) = false
tells (Some (Frame.Format n size)) = false
tells None = false

pub answer_plain : (s : State) (f l : List ℕ) → tells (frame_of l) ≡ false → (carried s f l).reply.tail ≡ Tail.Nothing
unfolding carried
answer_plain s f l = go (frame_of l)
  where
    go : (x : Option Frame) → tells x ≡ false → (carried_by s f l x).reply.tail ≡ Tail.Nothing
    go (Some (Frame.Write h n)) e = refl
    go (Some (Frame.Read h)) e = absurd (true≢false e)
    go (Some (Frame.Delete h)) e = refl
    go (Some (Frame.List mask pattern)) e = absurd (true≢false e)
    go (Some Frame.Recover) e = refl
    go (Some (Frame.Power k)) e = refl
    go (Some (Frame.Format n size)) e = format_cases (λ c. c.reply.tail ≡ Tail.Nothing) s f l n size (λ h. refl) refl
    go None e = refl

-- seven, with those of what comes behind number and stores
pub answer_length : (r : Reply) (f : List ℕ) → length (bytes r f) ≡ 7 + length (tail_bytes r.tail f)
unfolding bytes two_digits four_digits
answer_length r f = let e = length-append (tail_bytes r.tail f) (newline ∷ []) in omega arith

pub plain_length : (s : State) (f l : List ℕ) → tells (frame_of l) ≡ false → length (bytes (carried s f l).reply (carried s f l).flash) ≡ 7
plain_length s f l e =
    let c = carried s f l in
    answer_length c.reply c.flash ∙ ap (λ (t : Tail). 7 + length (tail_bytes t c.flash)) (answer_plain s f l e)

-- eight digits a word, four a handle
pub eights_length : (ws : List ℕ) → length (eights ws) ≡ 8 * length ws
unfolding eight_digits four_digits two_digits
eights_length [] = refl
eights_length (w ∷ ws) = let e = eights_length ws in omega arith

pub fours_length : (hs : List ℕ) → length (fours hs) ≡ 4 * length hs
unfolding four_digits two_digits
fours_length [] = refl
fours_length (h ∷ hs) = let e = fours_length hs in omega arith

-- ---- an answer is not longer than the flash can make it
handles_few : (mask pattern : ℕ) (es : List Entry) → length (handles mask pattern es) ≤ length es
handles_few mask pattern [] = zero-le
handles_few mask pattern (e ∷ es) = go (matches mask pattern e) (handles_few mask pattern es)
  where
    go : (b : Bool) → length (handles mask pattern es) ≤ length es → length (cond b (e.handle ∷ handles mask pattern es) (handles mask pattern es)) ≤ suc (length es)
    go true h = omega arith
    go false h = omega arith

run_few : (a : Shape) (f : List ℕ) → length (run_of a f) ≤ length f
unfolding run_of
run_few a f = omega (arith, length-take (run_words a) f)

entries_inside : {a : Area} {f : List ℕ} → Right a f → length (entries a f) ≤ length f
unfolding base
entries_inside {a} {f} r = omega (arith, entries_few a f, base_suc a a.pages, r.long)

listed_few : (a : Shape) (mask pattern : ℕ) (f : List ℕ) → length (list_handles a mask pattern f) ≤ length f
unfolding list_handles
listed_few a mask pattern f = go (wrong_geometry (area_of a) (run_of a f)) refl
  where
    go : (b : Bool) → wrong_geometry (area_of a) (run_of a f) ≡ b → length (cond b [] (handles mask pattern (entries (area_of a) (run_of a f)))) ≤ length f
    go true q = zero-le
    go false q = omega (arith, handles_few mask pattern (entries (area_of a) (run_of a f)), entries_inside (right_of (area_of a) (run_of a f) q), run_few a f)

tail_few : (t : Tail) (f : List ℕ) → length (tail_bytes t f) ≤ 8 * length f
tail_few Tail.Nothing f = zero-le
tail_few (Tail.Words p n) f = omega (arith, eights_length (take n (drop (suc p) f)), length-take n (drop (suc p) f), length-drop (suc p) f)
tail_few (Tail.Handles a mask pattern) f = omega (arith, fours_length (list_handles a mask pattern f), listed_few a mask pattern f)

pub bytes_few : (r : Reply) (f : List ℕ) → length (bytes r f) ≤ 7 + 8 * length f
bytes_few r f = omega (arith, answer_length r f, tail_few r.tail f)

-- ---- an answer is one line: digits, and a newline at the end
digit_is : (n : ℕ) → n < 16 → is_digit (digit n) ≡ true
digit_is n h = go (ltb n 10) refl
  where
    go : (b : Bool) → ltb n 10 ≡ b → is_digit (cond b (0x30 + n) (0x37 + n)) ≡ true
    go true q = let l = ltb-true n 10 q in rw (le-leb 0x30 (0x30 + n) (omega arith), le-leb (0x30 + n) 0x39 (omega arith))
    go false q =
        let l = ltb-false n 10 q in
        rw (le-leb 0x30 (0x37 + n) (omega arith), lt-leb (0x37 + n) 0x39 (omega arith), le-leb 0x41 (0x37 + n) (omega arith), le-leb (0x37 + n) 0x46 (omega arith))

digits_append : (x y : List ℕ) → all_digits x ≡ true → all_digits y ≡ true → all_digits (x ++ y) ≡ true
digits_append [] y p q = q
digits_append (b ∷ x) y p q = rw (and_left (is_digit b) _ p) (digits_append x y (and_right (is_digit b) _ p) q)

all_digits_two : (n : ℕ) → all_digits (two_digits n) ≡ true
unfolding two_digits
all_digits_two n = rw (digit_is (n / 16 % 16) (omega arith), digit_is (n % 16) (omega arith))

all_digits_four : (n : ℕ) → all_digits (four_digits n) ≡ true
unfolding four_digits
all_digits_four n = digits_append (two_digits (n / 256)) (two_digits n) (all_digits_two (n / 256)) (all_digits_two n)

all_digits_eight : (n : ℕ) → all_digits (eight_digits n) ≡ true
unfolding eight_digits
all_digits_eight n = digits_append (four_digits (n / 65536)) (four_digits n) (all_digits_four (n / 65536)) (all_digits_four n)

eights_digits : (ws : List ℕ) → all_digits (eights ws) ≡ true
eights_digits [] = refl
eights_digits (w ∷ ws) = digits_append (eight_digits w) (eights ws) (all_digits_eight w) (eights_digits ws)

fours_digits : (hs : List ℕ) → all_digits (fours hs) ≡ true
fours_digits [] = refl
fours_digits (h ∷ hs) = digits_append (four_digits h) (fours hs) (all_digits_four h) (fours_digits hs)

tail_digits : (t : Tail) (f : List ℕ) → all_digits (tail_bytes t f) ≡ true
tail_digits Tail.Nothing f = refl
tail_digits (Tail.Words p n) f = eights_digits (take n (drop (suc p) f))
tail_digits (Tail.Handles a mask pattern) f = fours_digits (list_handles a mask pattern f)

-- the digits of an answer
abbrev pub text_of : Reply → List ℕ → List ℕ
text_of r f = two_digits r.number ++ (four_digits r.stores ++ tail_bytes r.tail f)

pub answer_line : (r : Reply) (f : List ℕ) → (bytes r f ≡ text_of r f ++ newline ∷ []) × (all_digits (text_of r f) ≡ true)
unfolding bytes
answer_line r f =
    let t = tail_bytes r.tail f in (
      sym (append_assoc (two_digits r.number) (four_digits r.stores ++ t) (newline ∷ []) ∙ ap (λ (u : List ℕ). two_digits r.number ++ u) (append_assoc (four_digits r.stores) t (newline ∷ []))),
      digits_append (two_digits r.number) (four_digits r.stores ++ t) (all_digits_two r.number) (digits_append (four_digits r.stores) t (all_digits_four r.stores) (tail_digits r.tail f)),
    )

digit_other : (b : ℕ) → is_digit b ≡ true → eqb b newline ≡ false
digit_other b d = ne_eqb b newline (λ e. false≢true (rw e at d))

line_cut : (l x y : List ℕ) → all_digits x ≡ true → lines_from l (x ++ newline ∷ y) ≡ (l ++ x) ∷ lines_from [] y
line_cut l [] y d = rw (append-nil l)
line_cut l (b ∷ x) y d =
    rw (digit_other b (and_left (is_digit b) _ d)) (line_cut (l ++ b ∷ []) x y (and_right (is_digit b) _ d) ∙ ap (λ (u : List ℕ). u ∷ lines_from [] y) (append_assoc l (b ∷ []) x))

-- one for each line of the input
abbrev pub texts : State → List ℕ → List (List ℕ) → List (List ℕ)
texts s f [] = []
texts s f (l ∷ ls) = let c = carried s f l in text_of c.reply c.flash ∷ texts c.state c.flash ls

pub one_each : (s : State) (f : List ℕ) (ls : List (List ℕ)) → lines_from [] (answers s f ls) ≡ texts s f ls
one_each s f [] = refl
one_each s f (l ∷ ls) =
    let c = carried s f l in
    let a = answer_line c.reply c.flash in
    let ys = answers c.state c.flash ls in
    ap (λ (u : List ℕ). lines_from [] (u ++ ys)) a.0
    ∙ ap (lines_from []) (append_assoc (text_of c.reply c.flash) (newline ∷ []) ys)
    ∙ line_cut [] (text_of c.reply c.flash) ys a.1
    ∙ ap (λ (u : List (List ℕ)). text_of c.reply c.flash ∷ u) (one_each c.state c.flash ls)

-- ---- digits read back are the number
digit_value : (n : ℕ) → n < 16 → value (digit n) ≡ n
digit_value n h = go (ltb n 10) refl
  where
    go : (b : Bool) → ltb n 10 ≡ b → value (cond b (0x30 + n) (0x37 + n)) ≡ n
    go true q = let l = ltb-true n 10 q in rw (le-leb (0x30 + n) 0x39 (omega arith)) (omega arith)
    go false q = let l = ltb-false n 10 q in rw (lt-leb (0x37 + n) 0x39 (omega arith)) (omega arith)

pub two_back : (n : ℕ) → two (two_digits n) 0 ≡ n % 256
unfolding two two_digits
two_back n = rw (digit_value (n / 16 % 16) (omega arith), digit_value (n % 16) (omega arith)) (omega arith)

pub four_back : (n : ℕ) → four (four_digits n) 0 ≡ n % 65536
unfolding four four_digits two two_digits
four_back n = let a = two_back (n / 256) in let b = two_back n in omega arith

pub eight_back : (n : ℕ) → eight (eight_digits n) 0 ≡ n % 4294967296
unfolding eight eight_digits four four_digits two two_digits
eight_back n = let a = four_back (n / 65536) in let b = four_back n in omega arith
