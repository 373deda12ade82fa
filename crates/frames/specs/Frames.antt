-- The console: document 01, "The console". A line and an answer are lists of bytes. Definitions alone. Assumes nothing.
use Rattle.std.specs.Prelude.{◌≡◌, List, [], ◌∷◌, ◌++◌, Bool, true, cond, ◌&&◌, ◌||◌, ℕ, suc, zero, ◌+◌, ◌-◌, ◌*◌, ◌/◌, ◌%◌, length, get_or, take, drop, leb, ltb, eqb, Ok, Err, Option, Some, None}
use Rattle.rules.specs.declared.Area.{Area}
use Rattle.rules.specs.declared.PageSize.{PageSize}
use Rattle.rules.specs.declared.PageSize.TheVariants.{Small, Medium, Large}
use Rattle.rules.specs.declared.Refusal.TheVariants.{Geometry}
use Rattle.rules.specs.Words.{words_of}
use Rattle.rules.specs.Areas.{Entry, entries}
use Rattle.rules.specs.Refusals.{refusal_number, answer_number, answer_stores, wrong_geometry, outcome, Answer, Reading, Yielded}
use Rattle.rules.specs.Lists.{Request, format, recover, write, delete, plan_of}
use Rattle.rules.specs.Search.{matches, read_of, search_of}
use Rattle.frames.specs.declared.Shape.{Shape}
use Rattle.frames.specs.declared.State.{State}
use Rattle.frames.specs.declared.Tail.{Tail}
use Rattle.frames.specs.declared.Reply.{Reply}
use Rattle.frames.specs.declared.Frame.{Frame}
use Rattle.frames.specs.declared.Said.{Said}
use Rattle.frames.specs.declared.Answered.{Answered}
use Rattle.rules.specs.declared.Made.{Made}

-- ---- digits of a line: capital hexadecimal
abbrev pub is_digit : ℕ → Bool
is_digit b = (leb 0x30 b && leb b 0x39) || (leb 0x41 b && leb b 0x46)

abbrev pub all_digits : List ℕ → Bool
all_digits [] = true
all_digits (b ∷ l) = is_digit b && all_digits l

-- a digit's number
abbrev pub value : ℕ → ℕ
value b = cond (leb b 0x39) (b - 0x30) (b - 0x37)

-- the numbers that two, four and eight digits from a place on make
unfoldable pub two : List ℕ → ℕ → ℕ
two l i = 16 * value (get_or l i 0) + value (get_or l (i + 1) 0)

unfoldable pub four : List ℕ → ℕ → ℕ
four l i = 256 * two l i + two l (i + 2)

unfoldable pub eight : List ℕ → ℕ → ℕ
eight l i = 65536 * four l i + four l (i + 4)

-- n words from a place on
abbrev pub words_from : List ℕ → ℕ → ℕ → List ℕ
words_from l zero i = []
words_from l (suc n) i = eight l i ∷ words_from l n (i + 8)

-- ---- the frame of a line
-- whether a write can have so many digits: kind, handle, and 0 to 40 words
abbrev pub is_write : ℕ → Bool
is_write n = leb 6 n && (leb n 326 && eqb ((n - 6) % 8) 0)

-- by its kind and the number of its digits; a line of another kind, or of other digits than its kind has, is no frame
unfoldable pub shaped : ℕ → List ℕ → Option Frame
shaped kind l =
    let n = length l in
    cond (eqb kind 0x01) (cond (is_write n) (Some (Frame.Write (four l 2) ((n - 6) / 8))) None)
    (cond (eqb kind 0x02) (cond (eqb n 6) (Some (Frame.Read (four l 2))) None)
    (cond (eqb kind 0x03) (cond (eqb n 6) (Some (Frame.Delete (four l 2))) None)
    (cond (eqb kind 0x04) (cond (eqb n 10) (Some (Frame.List (four l 2) (four l 6))) None)
    (cond (eqb kind 0x05) (cond (eqb n 2) (Some Frame.Recover) None)
    (cond (eqb kind 0x06) (cond (eqb n 6) (Some (Frame.Power (four l 2))) None)
    (cond (eqb kind 0x07) (cond (eqb n 6) (Some (Frame.Format (two l 2) (two l 4))) None) None))))))

unfoldable pub frame_of : List ℕ → Option Frame
frame_of l = cond (leb 2 (length l) && all_digits l) (shaped (two l 0) l) None

-- the words of a write of n words
unfoldable pub line_words : List ℕ → ℕ → List ℕ
line_words l n = words_from l n 6

-- of a line's frame: the words that it has, if it is a write
abbrev pub count_of : Option Frame → ℕ
count_of (Some (Frame.Write h n)) = n
count_of (Some (Frame.Read h)) = 0
count_of (Some (Frame.Delete h)) = 0
count_of (Some (Frame.List mask pattern)) = 0
count_of (Some Frame.Recover) = 0
count_of (Some (Frame.Power k)) = 0
count_of (Some (Frame.Format n size)) = 0
count_of None = 0

-- a buffer v with n words of a line at its start, if it has room for them
abbrev pub with_words : List ℕ → ℕ → List ℕ → List ℕ
with_words l n v = cond (leb n (length v)) (line_words l n ++ drop n v) v

-- of a line l and a buffer v for the words of a write: the frame r, and the buffer w then
pub record Framed (l v : List ℕ) (r : Option Frame) (w : List ℕ) : Type 0 where
  pub frame : r ≡ frame_of l
  pub words : w ≡ with_words l (count_of (frame_of l)) v

-- ---- answers as bytes
-- the digit of a number below 16
abbrev pub digit : ℕ → ℕ
digit n = cond (ltb n 10) (0x30 + n) (0x37 + n)

-- the last two, four and eight digits of a number
unfoldable pub two_digits : ℕ → List ℕ
two_digits n = digit (n / 16 % 16) ∷ digit (n % 16) ∷ []

unfoldable pub four_digits : ℕ → List ℕ
four_digits n = two_digits (n / 256) ++ two_digits n

unfoldable pub eight_digits : ℕ → List ℕ
eight_digits n = four_digits (n / 65536) ++ four_digits n

-- numbers one behind the other
abbrev pub eights : List ℕ → List ℕ
eights [] = []
eights (n ∷ ns) = eight_digits n ++ eights ns

abbrev pub fours : List ℕ → List ℕ
fours [] = []
fours (n ∷ ns) = four_digits n ++ fours ns

-- ---- the area, in the first words of the flash
abbrev pub area_of : Shape → Area
area_of a = record { pages = a.pages; words = words_of a.size }

unfoldable pub run_words : Shape → ℕ
run_words a = (a.pages + 1) * words_of a.size

unfoldable pub run_of : Shape → List ℕ → List ℕ
run_of a f = take (run_words a) f

-- the flash whose run has become g
unfoldable pub with_run : Shape → List ℕ → List ℕ → List ℕ
with_run a f g = g ++ drop (run_words a) f

-- the handles of the live entries that a filter lets through
abbrev pub handles : ℕ → ℕ → List Entry → List ℕ
handles mask pattern [] = []
handles mask pattern (e ∷ es) = cond (matches mask pattern e) (e.handle ∷ handles mask pattern es) (handles mask pattern es)

-- in area order; none if there is no such area
unfoldable pub list_handles : Shape → ℕ → ℕ → List ℕ → List ℕ
list_handles a mask pattern f = let r = run_of a f in cond (wrong_geometry (area_of a) r) [] (handles mask pattern (entries (area_of a) r))

-- ---- an answer line
abbrev pub tail_bytes : Tail → List ℕ → List ℕ
tail_bytes Tail.Nothing f = []
tail_bytes (Tail.Words p n) f = eights (take n (drop (suc p) f))
tail_bytes (Tail.Handles a mask pattern) f = fours (list_handles a mask pattern f)

abbrev pub newline : ℕ
newline = 0x0A

-- number, stores, and what comes behind
unfoldable pub bytes : Reply → List ℕ → List ℕ
bytes r f = two_digits r.number ++ (four_digits r.stores ++ (tail_bytes r.tail f ++ newline ∷ []))

-- ---- what a frame does
pub record Effect : Type 0 where
  pub state : State
  pub reply : Reply
  pub flash : List ℕ

abbrev pub plain : ℕ → ℕ → Reply
plain n stores = record { number = n; stores = stores; tail = Tail.Nothing }

abbrev pub bad_frame : ℕ
bad_frame = 0x0A

abbrev pub enough : ℕ
enough = 0xFFFFFFFF

-- before the first format there is an area of no pages, on which every request is refused as GEOMETRY
abbrev pub start : State
start = record { shape = record { pages = 0; size = Small }; power = enough }

-- no store made, the flash as it was
abbrev pub told : State → List ℕ → Reply → Effect
told s f r = record { state = s; reply = r; flash = f }

-- read: its words
abbrev pub read_reply : Reading → Reply
read_reply (Ok d) = record { number = 0x00; stores = 0; tail = Tail.Words d.place d.words }
read_reply (Err n) = plain (refusal_number n) 0

abbrev pub read_frame : State → List ℕ → ℕ → Effect
read_frame s f h = told s f (read_reply (read_of (area_of s.shape) h (run_of s.shape f)))

-- list: what a search from 0 gives, but the handles of all its matches
abbrev pub list_reply : Shape → ℕ → ℕ → Yielded → Reply
list_reply a mask pattern (Ok p) = record { number = 0x00; stores = 0; tail = Tail.Handles a mask pattern }
list_reply a mask pattern (Err n) = plain (refusal_number n) 0

abbrev pub list_frame : State → List ℕ → ℕ → ℕ → Effect
list_frame s f mask pattern = told s f (list_reply s.shape mask pattern (search_of (area_of s.shape) mask pattern 0 (run_of s.shape f)))

-- write, delete, recover: with the power named for it, which is then spent
abbrev pub requested : State → List ℕ → Request → Effect
requested s f r =
    let a = s.shape in
    let o = outcome (plan_of (area_of a) r) s.power (run_of a f) in
    record { state = record { shape = a; power = enough }; reply = plain (answer_number o.answer) (answer_stores o.answer); flash = with_run a f o.flash }

-- format: with power enough; what is refused changes nothing
abbrev pub size_named : ℕ → PageSize
size_named n = cond (eqb n 0x00) Small (cond (eqb n 0x01) Medium Large)

abbrev pub shape_after : Shape → Shape → Answer → Shape
shape_after old new (Ok (Made.Done n)) = new
shape_after old new (Ok (Made.Cut n)) = old
shape_after old new (Err n) = old

abbrev pub format_area : State → List ℕ → Shape → Effect
format_area s f a =
    let o = outcome (plan_of (area_of a) format) enough (run_of a f) in
    record {
      state = record { shape = shape_after s.shape a o.answer; power = s.power };
      reply = plain (answer_number o.answer) (answer_stores o.answer);
      flash = with_run a f o.flash;
    }

-- whether there can be such an area on the console
abbrev pub is_format : ℕ → ℕ → Bool
is_format n size = leb 1 n && (leb n 15 && leb size 2)

abbrev pub format_frame : State → List ℕ → ℕ → ℕ → Effect
format_frame s f n size = cond (is_format n size) (format_area s f (record { pages = n; size = size_named size })) (told s f (plain (refusal_number Geometry) 0))

-- of each kind
abbrev pub carried_by : State → List ℕ → List ℕ → Option Frame → Effect
carried_by s f l (Some (Frame.Write h n)) = requested s f (write h (line_words l n))
carried_by s f l (Some (Frame.Read h)) = read_frame s f h
carried_by s f l (Some (Frame.Delete h)) = requested s f (delete h)
carried_by s f l (Some (Frame.List mask pattern)) = list_frame s f mask pattern
carried_by s f l (Some Frame.Recover) = requested s f recover
carried_by s f l (Some (Frame.Power k)) = told (record { shape = s.shape; power = k }) f (plain 0x00 0)
carried_by s f l (Some (Frame.Format n size)) = format_frame s f n size
carried_by s f l None = told s f (plain bad_frame 0)

-- a line, in a state and with a flash
unfoldable pub carried : State → List ℕ → List ℕ → Effect
carried s f l = carried_by s f l (frame_of l)

-- ---- a whole input
-- the bytes of a text before its first newline
abbrev pub line_length : List ℕ → ℕ
line_length [] = 0
line_length (b ∷ t) = cond (eqb b newline) 0 (suc (line_length t))

-- the lines of bytes behind those of a line so far; text behind the last newline is a line if there is any
abbrev pub lines_from : List ℕ → List ℕ → List (List ℕ)
lines_from [] [] = []
lines_from (c ∷ l) [] = (c ∷ l) ∷ []
lines_from l (b ∷ bs) = cond (eqb b newline) (l ∷ lines_from [] bs) (lines_from (l ++ b ∷ []) bs)

-- as many bytes of an input as are read
abbrev pub limit : ℕ
limit = 65536

unfoldable pub lines : List ℕ → List (List ℕ)
lines input = lines_from [] (take limit input)

-- each line is carried out in the state and with the flash that the line before left, and its answer told
abbrev pub answers : State → List ℕ → List (List ℕ) → List ℕ
answers s f [] = []
answers s f (l ∷ ls) = let c = carried s f l in bytes c.reply c.flash ++ answers c.state c.flash ls

unfoldable pub session : State → List ℕ → List ℕ → List ℕ
session s f input = answers s f (lines input)

-- ---- an answer, piece by piece
-- the bytes of a text, from a given one on, that a buffer of so many bytes has room for
abbrev pub piece_of : List ℕ → ℕ → ℕ → List ℕ
piece_of t from room = take room (drop from t)

-- of a text t from a byte on: these are put at the start of the buffer f, which is g then, and they are counted
pub record Says (t : List ℕ) (from : ℕ) (f : List ℕ) (r : Said) (g : List ℕ) : Type 0 where
  pub count : r.count ≡ length (piece_of t from (length f))
  pub more : r.more ≡ ltb (length f) (length (drop from t))
  pub buffer : g ≡ piece_of t from (length f) ++ drop r.count f

-- ---- a line's answer
-- of a line l in a state s, with the flash f and a buffer o: what is answered, r, and the flash and the buffer that are left, g and p
pub record Responds (s : State) (f l o : List ℕ) (r : Answered) (g p : List ℕ) : Type 0 where
  pub state : r.state ≡ (carried s f l).state
  pub reply : r.reply ≡ (carried s f l).reply
  pub flash : g ≡ (carried s f l).flash
  pub said : Says (bytes (carried s f l).reply (carried s f l).flash) 0 o r.said p
