-- The numbers and values of answers, when each refusal is given, the order of checks, and outcomes under power: document 01, "Refusal
-- numbers". BADFRAME is the console's. Definitions alone. Assumes nothing.
use Rattle.std.specs.Prelude.{List, [], ◌∷◌, Bool, true, false, cond, not, ◌&&◌, ◌||◌, ℕ, ◌+◌, ◌*◌, length, leb, ltb, eqb, Option, Some, None, is_none, Result, Ok, Err}
use Rattle.flash.specs.Stores.{Store, made_first}
use Rattle.rules.specs.declared.Area.{Area}
use Rattle.rules.specs.declared.Refusal.{Refusal}
use Rattle.rules.specs.declared.Refusal.TheVariants.{Geometry, Damaged, Unready, BadHandle, BadLength, NotFound, NoRoom, BadPlace}
use Rattle.rules.specs.Words.{size_of, quota, special}
use Rattle.rules.specs.Walk.{entry_length}
use Rattle.rules.specs.Areas.{entries, find, map_of, damaged, ready, live_words}
use Rattle.rules.specs.declared.Made.{Made}
use Rattle.rules.specs.declared.Found.{Found}
use Rattle.rules.specs.declared.PageSize.{PageSize}

-- ---- what requests answer
-- format, recover, write, delete
abbrev pub Answer : Type 0
Answer = Result Made Refusal

-- read
abbrev pub Reading : Type 0
Reading = Result Found Refusal

-- a step of a search
abbrev pub Yielded : Type 0
Yielded = Result ℕ Refusal

-- ---- numbers and values
abbrev pub refusal_number : Refusal → ℕ
refusal_number Geometry = 0x01
refusal_number Damaged = 0x02
refusal_number Unready = 0x03
refusal_number BadHandle = 0x04
refusal_number BadLength = 0x05
refusal_number NotFound = 0x06
refusal_number NoRoom = 0x07
refusal_number BadPlace = 0x09

-- format, recover, write, delete
abbrev pub answer_number : Answer → ℕ
answer_number (Ok (Made.Done s)) = 0x00
answer_number (Ok (Made.Cut s)) = 0x08
answer_number (Err n) = refusal_number n

abbrev pub answer_stores : Answer → ℕ
answer_stores (Ok (Made.Done s)) = s
answer_stores (Ok (Made.Cut s)) = s
answer_stores (Err n) = 0

-- of an answer that is never CUT
abbrev pub number_of : {T : Type 0} → Result T Refusal → ℕ
number_of (Ok x) = 0x00
number_of (Err n) = refusal_number n

-- read
abbrev pub reading_number : Reading → ℕ
reading_number r = number_of r

abbrev pub reading_stores : Reading → ℕ
reading_stores r = 0

abbrev pub reading_place : Reading → ℕ
reading_place (Ok d) = d.place
reading_place (Err n) = 0

abbrev pub reading_words : Reading → ℕ
reading_words (Ok d) = d.words
reading_words (Err n) = 0

-- a step of a search
abbrev pub yielded_number : Yielded → ℕ
yielded_number y = number_of y

abbrev pub yielded_stores : Yielded → ℕ
yielded_stores y = 0

abbrev pub yielded_place : Yielded → ℕ
yielded_place (Ok p) = p
yielded_place (Err n) = 0

-- ---- when each is given; DAMAGED is `damaged`, BADPLACE stands with search
abbrev pub is_listed : Option PageSize → Bool
is_listed (Some s) = true
is_listed None = false

-- GEOMETRY
unfoldable pub wrong_geometry : Area → List ℕ → Bool
wrong_geometry a f =
    not (leb 1 a.pages && leb a.pages 255) || (not (is_listed (size_of a.words)) || not (eqb (length f) ((a.pages + 1) * a.words)))

-- UNREADY
unfoldable pub unready : Area → List ℕ → Bool
unready a f = not (damaged a f) && not (ready a f)

-- BADHANDLE
abbrev pub bad_handle : ℕ → Bool
bad_handle h = eqb h 0 || leb special h

-- BADLENGTH
abbrev pub bad_length : List ℕ → Bool
bad_length d = ltb 32 (length d)

abbrev pub same_words : List ℕ → List ℕ → Bool
same_words [] [] = true
same_words [] (y ∷ ys) = false
same_words (x ∷ xs) [] = false
same_words (x ∷ xs) (y ∷ ys) = eqb x y && same_words xs ys

abbrev pub is_data : Option (List ℕ) → List ℕ → Bool
is_data None d = false
is_data (Some v) d = same_words v d

-- whether the handle h already holds the data d
unfoldable pub holds : Area → List ℕ → ℕ → List ℕ → Bool
holds a f h d = is_data (map_of a f h) d

abbrev pub area_quota : Area → ℕ
area_quota a = a.pages * quota a.words

-- NOROOM
unfoldable pub no_room : Area → List ℕ → ℕ → List ℕ → Bool
no_room a f h d = not (holds a f h d) && ltb (area_quota a) (live_words (entries a f) + entry_length d)

-- ---- the order of checks
-- checks in order, each with the refusal that it gives: the first that applies refuses, and with none the answer stands
abbrev pub checked : {A : Type 0} → (Refusal → A) → List (Bool × Refusal) → A → A
checked refused [] x = x
checked refused (c ∷ cs) x = cond c.0 (refused c.1) (checked refused cs x)

abbrev pub format_checks : Area → List ℕ → List (Bool × Refusal)
format_checks a f = (wrong_geometry a f, Geometry) ∷ []

abbrev pub recover_checks : Area → List ℕ → List (Bool × Refusal)
recover_checks a f = (wrong_geometry a f, Geometry) ∷ (damaged a f, Damaged) ∷ []

-- those that every other request begins with
abbrev pub ready_checks : Area → List ℕ → List (Bool × Refusal) → List (Bool × Refusal)
ready_checks a f cs = (wrong_geometry a f, Geometry) ∷ (damaged a f, Damaged) ∷ (unready a f, Unready) ∷ cs

abbrev pub write_checks : Area → List ℕ → ℕ → List ℕ → List (Bool × Refusal)
write_checks a f h d = ready_checks a f ((bad_handle h, BadHandle) ∷ (bad_length d, BadLength) ∷ (no_room a f h d, NoRoom) ∷ [])

-- read and delete
abbrev pub find_checks : Area → List ℕ → ℕ → List (Bool × Refusal)
find_checks a f h = ready_checks a f ((bad_handle h, BadHandle) ∷ (is_none (find h (entries a f)), NotFound) ∷ [])

-- ---- outcomes under power
-- what a request that may store is to do on the flash that it meets: refuse, or make a list of stores
pub data Plan : Type 0 where
  refuse : Refusal → Plan
  list : List Store → Plan

pub record Outcome : Type 0 where
  pub answer : Answer
  pub flash : List ℕ

-- with power for k stores
abbrev pub outcome_of : Plan → ℕ → List ℕ → Outcome
outcome_of (refuse n) k f = record { answer = Err n; flash = f }
outcome_of (list ss) k f =
    record { answer = cond (leb (length ss) k) (Ok (Made.Done (length ss))) (Ok (Made.Cut k)); flash = made_first k ss f }

abbrev pub outcome : (List ℕ → Plan) → ℕ → List ℕ → Outcome
outcome plan k f = outcome_of (plan f) k f
