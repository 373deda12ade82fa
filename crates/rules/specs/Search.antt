-- Read and search: document 01, "Search". Definitions alone. Assumes nothing.
use Rattle.std.specs.Prelude.{List, [], ◌∷◌, Bool, not, ◌&&◌, ℕ, length, ltb, eqb, Option, Some, None, Ok, Err, is_none}
use Rattle.std.specs.Int.Bits.{bit_and}
use Rattle.rules.specs.declared.Area.{Area}
use Rattle.rules.specs.declared.Refusal.{Refusal}
use Rattle.rules.specs.declared.Refusal.TheVariants.{NotFound, BadPlace}
use Rattle.rules.specs.Words.{is_live}
use Rattle.rules.specs.Areas.{Entry, entries, any_of, first_of, find}
use Rattle.rules.specs.Refusals.{checked, ready_checks, find_checks, Reading, Yielded}

abbrev pub place_of : Option Entry → ℕ
place_of None = 0
place_of (Some e) = e.place

abbrev pub data_length : Option Entry → ℕ
data_length None = 0
data_length (Some e) = length e.words

-- ---- read
abbrev pub read_of : Area → ℕ → List ℕ → Reading
read_of a h f = let e = find h (entries a f) in checked Err (find_checks a f h) (Ok (record { place = place_of e; words = data_length e }))

-- ---- search
-- the filter
abbrev pub matches : ℕ → ℕ → Entry → Bool
matches mask pattern e = is_live e.handle && eqb (bit_and e.handle mask) (bit_and pattern mask)

-- a match behind a place; places grow in area order
abbrev pub wanted : ℕ → ℕ → ℕ → Entry → Bool
wanted mask pattern place e = ltb place e.place && matches mask pattern e

-- the next one
unfoldable pub next : Area → List ℕ → ℕ → ℕ → ℕ → Option Entry
next a f mask pattern place = first_of (wanted mask pattern place) (entries a f)

-- whether an entry's header is at a place
abbrev pub is_at : ℕ → Entry → Bool
is_at place e = eqb e.place place

-- BADPLACE
unfoldable pub bad_place : Area → List ℕ → ℕ → Bool
bad_place a f place = not (eqb place 0) && not (any_of (is_at place) (entries a f))

abbrev pub search_checks : Area → List ℕ → ℕ → ℕ → ℕ → List (Bool × Refusal)
search_checks a f mask pattern place = ready_checks a f ((bad_place a f place, BadPlace) ∷ (is_none (next a f mask pattern place), NotFound) ∷ [])

-- from a place
abbrev pub search_of : Area → ℕ → ℕ → ℕ → List ℕ → Yielded
search_of a mask pattern place f = checked Err (search_checks a f mask pattern place) (Ok (place_of (next a f mask pattern place)))

-- ---- the object: the area that it was opened on, with its run, the filter, and the place that it has reached
pub record Search : Type 0 where
  pub area : Area
  pub run : List ℕ
  pub mask : ℕ
  pub pattern : ℕ
  pub place : ℕ

-- what a step yields, and the search behind it
abbrev pub step_of : Search → Yielded
step_of s = search_of s.area s.mask s.pattern s.place s.run

abbrev pub place_after : ℕ → Yielded → ℕ
place_after p (Ok q) = q
place_after p (Err n) = p

abbrev pub moved : Search → Search
moved s = record { area = s.area; run = s.run; mask = s.mask; pattern = s.pattern; place = place_after s.place (step_of s) }
