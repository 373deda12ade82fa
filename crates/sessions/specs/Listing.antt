-- Whole inputs of the console computed: the listing of document 01, "The console", and frames at their edges. Assumes nothing.
use Rattle.std.specs.Prelude.{◌≡◌, refl, List, [], ◌∷◌, ◌++◌, map, ℕ, suc, zero, replicate}
use Prim.Native.Char.{code}
use Prim.Native.String.{String, [] as end, ◌∷◌ as ◌then◌, ◌++◌ as ◌with◌}
use Rattle.flash.specs.Stores.{blank, stored, wiped, made_first}
use Rattle.rules.specs.Words.{meta1, index_of, header}
use Rattle.rules.specs.Walk.{begins, items, rest, stop, meta_right, kind_of}
use Rattle.rules.specs.Areas.{base, page, recovery_of, entries, damaged, ready, map_of}
use Rattle.rules.specs.Refusals.{wrong_geometry, unready, holds, no_room}
use Rattle.rules.specs.Lists.{live_codes, leaves_room, room_page, makes_room, compact_page}
use Rattle.rules.specs.Search.{next, bad_place}
use Rattle.frames.specs.Frames.{two, four, eight, shaped, frame_of, line_words, two_digits, four_digits, eight_digits, run_words, run_of, with_run, list_handles, newline, bytes, start, carried, lines, session}

-- ---- cases, as pairs of a line and its answer
abbrev codes : String → List ℕ
codes end = []
codes (c then s) = code c ∷ codes s

abbrev ended : String → List ℕ
ended s = codes s ++ newline ∷ []

-- all that is typed, and all that must be printed
abbrev typed : List (String × String) → List ℕ
typed [] = []
typed (x ∷ xs) = ended x.0 ++ typed xs

abbrev printed : List (String × String) → List ℕ
printed [] = []
printed (x ∷ xs) = ended x.1 ++ printed xs

-- what is printed for an input, on a flash of 128 blank words, which an area of one page of the smallest size fills
unfoldable pub comes : List ℕ → List ℕ
unfolding stored wiped made_first meta1 index_of header begins items rest stop meta_right kind_of base page recovery_of entries damaged ready map_of wrong_geometry unready holds no_room live_codes leaves_room room_page makes_room compact_page next bad_place two four eight shaped frame_of line_words two_digits four_digits eight_digits run_words run_of with_run list_handles bytes carried lines session
comes input = session start (replicate 128 blank) input

-- ---- the whole listing
abbrev listing : List (String × String)
listing =
    ("070100", "000005")
    ∷ ("010012A1B2C3D4", "000003")
    ∷ ("020012", "000000A1B2C3D4")
    ∷ ("060002", "000000")
    ∷ ("01001200000005", "080002")
    ∷ ("020012", "030000")
    ∷ ("05", "000002")
    ∷ ("020012", "000000A1B2C3D4")
    ∷ ("030012", "000001")
    ∷ ("020012", "060000")
    ∷ []

pub whole_listing : session start (replicate 128 blank) (typed listing) ≡ printed listing
unfolding comes
whole_listing = refl

-- ---- the edges of frames
-- a write of n words to the handle 0001
abbrev long : ℕ → String
long zero = "010001"
long (suc n) = long n with "00000007"

-- no frames: too short, other bytes than capital digits, other kinds, other numbers of digits
abbrev bad : List (String × String)
bad =
    ("", "0A0000")
    ∷ ("0", "0A0000")
    ∷ ("5", "0A0000")
    ∷ ("05\r", "0A0000")
    ∷ ("05 ", "0A0000")
    ∷ (" 05", "0A0000")
    ∷ ("05\0", "0A0000")
    ∷ ("05é", "0A0000")
    ∷ ("02001a", "0A0000")
    ∷ ("02001G", "0A0000")
    ∷ ("02001@", "0A0000")
    ∷ ("02001:", "0A0000")
    ∷ ("02001/", "0A0000")
    ∷ ("00", "0A0000")
    ∷ ("08", "0A0000")
    ∷ ("50", "0A0000")
    ∷ ("000012", "0A0000")
    ∷ ("080012", "0A0000")
    ∷ ("01", "0A0000")
    ∷ ("01001", "0A0000")
    ∷ ("0100120000000", "0A0000")
    ∷ ("010012000000005", "0A0000")
    ∷ ("02", "0A0000")
    ∷ ("0200120", "0A0000")
    ∷ ("03001", "0A0000")
    ∷ ("040000000", "0A0000")
    ∷ ("04000000000", "0A0000")
    ∷ ("0500", "0A0000")
    ∷ ("060002 ", "0A0000")
    ∷ ("06002", "0A0000")
    ∷ ("0600002", "0A0000")
    ∷ ("0701", "0A0000")
    ∷ ("0701000", "0A0000")
    ∷ (long 41, "0A0000")
    ∷ []

-- before a format, also behind refused ones: a page count of 0 and of 16, a size of 3, and both wrong
abbrev unformatted : List (String × String)
unformatted =
    ("010012A1B2C3D4", "010000")
    ∷ ("020012", "010000")
    ∷ ("030012", "010000")
    ∷ ("0400000000", "010000")
    ∷ ("05", "010000")
    ∷ ("060002", "000000")
    ∷ ("070000", "010000")
    ∷ ("071000", "010000")
    ∷ ("070103", "010000")
    ∷ ("07FFFF", "010000")
    ∷ ("010000", "010000")
    ∷ (long 40, "010000")
    ∷ []

-- words of a write: as many as fit the quota, more, more than an entry has, and as many as a frame has at most
abbrev wide : List (String × String)
wide =
    ("070100", "000005")
    ∷ (long 28, "070000")
    ∷ (long 32, "070000")
    ∷ (long 33, "050000")
    ∷ (long 40, "050000")
    ∷ (long 41, "0A0000")
    ∷ (long 27, "00001D")
    ∷ ("010000", "040000")
    ∷ ("0100000000000700000007", "040000")
    ∷ []

-- power before a format: a refused frame spends it, a refused format does not
abbrev early : List (String × String)
early = ("060000", "000000") ∷ ("05", "010000") ∷ ("070100", "000005") ∷ ("010012", "000002") ∷ []

abbrev early_kept : List (String × String)
early_kept = ("060001", "000000") ∷ ("070103", "010000") ∷ ("070100", "000005") ∷ ("010012", "080001") ∷ []

-- spent by refused frames, and by one that had no stores to make
abbrev spent : List (String × String)
spent =
    ("070100", "000005")
    ∷ ("060000", "000000")
    ∷ ("010000", "040000")
    ∷ ("010012", "000002")
    ∷ ("060000", "000000")
    ∷ ("030013", "060000")
    ∷ ("030012", "000001")
    ∷ ("060000", "000000")
    ∷ ("05", "000000")
    ∷ ("010012", "000002")
    ∷ []

-- not spent by a read, a list, formats and what is no frame; the next frame has power enough
abbrev unspent : List (String × String)
unspent =
    ("070100", "000005")
    ∷ ("060001", "000000")
    ∷ ("020012", "060000")
    ∷ ("0400000000", "060000")
    ∷ ("071000", "010000")
    ∷ ("070100", "000005")
    ∷ ("05\r", "0A0000")
    ∷ ("010012A1B2C3D4", "080001")
    ∷ ("010012A1B2C3D4", "030000")
    ∷ ("05", "000002")
    ∷ ("010012A1B2C3D4", "000003")
    ∷ []

-- replaced by a later one
abbrev replaced : List (String × String)
replaced = ("070100", "000005") ∷ ("060000", "000000") ∷ ("060001", "000000") ∷ ("010012A1B2C3D4", "080001") ∷ ("05", "000002") ∷ []

-- lists: in area order, by a filter, without invalidated entries, and none
abbrev lists : List (String × String)
lists =
    ("070100", "000005")
    ∷ ("0400000000", "060000")
    ∷ ("01011300000001", "000003")
    ∷ ("010012", "000002")
    ∷ ("0101140000000200000003", "000004")
    ∷ ("0400000000", "000000011300120114")
    ∷ ("04FF000100", "00000001130114")
    ∷ ("04FF0001FF", "00000001130114")
    ∷ ("04FFFF0012", "0000000012")
    ∷ ("04FF000200", "060000")
    ∷ ("030012", "000001")
    ∷ ("010113", "000003")
    ∷ ("0400000000", "00000001140113")
    ∷ ("020114", "0000000000000200000003")
    ∷ ("020113", "000000")
    ∷ []

-- a refused format leaves the area as it is
abbrev kept : List (String × String)
kept =
    ("070100", "000005")
    ∷ ("010012A1B2C3D4", "000003")
    ∷ ("070000", "010000")
    ∷ ("071000", "010000")
    ∷ ("070103", "010000")
    ∷ ("020012", "000000A1B2C3D4")
    ∷ ("070100", "000005")
    ∷ ("020012", "060000")
    ∷ []

abbrev edge_cases : List (List (String × String))
edge_cases = bad ∷ unformatted ∷ wide ∷ early ∷ early_kept ∷ spent ∷ unspent ∷ replaced ∷ lists ∷ kept ∷ []

pub edges : map (λ xs. comes (typed xs)) edge_cases ≡ map printed edge_cases
unfolding comes
edges = refl

-- text behind the last newline, and none; a whole input and all that is printed
abbrev last_lines : List (String × String)
last_lines = ("", "") ∷ ("\n", "0A0000\n") ∷ ("05", "010000\n") ∷ ("05\n", "010000\n") ∷ ("05\n\n060001", "010000\n0A0000\n000000\n") ∷ []

pub ends : map (λ x. comes (codes x.0)) last_lines ≡ map (λ x. codes x.1) last_lines
unfolding comes
ends = refl
