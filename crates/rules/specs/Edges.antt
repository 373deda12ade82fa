-- The definitions computed at their edges, on areas that are crafted word by word: causes of GEOMETRY and DAMAGED, the order of checks,
-- room to the last word, compaction and recovery with the words of every page; and what a read and a search tell. Assumes nothing.
use Rattle.std.specs.Prelude.{◌≡◌, refl, List, [], ◌∷◌, ◌++◌, map, ℕ, ◌-◌, length, Some, Ok, Err}
use Rattle.flash.specs.Stores.{stored, wiped, made_first}
use Rattle.rules.specs.declared.Area.{Area}
use Rattle.rules.specs.declared.Refusal.TheVariants.{Geometry, Damaged, Unready, BadHandle, BadLength, NotFound, NoRoom, BadPlace}
use Rattle.rules.specs.declared.Made.TheVariants.{Done, Cut}
use Rattle.rules.specs.declared.Kind.TheVariants.{Sealed, Torn, Neither}
use Rattle.rules.specs.declared.Recovery.TheVariants.{Unfinished, Committed}
use Rattle.rules.specs.Words.{meta1, index_of, header}
use Rattle.rules.specs.Walk.{begins, items, rest, stop, meta_right, kind_of}
use Rattle.rules.specs.Areas.{base, page, recovery_of, entries, damaged, ready, map_of}
use Rattle.rules.specs.Refusals.{reading_number, reading_stores, reading_place, reading_words, yielded_number, yielded_stores, yielded_place, wrong_geometry, unready, holds, no_room, Reading, Yielded}
use Rattle.rules.specs.Lists.{live_codes, leaves_room, room_page, makes_room, compact_page, format, recover, write, delete}
use Rattle.rules.specs.Search.{next, bad_place}
use Rattle.rules.specs.Cases.{Act, asks, reads, searches, looks, looks_at-R, looks_up, weighs, Seen, answer, reading, yields, page_is, R-is, value, weight, Case, comes, must, small, zeros, blanks, sevens, enough}

-- a page of 64 words, blank behind those that are given
abbrev sheet : List ℕ → List ℕ
sheet ws = ws ++ blanks (64 - length ws)

-- an area that a refusal leaves as it is
abbrev refusing : Area → List ℕ → List (Act × Seen) → Case
refusing a f xs = record { area = a; start = f; steps = xs; words = f }

-- ---- GEOMETRY
abbrev misshapen : ℕ → ℕ → ℕ → Case
misshapen n p l =
    refusing (record { pages = n; words = p }) (zeros l)
    ((asks format enough, answer (Err Geometry)) ∷ (reads 0x0000, reading (Err Geometry) []) ∷ [])

abbrev shapes : List Case
shapes =
    misshapen 0 64 64
    ∷ misshapen 256 64 16448
    ∷ misshapen 1 65 130
    ∷ misshapen 1 64 127
    ∷ misshapen 1 64 129
    ∷ refusing (small 255) (zeros 16384) ((reads 0x0000, reading (Err Damaged) []) ∷ [])
    ∷ []

-- ---- DAMAGED, by page 0 or by R, of an area of one page; it comes before every other refusal but GEOMETRY
abbrev broken : List ℕ → List ℕ → Case
broken p r =
    refusing (small 1) (sheet p ++ sheet r)
    ((asks recover enough, answer (Err Damaged))
    ∷ (asks (write 0x0000 (zeros 33)) 0, answer (Err Damaged))
    ∷ (asks (delete 0x7F00) 0, answer (Err Damaged))
    ∷ (reads 0x0000, reading (Err Damaged) [])
    ∷ (searches 0x0000 0x0000 1 1, yields (Err Damaged ∷ []))
    ∷ [])

abbrev fresh : List ℕ
fresh = 0x10100408 ∷ 0xFFFF0001 ∷ 0x7FFFFFFF ∷ []

abbrev damages : List Case
damages =
    -- word 0, word 1
    broken (0x10100409 ∷ 0xFFFF0001 ∷ 0x7FFFFFFF ∷ []) []
    ∷ broken (0x10100408 ∷ 0xFFFF0101 ∷ 0x7FFFFFFF ∷ []) []
    -- lengths 0 and 34, handle 7F00, an entry that ends at P - 1
    ∷ broken (0x10100408 ∷ 0xFFFF0001 ∷ 0x00010000 ∷ 0x7FFFFFFF ∷ []) []
    ∷ broken (0x10100408 ∷ 0xFFFF0001 ∷ 0x00010022 ∷ (sevens 33 ++ 0x7FFFFFFF ∷ [])) []
    ∷ broken (0x10100408 ∷ 0xFFFF0001 ∷ 0x7F000001 ∷ 0x7FFFFFFF ∷ []) []
    ∷ broken (0x10100408 ∷ 0xFFFF0001 ∷ 0x00010021 ∷ (sevens 32 ++ 0x0002001D ∷ sevens 28)) []
    -- words behind the seal, and behind a blank word
    ∷ broken (0x10100408 ∷ 0xFFFF0001 ∷ 0x7FFFFFFF ∷ 0x00000000 ∷ []) []
    ∷ broken (0x10100408 ∷ 0xFFFF0001 ∷ 0xFFFFFFFF ∷ 0x7FFFFFFF ∷ []) []
    -- R: word 0, the count, an index that is not below N, no seal, a header of length 0, words behind the seal
    ∷ broken fresh (0x10100409 ∷ 0xFFFF0001 ∷ 0x7FFFFFFF ∷ [])
    ∷ broken fresh (0x10100408 ∷ 0xFFFF0002 ∷ 0x7FFFFFFF ∷ [])
    ∷ broken fresh (0x10100408 ∷ 0xFFFF0101 ∷ 0x7FFFFFFF ∷ [])
    ∷ broken fresh (0x10100408 ∷ 0xFFFF0001 ∷ [])
    ∷ broken fresh (0x10100408 ∷ 0xFFFF0001 ∷ 0x00010000 ∷ 0x7FFFFFFF ∷ [])
    ∷ broken fresh (0x10100408 ∷ 0xFFFF0001 ∷ 0x7FFFFFFF ∷ 0x00000000 ∷ [])
    ∷ []

-- ---- requests
-- an area with a handle live twice: UNREADY comes before what the arguments are refused for
abbrev twofold : Case
twofold =
    refusing (small 1) (sheet (0x10100408 ∷ 0xFFFF0001 ∷ 0x00120001 ∷ 0x00120001 ∷ 0x7FFFFFFF ∷ []) ++ blanks 64)
    ((asks (write 0x0000 (zeros 33)) 0, answer (Err Unready))
    ∷ (asks (delete 0x7F00) 0, answer (Err Unready))
    ∷ (reads 0x0000, reading (Err Unready) [])
    ∷ (searches 0x0000 0x0000 1 1, yields (Err Unready ∷ []))
    ∷ [])

-- an area over its quota
abbrev over : Case
over =
    refusing (small 1) (sheet (0x10100408 ∷ 0xFFFF0001 ∷ 0x00010020 ∷ (sevens 31 ++ 0x7FFFFFFF ∷ [])) ++ blanks 64)
    ((weighs, weight 32 28)
    ∷ (asks (write 0x0001 (sevens 31)) 0, answer (Ok (Done 0)))
    ∷ (asks (write 0x0001 (sevens 30)) 0, answer (Err NoRoom))
    ∷ (asks (write 0x0001 (sevens 27)) 0, answer (Err NoRoom))
    ∷ (asks (write 0x0002 []) 0, answer (Err NoRoom))
    ∷ (asks (write 0x0002 (zeros 33)) 0, answer (Err BadLength))
    ∷ (asks (write 0x7F00 (zeros 33)) 0, answer (Err BadHandle))
    ∷ (asks (delete 0x0001) 0, answer (Ok (Cut 0)))
    ∷ [])

-- searches over a seal that is data, an invalidated entry and a second page
abbrev sought : Case
sought =
    refusing (small 2)
    (sheet (0x10100408 ∷ 0xFFFF0002 ∷ 0x00120002 ∷ 0x7FFFFFFF ∷ 0x00000001 ∷ 0x01130001 ∷ 0x7FFFFFFF ∷ []) ++ (sheet (0x10100408 ∷ 0xFFFF0102 ∷ 0x01140001 ∷ 0x7FFFFFFF ∷ []) ++ blanks 64))
    ((searches 0x0000 0xFFFF 0 5, yields (Ok 2 ∷ Ok 5 ∷ Ok 66 ∷ Err NotFound ∷ Err NotFound ∷ []))
    ∷ (searches 0xFF00 0x01FF 0 3, yields (Ok 5 ∷ Ok 66 ∷ Err NotFound ∷ []))
    ∷ (searches 0x0000 0x0000 4 1, yields (Ok 5 ∷ []))
    ∷ (searches 0x0000 0x0000 3 2, yields (Err BadPlace ∷ Err BadPlace ∷ []))
    ∷ (searches 0x0000 0x0000 6 1, yields (Err BadPlace ∷ []))
    ∷ (searches 0x0000 0x0000 130 1, yields (Err BadPlace ∷ []))
    ∷ (reads 0x0012, reading (Ok (record { place = 2; words = 1 })) (0x7FFFFFFF ∷ []))
    ∷ (reads 0x0114, reading (Ok (record { place = 66; words = 0 })) [])
    ∷ (reads 0x0013, reading (Err NotFound) [])
    ∷ [])

-- room to the last word: the seal at P - 1
abbrev filled : Case
filled =
    record {
      area = small 2;
      start = sheet (0x10100408 ∷ 0xFFFF0002 ∷ 0x00000020 ∷ (sevens 31 ++ 0x7FFFFFFF ∷ [])) ++ (sheet (0x10100408 ∷ 0xFFFF0102 ∷ 0x7FFFFFFF ∷ []) ++ blanks 64);
      steps = (asks (write 0x0002 (zeros 28)) enough, answer (Ok (Done 30))) ∷ (looks 0, page_is Sealed 63) ∷ (reads 0x0002, reading (Ok (record { place = 34; words = 28 })) (zeros 28)) ∷ [];
      words = 0x10100408
          ∷ 0xFFFF0002
          ∷ 0x00000020
          ∷ (sevens 31 ++ 0x0002001D ∷ (zeros 28 ++ 0x7FFFFFFF ∷ (sheet (0x10100408 ∷ 0xFFFF0102 ∷ 0x7FFFFFFF ∷ []) ++ blanks 64)));
    }

-- data words that look like a seal and like nothing
abbrev seal_like : Case
seal_like =
    refusing (small 1) (sheet (0x10100408 ∷ 0xFFFF0001 ∷ 0x00120003 ∷ 0x7FFFFFFF ∷ 0x00000000 ∷ 0x7FFFFFFF ∷ []) ++ blanks 64)
    ((reads 0x0012, reading (Ok (record { place = 2; words = 2 })) (0x7FFFFFFF ∷ 0x00000000 ∷ [])) ∷ [])

-- ---- compaction of one page, with an old copy that moves: whole, and cut before R's word 1 and behind it
abbrev full : List ℕ
full =
    sheet (0x10100408 ∷ 0xFFFF0001 ∷ 0x00000021 ∷ (zeros 32 ++ 0x00120003 ∷ 0x00000005 ∷ 0x00000006 ∷ 0x00000014 ∷ (zeros 19 ++ 0x7FFFFFFF ∷ []))) ++ blanks 64

abbrev compacted : List (Act × Seen) → List ℕ → Case
compacted xs ws = record { area = small 1; start = full; steps = (looks 0, page_is Sealed 58) ∷ xs; words = ws }

abbrev compactions : List Case
compactions =
    compacted ((asks (write 0x0012 (sevens 7)) enough, answer (Ok (Done 24))) ∷ (looks 0, page_is Sealed 13) ∷ (looks_up 0x0012, value (Some (sevens 7))) ∷ [])
    (sheet (0x10100408 ∷ 0xFFFF0001 ∷ 0x00000003 ∷ 0x00000005 ∷ 0x00000006 ∷ 0x00120008 ∷ (sevens 7 ++ 0x7FFFFFFF ∷ [])) ++ blanks 64)
    ∷ compacted ((asks (write 0x0012 (sevens 7)) 5, answer (Ok (Cut 5))) ∷ (looks_at-R, R-is Unfinished) ∷ (asks recover enough, answer (Ok (Done 1))) ∷ []) full
    ∷ compacted ((asks (write 0x0012 (sevens 7)) 8, answer (Ok (Cut 8))) ∷ (looks_at-R, R-is (Committed 0)) ∷ (looks 0, page_is Neither 5) ∷ [])
    (0xFFFFFFFF ∷ 0xFFFFFFFF ∷ 0x00120003 ∷ (blanks 61 ++ sheet (0x10100408 ∷ 0xFFFF0001 ∷ 0x00120003 ∷ 0x00000005 ∷ 0x00000006 ∷ 0x7FFFFFFF ∷ [])))
    ∷ []

-- the lowest page with little enough alive, here the second of three
abbrev chosen : Case
chosen =
    let p : List ℕ = sheet (0x10100408 ∷ 0xFFFF0003 ∷ 0x00010021 ∷ (zeros 32 ++ 0x00020018 ∷ (zeros 23 ++ 0x7FFFFFFF ∷ []))) in
    let q : ℕ → List ℕ = λ w. sheet (0x10100408 ∷ w ∷ 0x00000021 ∷ (zeros 32 ++ 0x00000018 ∷ (zeros 23 ++ 0x7FFFFFFF ∷ []))) in
    record {
      area = small 3;
      start = p ++ (q 0xFFFF0103 ++ (q 0xFFFF0203 ++ blanks 64));
      steps = (asks (write 0x0003 (sevens 10)) 3, answer (Ok (Cut 3))) ∷ (looks_at-R, R-is (Committed 1)) ∷ [];
      words = p ++ (q 0xFFFF0103 ++ (q 0xFFFF0203 ++ sheet (0x10100408 ∷ 0xFFFF0103 ∷ 0x7FFFFFFF ∷ [])));
    }

-- ---- recovery
-- (a) from a committed R with a seal as data and an invalidated entry, over a page of anything: whole, and cut before the metadata
abbrev held : List ℕ
held = 0x00050002 ∷ 0x7FFFFFFF ∷ 0x00000001 ∷ 0x00070001 ∷ 0x7FFFFFFF ∷ []

abbrev restored : List (Act × Seen) → List ℕ → Case
restored xs ws =
    let p : List ℕ = sheet (0x10100408 ∷ 0xFFFF0002 ∷ 0x7FFFFFFF ∷ []) in
    record {
      area = small 2;
      start = p ++ (zeros 64 ++ sheet (0x10100408 ∷ 0xFFFF0102 ∷ held));
      steps = (looks_at-R, R-is (Committed 1)) ∷ (reads 0x0005, reading (Err Unready) []) ∷ xs;
      words = p ++ ws;
    }

-- and over a page that is sealed
abbrev rewritten : Case
rewritten =
    record {
      area = small 1;
      start = sheet (0x10100408 ∷ 0xFFFF0001 ∷ 0x7FFFFFFF ∷ []) ++ sheet (0x10100408 ∷ 0xFFFF0001 ∷ 0x00120001 ∷ 0x7FFFFFFF ∷ []);
      steps = (asks recover enough, answer (Ok (Done 6))) ∷ [];
      words = sheet (0x10100408 ∷ 0xFFFF0001 ∷ 0x00120001 ∷ 0x7FFFFFFF ∷ []) ++ blanks 64;
    }

-- (b) a torn page with a live last entry, one with none, one whose last is bare already; (c) a handle on three pages
abbrev torn_pages : Case
torn_pages =
    record {
      area = small 3;
      start = sheet (0x10100408 ∷ 0xFFFF0003 ∷ 0x00050001 ∷ 0x00060002 ∷ 0x00000007 ∷ []) ++ (sheet (0x10100408 ∷ 0xFFFF0103 ∷ []) ++ (sheet (0x10100408 ∷ 0xFFFF0203 ∷ 0x00000001 ∷ []) ++ blanks 64));
      steps = (looks 0, page_is Torn 5) ∷ (asks recover 3, answer (Ok (Cut 3))) ∷ (looks 2, page_is Torn 3) ∷ (asks recover enough, answer (Ok (Done 1))) ∷ [];
      words = sheet (0x10100408 ∷ 0xFFFF0003 ∷ 0x00050001 ∷ 0x00000002 ∷ 0x00000007 ∷ 0x7FFFFFFF ∷ []) ++ (sheet (0x10100408 ∷ 0xFFFF0103 ∷ 0x7FFFFFFF ∷ []) ++ (sheet (0x10100408 ∷ 0xFFFF0203 ∷ 0x00000001 ∷ 0x7FFFFFFF ∷ []) ++ blanks 64));
    }

abbrev thrice : Case
thrice =
    record {
      area = small 3;
      start = sheet (0x10100408 ∷ 0xFFFF0003 ∷ 0x00050001 ∷ 0x7FFFFFFF ∷ []) ++ (sheet (0x10100408 ∷ 0xFFFF0103 ∷ 0x00060001 ∷ 0x00050001 ∷ 0x7FFFFFFF ∷ []) ++ (sheet (0x10100408 ∷ 0xFFFF0203 ∷ 0x00050001 ∷ 0x7FFFFFFF ∷ []) ++ blanks 64));
      steps = (asks recover enough, answer (Ok (Done 2))) ∷ (asks recover 0, answer (Ok (Done 0))) ∷ [];
      words = sheet (0x10100408 ∷ 0xFFFF0003 ∷ 0x00000001 ∷ 0x7FFFFFFF ∷ []) ++ (sheet (0x10100408 ∷ 0xFFFF0103 ∷ 0x00060001 ∷ 0x00000001 ∷ 0x7FFFFFFF ∷ []) ++ (sheet (0x10100408 ∷ 0xFFFF0203 ∷ 0x00050001 ∷ 0x7FFFFFFF ∷ []) ++ blanks 64));
    }

abbrev recoveries : List Case
recoveries =
    restored ((asks recover enough, answer (Ok (Done 9))) ∷ (reads 0x0005, reading (Ok (record { place = 66; words = 1 })) (0x7FFFFFFF ∷ [])) ∷ [])
    (sheet (0x10100408 ∷ 0xFFFF0102 ∷ held) ++ blanks 64)
    ∷ restored ((asks recover 6, answer (Ok (Cut 6))) ∷ []) (sheet (0xFFFFFFFF ∷ 0xFFFFFFFF ∷ held) ++ sheet (0x10100408 ∷ 0xFFFF0102 ∷ held))
    ∷ rewritten
    ∷ torn_pages
    ∷ thrice
    ∷ []

abbrev pub cases : List Case
cases = shapes ++ (damages ++ (twofold ∷ over ∷ sought ∷ seal_like ∷ filled ∷ chosen ∷ (compactions ++ recoveries)))

pub edges : map comes cases ≡ map must cases
unfolding stored wiped made_first meta1 index_of header begins items rest stop meta_right kind_of base page recovery_of entries damaged ready map_of wrong_geometry unready holds no_room live_codes leaves_room room_page makes_room compact_page next bad_place
edges = refl

-- ---- numbers, stores and values of a read, and of a step of a search
abbrev told : Reading → List ℕ
told r = reading_number r ∷ reading_stores r ∷ reading_place r ∷ reading_words r ∷ []

pub reads_tell : map told (Ok (record { place = 2; words = 1 }) ∷ Err Damaged ∷ Err NotFound ∷ []) ≡ (0 ∷ 0 ∷ 2 ∷ 1 ∷ []) ∷ (2 ∷ 0 ∷ 0 ∷ 0 ∷ []) ∷ (6 ∷ 0 ∷ 0 ∷ 0 ∷ []) ∷ []
reads_tell = refl

abbrev stepped : Yielded → List ℕ
stepped y = yielded_number y ∷ yielded_stores y ∷ yielded_place y ∷ []

pub searches_tell : map stepped (Ok 5 ∷ Err BadPlace ∷ []) ≡ (0 ∷ 0 ∷ 5 ∷ []) ∷ (9 ∷ 0 ∷ 0 ∷ []) ∷ []
searches_tell = refl
