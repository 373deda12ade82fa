-- The definitions computed: the table of page sizes, and the worked cases of document 01, "Worked on small pages", that are marked *, as
-- one statement over one list. Assumes nothing.
use Rattle.std.specs.Prelude.{◌≡◌, refl, List, [], ◌∷◌, ◌++◌, map, ℕ, ◌*◌, Some, None, Ok, Err}
use Rattle.flash.specs.Stores.{stored, wiped, made_first}
use Rattle.rules.specs.declared.PageSize.{PageSize}
use Rattle.rules.specs.declared.PageSize.TheVariants.{Small, Medium, Large}
use Rattle.rules.specs.declared.Refusal.TheVariants.{Unready, BadHandle, BadLength, NotFound, NoRoom}
use Rattle.rules.specs.declared.Made.TheVariants.{Done, Cut}
use Rattle.rules.specs.declared.Kind.TheVariants.{Sealed, Torn}
use Rattle.rules.specs.Words.{words_of, open_words, quota, last_seal, meta1, index_of, header}
use Rattle.rules.specs.Walk.{begins, items, rest, stop, meta_right, kind_of}
use Rattle.rules.specs.Areas.{base, page, recovery_of, entries, damaged, ready, map_of}
use Rattle.rules.specs.Refusals.{wrong_geometry, unready, holds, no_room}
use Rattle.rules.specs.Lists.{live_codes, leaves_room, room_page, makes_room, compact_page, format, recover, write, delete}
use Rattle.rules.specs.Search.{next, bad_place}
use Rattle.rules.specs.Cases.{Act, asks, reads, searches, looks, looks_up, weighs, Seen, answer, reading, yields, page_is, value, weight, Case, comes, must, small, zeros, blanks, sevens, enough}

-- ---- the table of page sizes: P, bytes, D, quota a page, and the last place of a seal
abbrev row : PageSize → List ℕ
row s = let P = words_of s in P ∷ 4 * P ∷ open_words P ∷ quota P ∷ last_seal P ∷ []

pub sizes : map row (Small ∷ Medium ∷ Large ∷ [])
    ≡ (64 ∷ 256 ∷ 61 ∷ 28 ∷ 63 ∷ [])
    ∷ (256 ∷ 1024 ∷ 253 ∷ 220 ∷ 255 ∷ [])
    ∷ (1024 ∷ 4096 ∷ 1021 ∷ 988 ∷ 1023 ∷ [])
    ∷ []
sizes = refl

-- ---- the worked cases
abbrev formatted : Act × Seen
formatted = (asks format enough, answer (Ok (Done 5)))

abbrev first : Act × Seen
first = (asks (write 0x0012 (0xA1B2C3D4 ∷ [])) enough, answer (Ok (Done 3)))

abbrev second : ℕ → Act
second k = asks (write 0x0012 (0x00000005 ∷ [])) k

abbrev pub cases : List Case
cases =
    -- 1: after format
    record {
      area = small 1;
      start = zeros 128;
      steps = formatted ∷ (looks 0, page_is Sealed 2) ∷ [];
      words = 0x10100408 ∷ 0xFFFF0001 ∷ 0x7FFFFFFF ∷ blanks 125;
    }
    -- 2: then write 0012 with A1B2C3D4
    ∷ record {
      area = small 1;
      start = zeros 128;
      steps = formatted ∷ first ∷ (looks 0, page_is Sealed 4) ∷ (looks_up 0x0012, value (Some (0xA1B2C3D4 ∷ []))) ∷ [];
      words = 0x10100408 ∷ 0xFFFF0001 ∷ 0x00120002 ∷ 0xA1B2C3D4 ∷ 0x7FFFFFFF ∷ blanks 123;
    }
    -- 3: then 00000005
    ∷ record {
      area = small 1;
      start = zeros 128;
      steps = formatted
          ∷ first
          ∷ (second enough, answer (Ok (Done 4)))
          ∷ (looks 0, page_is Sealed 6)
          ∷ (reads 0x0012, reading (Ok (record { place = 4; words = 1 })) (0x00000005 ∷ []))
          ∷ [];
      words = 0x10100408 ∷ 0xFFFF0001 ∷ 0x00000002 ∷ 0xA1B2C3D4 ∷ 0x00120002 ∷ 0x00000005 ∷ 0x7FFFFFFF ∷ blanks 121;
    }
    -- 4: step 3 cut at 2 stores
    ∷ record {
      area = small 1;
      start = zeros 128;
      steps = formatted
          ∷ first
          ∷ (second 2, answer (Ok (Cut 2)))
          ∷ (looks 0, page_is Torn 6)
          ∷ (reads 0x0012, reading (Err Unready) [])
          ∷ (asks recover enough, answer (Ok (Done 2)))
          ∷ (looks 0, page_is Sealed 6)
          ∷ (reads 0x0012, reading (Ok (record { place = 2; words = 1 })) (0xA1B2C3D4 ∷ []))
          ∷ (looks_up 0x0012, value (Some (0xA1B2C3D4 ∷ [])))
          ∷ [];
      words = 0x10100408 ∷ 0xFFFF0001 ∷ 0x00120002 ∷ 0xA1B2C3D4 ∷ 0x00000002 ∷ 0x00000005 ∷ 0x7FFFFFFF ∷ blanks 121;
    }
    -- 5: step 3 cut at 3
    ∷ record {
      area = small 1;
      start = zeros 128;
      steps = formatted
          ∷ first
          ∷ (second 3, answer (Ok (Cut 3)))
          ∷ (looks 0, page_is Sealed 6)
          ∷ (reads 0x0012, reading (Err Unready) [])
          ∷ (asks recover enough, answer (Ok (Done 1)))
          ∷ (reads 0x0012, reading (Ok (record { place = 4; words = 1 })) (0x00000005 ∷ []))
          ∷ (looks_up 0x0012, value (Some (0x00000005 ∷ [])))
          ∷ [];
      words = 0x10100408 ∷ 0xFFFF0001 ∷ 0x00000002 ∷ 0xA1B2C3D4 ∷ 0x00120002 ∷ 0x00000005 ∷ 0x7FFFFFFF ∷ blanks 121;
    }
    -- 6: 28, 33 and 27 words to an empty area
    ∷ record {
      area = small 1;
      start = zeros 128;
      steps = formatted
          ∷ (asks (write 0x0001 (sevens 28)) enough, answer (Err NoRoom))
          ∷ (asks (write 0x0001 (sevens 33)) enough, answer (Err BadLength))
          ∷ (asks (write 0x0001 (sevens 27)) enough, answer (Ok (Done 29)))
          ∷ (weighs, weight 28 28)
          ∷ [];
      words = 0x10100408 ∷ 0xFFFF0001 ∷ 0x0001001C ∷ (sevens 27 ++ 0x7FFFFFFF ∷ blanks 97);
    }
    -- 7: N = 2, 32 words to an empty area
    ∷ record {
      area = small 2;
      start = zeros 192;
      steps = (asks format enough, answer (Ok (Done 9))) ∷ (asks (write 0x0001 (sevens 32)) enough, answer (Ok (Done 34))) ∷ (weighs, weight 33 56) ∷ [];
      words = 0x10100408 ∷ 0xFFFF0002 ∷ 0x00010021 ∷ (sevens 32 ++ 0x7FFFFFFF ∷ (blanks 28 ++ 0x10100408 ∷ 0xFFFF0102 ∷ 0x7FFFFFFF ∷ blanks 125));
    }
    -- 8: handles 0000 and 7F00 refused, 0001 and 7EFF not
    ∷ record {
      area = small 1;
      start = zeros 128;
      steps = formatted
          ∷ (asks (write 0x0000 []) enough, answer (Err BadHandle))
          ∷ (reads 0x0000, reading (Err BadHandle) [])
          ∷ (asks (delete 0x0000) enough, answer (Err BadHandle))
          ∷ (asks (write 0x7F00 []) enough, answer (Err BadHandle))
          ∷ (reads 0x7F00, reading (Err BadHandle) [])
          ∷ (asks (delete 0x7F00) enough, answer (Err BadHandle))
          ∷ (asks (write 0x0001 []) enough, answer (Ok (Done 2)))
          ∷ (asks (write 0x7EFF []) enough, answer (Ok (Done 2)))
          ∷ (reads 0x0001, reading (Ok (record { place = 2; words = 0 })) [])
          ∷ (reads 0x7EFF, reading (Ok (record { place = 3; words = 0 })) [])
          ∷ (asks (delete 0x7EFF) enough, answer (Ok (Done 1)))
          ∷ (reads 0x7EFF, reading (Err NotFound) [])
          ∷ (looks_up 0x0001, value (Some []))
          ∷ (looks_up 0x0000, value None)
          ∷ [];
      words = 0x10100408 ∷ 0xFFFF0001 ∷ 0x00010001 ∷ 0x00000001 ∷ 0x7FFFFFFF ∷ blanks 123;
    }
    -- 9: handles 0012, 0113 live: mask FF00, pattern 0100 yields 0113 alone
    ∷ record {
      area = small 1;
      start = zeros 128;
      steps = formatted
          ∷ (asks (write 0x0012 (0x00000001 ∷ [])) enough, answer (Ok (Done 3)))
          ∷ (asks (write 0x0113 (0x00000002 ∷ [])) enough, answer (Ok (Done 3)))
          ∷ (searches 0xFF00 0x0100 0 2, yields (Ok 4 ∷ Err NotFound ∷ []))
          ∷ (reads 0x0113, reading (Ok (record { place = 4; words = 1 })) (0x00000002 ∷ []))
          ∷ [];
      words = 0x10100408 ∷ 0xFFFF0001 ∷ 0x00120002 ∷ 0x00000001 ∷ 0x01130002 ∷ 0x00000002 ∷ 0x7FFFFFFF ∷ blanks 121;
    }
    -- 11: the held data again, with no power at all
    ∷ record {
      area = small 1;
      start = zeros 128;
      steps = formatted ∷ first ∷ (asks (write 0x0012 (0xA1B2C3D4 ∷ [])) 0, answer (Ok (Done 0))) ∷ [];
      words = 0x10100408 ∷ 0xFFFF0001 ∷ 0x00120002 ∷ 0xA1B2C3D4 ∷ 0x7FFFFFFF ∷ blanks 123;
    }
    ∷ []

pub worked : map comes cases ≡ map must cases
unfolding stored wiped made_first meta1 index_of header begins items rest stop meta_right kind_of base page recovery_of entries damaged ready map_of wrong_geometry unready holds no_room live_codes leaves_room room_page makes_room compact_page next bad_place
worked = refl
