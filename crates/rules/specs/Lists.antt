-- The lists of stores: document 01, "The lists of stores". Definitions alone. Assumes nothing.
use Rattle.std.specs.Prelude.{List, [], ◌∷◌, ◌++◌, Bool, cond, ℕ, suc, zero, ◌+◌, ◌-◌, take, drop, leb, Option, Some, None}
use Rattle.flash.specs.Stores.{Store, put, wipe, puts, Step, ◌then◌, each}
use Rattle.rules.specs.declared.Area.{Area}
use Rattle.rules.specs.declared.Kind.{Kind}
use Rattle.rules.specs.declared.Kind.TheVariants.{Sealed, Torn, Neither}
use Rattle.rules.specs.declared.Recovery.{Recovery}
use Rattle.rules.specs.declared.Recovery.TheVariants.{Free, Unfinished, Committed, Damage}
use Rattle.rules.specs.Words.{open_words, last_seal, meta0, meta1, header, is_live, seal}
use Rattle.rules.specs.Walk.{Item, entry_length, codes, items, stop}
use Rattle.rules.specs.Areas.{R, base, page, kind, recovery, Entry, page_entries, entries, doubled, find, live_words}
use Rattle.rules.specs.Refusals.{checked, format_checks, recover_checks, write_checks, find_checks, holds, Plan, refuse, list}

abbrev pub erase : Area → ℕ → Store
erase a i = wipe (base a i) a.words

-- an entry's header to its bare length
abbrev pub bare : Entry → Store
bare e = put e.place (entry_length e.words)

-- ---- format
abbrev pub erase_r : Area → Step
erase_r a f = erase a (R a) ∷ []

abbrev pub format_page : Area → ℕ → Step
format_page a i f = erase a i ∷ put (base a i) meta0 ∷ put (base a i + 1) (meta1 a.pages i) ∷ put (base a i + 2) seal ∷ []

abbrev pub format_list : Area → Step
format_list a = erase_r a then each (format_page a) a.pages 0

abbrev pub format_plan : Area → List ℕ → Plan
format_plan a f = checked refuse (format_checks a f) (list (format_list a f))

-- ---- delete
abbrev pub bare_if : Option Entry → List Store
bare_if None = []
bare_if (Some e) = bare e ∷ []

abbrev pub delete_list : Area → ℕ → Step
delete_list a h f = bare_if (find h (entries a f))

abbrev pub delete_plan : Area → ℕ → List ℕ → Plan
delete_plan a h f = checked refuse (find_checks a f h) (list (delete_list a h f))

-- ---- compaction
abbrev pub keep_live : List Item → List Item
keep_live [] = []
keep_live (e ∷ es) = cond (is_live e.handle) (e ∷ keep_live es) (keep_live es)

-- the words of a page's live entries
unfoldable pub live_codes : Area → List ℕ → ℕ → List ℕ
live_codes a f i = codes (keep_live (items (page a f i)))

-- words to page j from word 2, then word 0, then word 1 as for page i
abbrev pub copy_to : Area → ℕ → ℕ → List ℕ → List Store
copy_to a j i ws = puts (base a j + 2) ws ++ put (base a j) meta0 ∷ put (base a j + 1) (meta1 a.pages i) ∷ []

-- page i made anew of words that R holds, and R freed
abbrev pub restore : Area → ℕ → List ℕ → List Store
restore a i ws = erase a i ∷ (copy_to a i i ws ++ erase a (R a) ∷ [])

abbrev pub compact : Area → ℕ → Step
compact a i f = let ws = live_codes a f i ++ seal ∷ [] in copy_to a (R a) i ws ++ restore a i ws

-- ---- write
-- the lowest page that passes a test, of n pages from the index i on
abbrev pub lowest : (ℕ → Bool) → ℕ → ℕ → Option ℕ
lowest t zero i = None
lowest t (suc n) i = cond (t i) (Some i) (lowest t n (suc i))

-- whether the seal of page i leaves the room for an entry of l words, and the lowest page whose seal does
unfoldable pub leaves_room : Area → List ℕ → ℕ → ℕ → Bool
leaves_room a f l i = leb (stop (page a f i) + l) (last_seal a.words)

unfoldable pub room_page : Area → List ℕ → ℕ → Option ℕ
room_page a f l = lowest (leaves_room a f l) a.pages 0

-- whether the compaction of page i makes that room, and the lowest page whose compaction does
unfoldable pub makes_room : Area → List ℕ → ℕ → ℕ → Bool
makes_room a f l i = leb (live_words (page_entries a f i) + l) (open_words a.words)

unfoldable pub compact_page : Area → List ℕ → ℕ → Option ℕ
compact_page a f l = lowest (makes_room a f l) a.pages 0

-- to page i: header over the seal, data, new seal; then the old entry's header, wherever it stands
abbrev pub append : Area → ℕ → List ℕ → ℕ → Step
append a h d i f = puts (base a i + stop (page a f i)) (header h (entry_length d) ∷ (d ++ seal ∷ [])) ++ bare_if (find h (entries a f))

-- within the quota there is always such a page
abbrev pub append_compacted : Area → ℕ → List ℕ → Option ℕ → Step
append_compacted a h d None f = []
append_compacted a h d (Some i) f = (compact a i then append a h d i) f

abbrev pub append_to : Area → ℕ → List ℕ → Option ℕ → Step
append_to a h d None f = append_compacted a h d (compact_page a f (entry_length d)) f
append_to a h d (Some i) f = append a h d i f

abbrev pub write_list : Area → ℕ → List ℕ → Step
write_list a h d f = cond (holds a f h d) [] (append_to a h d (room_page a f (entry_length d)) f)

abbrev pub write_plan : Area → ℕ → List ℕ → List ℕ → Plan
write_plan a h d f = checked refuse (write_checks a f h d) (list (write_list a h d f))

-- ---- recover
-- (a)
abbrev pub finish_as : Recovery → Area → Step
finish_as Free a f = []
finish_as Unfinished a f = erase a (R a) ∷ []
finish_as (Committed i) a f = let r = page a f (R a) in restore a i (take (stop r - 1) (drop 2 r))
finish_as Damage a f = []

abbrev pub finish : Area → Step
finish a f = finish_as (recovery a f) a f

-- (b), of one page
abbrev pub last_of : List Entry → Option Entry
last_of [] = None
last_of (e ∷ []) = Some e
last_of (e ∷ (d ∷ es)) = last_of (d ∷ es)

abbrev pub bare_if_live : Option Entry → List Store
bare_if_live None = []
bare_if_live (Some e) = cond (is_live e.handle) (bare e ∷ []) []

abbrev pub mend_as : Kind → Area → ℕ → Step
mend_as Sealed a i f = []
mend_as Torn a i f = bare_if_live (last_of (page_entries a f i)) ++ put (base a i + stop (page a f i)) seal ∷ []
mend_as Neither a i f = []

abbrev pub mend : Area → ℕ → Step
mend a i f = mend_as (kind a f i) a i f

-- (c)
abbrev pub supersede : List Entry → List Store
supersede [] = []
supersede (e ∷ es) = cond (doubled e es) (bare e ∷ supersede es) (supersede es)

abbrev pub drop_doubles : Area → Step
drop_doubles a f = supersede (entries a f)

abbrev pub recover_list : Area → Step
recover_list a = finish a then each (mend a) a.pages 0 then drop_doubles a

abbrev pub recover_plan : Area → List ℕ → Plan
recover_plan a f = checked refuse (recover_checks a f) (list (recover_list a f))

-- ---- the requests that may store, each with its plan
pub data Request : Type 0 where
  format : Request
  recover : Request
  write : ℕ → List ℕ → Request
  delete : ℕ → Request

abbrev pub plan_of : Area → Request → List ℕ → Plan
plan_of a format = format_plan a
plan_of a recover = recover_plan a
plan_of a (write h d) = write_plan a h d
plan_of a (delete h) = delete_plan a h
