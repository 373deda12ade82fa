-- The words in which the demands are stated. Definitions alone. Assumes nothing.
use Rattle.std.specs.Prelude.{◌≡◌, List, [], ◌∷◌, ◌++◌, Bool, true, false, cond, ◌≢◌, ◌⊎◌, ℕ, suc, zero, ◌+◌, ◌-◌, ◌*◌, ◌≤◌, ◌<◌, length, get_or, take, drop, replicate, eqb, Option, Some, None, Ok, Err, is_none}
use Rattle.std.specs.Int.Bits.{bit_and}
use Rattle.flash.specs.Stores.{Words, Store, put, stored, apply, made}
use Rattle.rules.specs.declared.Area.{Area}
use Rattle.rules.specs.declared.Refusal.TheVariants.{NotFound}
use Rattle.rules.specs.declared.Kind.{Kind}
use Rattle.rules.specs.declared.Kind.TheVariants.{Sealed, Torn, Neither}
use Rattle.rules.specs.Walk.{Item, entry_length, items}
use Rattle.rules.specs.Areas.{R, base, page, kind, recovery, names, Entry, placed, page_entries, entries, any_of, live_of, find, map_of, live_words, ready}
use Rattle.rules.specs.Refusals.{holds, Outcome, outcome, Answer}
use Rattle.rules.specs.Lists.{erase, room_page, compact_page, recover_list, Request, format, recover, write, delete, plan_of}
use Rattle.rules.specs.declared.Made.{Made}

-- a flash of 32-bit words, and an area on it of N pages, 1 to 255, in one of the three sizes, with R behind them
pub record Given (a : Area) (f : List ℕ) : Type 0 where
  pub words : Words f
  pub some_pages : 1 ≤ a.pages
  pub few_pages : a.pages ≤ 255
  pub size : (a.words ≡ 64) ⊎ ((a.words ≡ 256) ⊎ (a.words ≡ 1024))
  pub long : length f ≡ (a.pages + 1) * a.words

-- Made in order on the flash f, each word store lies inside it and leaves the very word that it asks for, so that no cleared bit is
-- asked to come back; and each erase is of one whole page of the area, or of R.
pub data Fair (a : Area) : List Store → List ℕ → Type 0 where
  fair_end : {f : List ℕ} → Fair a [] f
  fair_put : {at w : ℕ} {ss : List Store} {f : List ℕ} → at < length f → bit_and (get_or f at 0) w ≡ w → Fair a ss (stored f at w)
      → Fair a (put at w ∷ ss) f
  fair_wipe : {i : ℕ} {ss : List Store} {f : List ℕ} → i ≤ R a → base a i + a.words ≤ length f → Fair a ss (apply (erase a i) f)
      → Fair a (erase a i ∷ ss) f

-- how many stores a write has: none for data that is held; n + 2 for n words, or n + 3 where the handle has an entry; and in front of
-- them, where page i is compacted, 2L + 8 for its L live words
abbrev pub append_stores : Area → List ℕ → ℕ → List ℕ → ℕ
append_stores a f h d = length d + cond (is_none (find h (entries a f))) 2 3

pub data WriteStores (a : Area) (f : List ℕ) (h : ℕ) (d : List ℕ) : ℕ → Type 0 where
  held : holds a f h d ≡ true → WriteStores a f h d 0
  appended : holds a f h d ≡ false → (i : ℕ) → room_page a f (entry_length d) ≡ Some i → WriteStores a f h d (append_stores a f h d)
  compacted : holds a f h d ≡ false → room_page a f (entry_length d) ≡ None → (i : ℕ) → compact_page a f (entry_length d) ≡ Some i
      → WriteStores a f h d (2 * live_words (page_entries a f i) + 8 + append_stores a f h d)

-- ---- requests and maps
-- a request that anyone can type: the data of a write is a list of 32-bit words
abbrev pub Typed : Request → Type 0
Typed format = Unit {0}
Typed recover = Unit {0}
Typed (write h d) = Words d
Typed (delete h) = Unit {0}

-- a write or a delete that anyone can type
abbrev pub Change : Request → Type 0
Change format = ⊥
Change recover = ⊥
Change (write h d) = Words d
Change (delete h) = Unit {0}

-- one of legal handle and length
abbrev pub Proper : Request → Type 0
Proper format = ⊥
Proper recover = ⊥
Proper (write h d) = (1 ≤ h) × (h ≤ 0x7EFF) × (length d ≤ 32) × Words d
Proper (delete h) = (1 ≤ h) × (h ≤ 0x7EFF)

-- the handle that a request changes, the data that the handle has afterwards, and the words of a new entry
abbrev pub handle_in : Request → ℕ
handle_in format = 0
handle_in recover = 0
handle_in (write h d) = h
handle_in (delete h) = h

abbrev pub data_in : Request → Option (List ℕ)
data_in format = None
data_in recover = None
data_in (write h d) = Some d
data_in (delete h) = None

abbrev pub new_words : Request → ℕ
new_words format = 0
new_words recover = 0
new_words (write h d) = entry_length d
new_words (delete h) = 0

abbrev pub Map : Type 0
Map = ℕ → Option (List ℕ)

-- a map with the change of a request made, and with those of several
abbrev pub changed : Request → Map → Map
changed r m u = cond (eqb u (handle_in r)) (data_in r) (m u)

abbrev pub changed_all : List Request → Map → Map
changed_all [] m = m
changed_all (r ∷ rs) m = changed_all rs (changed r m)

-- so many live words are within the quota: N x (D - 33), and D = P - 3
abbrev pub WithinQuota : Area → ℕ → Type 0
WithinQuota a n = n ≤ a.pages * (a.words - 3 - 33)

abbrev pub new_words_all : List Request → ℕ
new_words_all [] = 0
new_words_all (r ∷ rs) = new_words r + new_words_all rs

-- the area, still one as given, is ready, and its map is m
pub record Holds (a : Area) (f : List ℕ) (m : Map) : Type 0 where
  pub given : Given a f
  pub ready : ready a f ≡ true
  pub map : (u : ℕ) → map_of a f u ≡ m u

-- ---- power cuts
abbrev pub was_cut : Answer → Bool
was_cut (Ok (Made.Done s)) = false
was_cut (Ok (Made.Cut s)) = true
was_cut (Err n) = false

-- the flash after all of a recovery
abbrev pub recovered : Area → List ℕ → List ℕ
recovered a f = made (recover_list a f) f

-- a request with power for k stores
abbrev pub run : Area → Request → ℕ → List ℕ → Outcome
run a r k f = outcome (plan_of a r) k f

-- recoveries, each with any power, and at last one that is not cut
pub data Recovers (a : Area) : List ℕ → List ℕ → Type 0 where
  whole : {f : List ℕ} (k : ℕ) → was_cut (run a recover k f).answer ≡ false → Recovers a f (run a recover k f).flash
  then_again : {f g : List ℕ} (k : ℕ) → Recovers a (run a recover k f).flash g → Recovers a f g

-- a request tried any number of times, each with any power, and recovered each time before it is asked again: a cut may come before any
-- of its stores, or behind the last
pub data Tried (a : Area) (r : Request) : List ℕ → List ℕ → Type 0 where
  untried : {f : List ℕ} → Tried a r f f
  and_tried : {f g h : List ℕ} (k : ℕ) → Recovers a (run a r k f).flash g → Tried a r g h → Tried a r f h

-- a request carried through: so tried, and then not cut
pub data Carried (a : Area) (r : Request) : List ℕ → Answer → List ℕ → Type 0 where
  uncut : {f g : List ℕ} (k : ℕ) → Tried a r f g → was_cut (run a r k g).answer ≡ false → Carried a r f (run a r k g).answer (run a r k g).flash

-- requests carried through one after the other, with their answers
pub data CarriedAll (a : Area) : List Request → List ℕ → List Answer → List ℕ → Type 0 where
  no_more : {f : List ℕ} → CarriedAll a [] f [] f
  and_then : {r : Request} {rs : List Request} {f g h : List ℕ} {x : Answer} {xs : List Answer} → Carried a r f x g → CarriedAll a rs g xs h
      → CarriedAll a (r ∷ rs) f (x ∷ xs) h

-- ---- several requests
abbrev pub ProperAll : List Request → Type 0
ProperAll [] = Unit {0}
ProperAll (r ∷ rs) = Proper r × ProperAll rs

-- on other handles than h, and on handles that all differ
abbrev pub Others : ℕ → List Request → Type 0
Others h [] = Unit {0}
Others h (r ∷ rs) = (handle_in r ≢ h) × Others h rs

abbrev pub AllDiffer : List Request → Type 0
AllDiffer [] = Unit {0}
AllDiffer (r ∷ rs) = Others (handle_in r) rs × AllDiffer rs

-- DONE; or NOTFOUND, for a delete
abbrev pub Fine : Request → Answer → Type 0
Fine r (Ok (Made.Done s)) = Unit {0}
Fine r (Ok (Made.Cut s)) = ⊥
Fine r (Err n) = (n ≡ NotFound) × (r ≡ delete (handle_in r))

abbrev pub FineAll : List Request → List Answer → Type 0
FineAll [] [] = Unit {0}
FineAll [] (x ∷ xs) = ⊥
FineAll (r ∷ rs) [] = ⊥
FineAll (r ∷ rs) (x ∷ xs) = Fine r x × FineAll rs xs

-- ---- what stands in the run
abbrev pub blanks : ℕ → List ℕ
blanks n = replicate n 0xFFFFFFFF

-- an entry that the layout allows
pub record Good (e : Item) : Type 0 where
  pub small : e.handle < 0x7F00
  pub short : length e.words ≤ 32

pub data Goods : List Item → Type 0 where
  no_item : Goods []
  good_item : {e : Item} {es : List Item} → Good e → Goods es → Goods (e ∷ es)

-- entries as the layout writes them, one behind the other: header, data
abbrev pub written : List Item → List ℕ
written [] = []
written (e ∷ es) = (65536 * e.handle + (length e.words + 1)) ∷ (e.words ++ written es)

-- page i of n: metadata, the entries es, and behind them a word and blank ones. The word is the seal in a sealed page, and blank in a torn one.
unfoldable pub layout : ℕ → ℕ → List Item → ℕ → ℕ → List ℕ
layout n i es w m = 0x10100408 ∷ ((0xFFFF0000 + 256 * i + n) ∷ (written es ++ w ∷ blanks m))

-- a page i of n that is sealed, or torn
pub data PageIs (n i : ℕ) (p : List ℕ) : Type 0 where
  sealed_page : (es : List Item) (m : ℕ) → Goods es → p ≡ layout n i es 0x7FFFFFFF m → PageIs n i p
  torn_page : (es : List Item) (m : ℕ) → Goods es → p ≡ layout n i es 0xFFFFFFFF m → PageIs n i p

-- R: free or unfinished, as long as its word 1 is blank; or committed, a sealed page of an index that it names
pub data RIs (n : ℕ) (r : List ℕ) : Option ℕ → Type 0 where
  open_page : get_or r 1 0 ≡ 0xFFFFFFFF → RIs n r None
  committed_page : {i : ℕ} → i < n → (es : List Item) (m : ℕ) → Goods es → r ≡ layout n i es 0x7FFFFFFF m → RIs n r (Some i)

-- the entries es i, es (i + 1), .. of n pages, each at its place
abbrev pub laid : Area → (ℕ → List Item) → ℕ → ℕ → List Entry
laid a es zero i = []
laid a es (suc n) i = placed (base a i + 2) (es i) ++ laid a es n (suc i)

-- the entry of the handle h with the data d stands at the place p of the run: its header there, its data behind it
pub record StandsAt (f : List ℕ) (p h : ℕ) (d : List ℕ) : Type 0 where
  pub head : get_or f p 0 ≡ 65536 * h + (length d + 1)
  pub words : take (length d) (drop (suc p) f) ≡ d
  pub inside : p + length d < length f

-- the last live entry of a handle, in area order
abbrev pub last_live : ℕ → List Entry → Option Entry
last_live h [] = None
last_live h (e ∷ es) = cond (any_of (live_of h) es) (last_live h es) (cond (live_of h e) (Some e) None)

-- ---- what a recovery is to keep
abbrev pub but_last : List Item → List Item
but_last [] = []
but_last (e ∷ []) = []
but_last (e ∷ (d ∷ es)) = e ∷ but_last (d ∷ es)

-- of a page's entries: all but the last of a torn one
abbrev pub kept_of : Kind → List Item → List Item
kept_of Sealed es = es
kept_of Torn es = but_last es
kept_of Neither es = es

-- of page i: what R holds, if R is committed and names it; else of its own
abbrev pub kept_items : Area → List ℕ → ℕ → List Item
kept_items a f i = cond (names (recovery a f) i) (items (page a f (R a))) (kept_of (kind a f i) (items (page a f i)))

-- of the area
unfoldable pub kept : Area → List ℕ → List Entry
kept a f = laid a (kept_items a f) a.pages 0
