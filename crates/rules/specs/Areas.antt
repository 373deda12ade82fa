-- The area, its recovery page R, damaged and ready, the map and live words: document 01, "Words, pages, area". The run is the list
-- of its words. Definitions alone. Assumes nothing.
use Rattle.std.specs.Prelude.{List, [], ◌∷◌, ◌++◌, Bool, true, false, cond, not, ◌&&◌, ◌||◌, ℕ, suc, zero, ◌+◌, ◌*◌, get_or, take, drop, ltb, eqb, Option, Some, None}
use Rattle.flash.specs.Stores.{blank}
use Rattle.rules.specs.declared.Area.{Area}
use Rattle.rules.specs.declared.Kind.{Kind}
use Rattle.rules.specs.declared.Recovery.{Recovery}
use Rattle.rules.specs.declared.Recovery.TheVariants.{Free, Unfinished, Committed, Damage}
use Rattle.rules.specs.Words.{index_of, is_live}
use Rattle.rules.specs.Walk.{Item, entry_length, items, all_blank, kind_of, is_sealed, is_sound}

-- ---- pages, and R behind them
-- the index at which R stands
abbrev pub R : Area → ℕ
R a = a.pages

-- the place of a page's first word in the run
unfoldable pub base : Area → ℕ → ℕ
base a i = i * a.words

unfoldable pub page : Area → List ℕ → ℕ → List ℕ
page a f i = take a.words (drop (base a i) f)

abbrev pub kind : Area → List ℕ → ℕ → Kind
kind a f i = kind_of a.pages i (page a f i)

-- whether the n pages from the index i on all pass a test
abbrev pub every : (ℕ → Bool) → ℕ → ℕ → Bool
every t zero i = true
every t (suc n) i = t i && every t n (suc i)

-- ---- R, with the index that a committed one names
-- by its words, in an area of n pages
unfoldable pub recovery_of : ℕ → List ℕ → Recovery
recovery_of n r =
    let w = get_or r 1 0 in
    cond (all_blank r) Free (cond (eqb w blank) Unfinished (cond (ltb (index_of w) n && is_sealed (kind_of n (index_of w) r)) (Committed (index_of w)) Damage))

abbrev pub recovery : Area → List ℕ → Recovery
recovery a f = recovery_of a.pages (page a f (R a))

abbrev pub is_free : Recovery → Bool
is_free Free = true
is_free Unfinished = false
is_free (Committed j) = false
is_free Damage = false

abbrev pub is_damage : Recovery → Bool
is_damage Free = false
is_damage Unfinished = false
is_damage (Committed j) = false
is_damage Damage = true

-- whether R is committed and names page i
abbrev pub names : Recovery → ℕ → Bool
names Free i = false
names Unfinished i = false
names (Committed j) i = eqb i j
names Damage i = false

-- ---- entries in area order, each with the place of its header in the run
pub record Entry : Type 0 where
  pub place : ℕ
  pub handle : ℕ
  pub words : List ℕ

abbrev pub placed : ℕ → List Item → List Entry
placed at [] = []
placed at (e ∷ es) = record { place = at; handle = e.handle; words = e.words } ∷ placed (at + entry_length e.words) es

abbrev pub page_entries : Area → List ℕ → ℕ → List Entry
page_entries a f i = placed (base a i + 2) (items (page a f i))

-- of n pages from the index i on
abbrev pub entries_from : Area → List ℕ → ℕ → ℕ → List Entry
entries_from a f zero i = []
entries_from a f (suc n) i = page_entries a f i ++ entries_from a f n (suc i)

unfoldable pub entries : Area → List ℕ → List Entry
entries a f = entries_from a f a.pages 0

-- whether some entry passes a test, and the first that does
abbrev pub any_of : (Entry → Bool) → List Entry → Bool
any_of t [] = false
any_of t (e ∷ es) = t e || any_of t es

abbrev pub first_of : (Entry → Bool) → List Entry → Option Entry
first_of t [] = None
first_of t (e ∷ es) = cond (t e) (Some e) (first_of t es)

-- whether an entry is a live one of the handle h
abbrev pub live_of : ℕ → Entry → Bool
live_of h e = is_live h && eqb e.handle h

-- whether an entry is live and a later live one of es has its handle
abbrev pub doubled : Entry → List Entry → Bool
doubled e es = any_of (live_of e.handle) es

-- whether some handle is live twice
abbrev pub twice : List Entry → Bool
twice [] = false
twice (e ∷ es) = doubled e es || twice es

-- ---- damaged, ready
-- whether page i is sealed or torn, or R names it
abbrev pub sound_or_named : Area → List ℕ → ℕ → Bool
sound_or_named a f i = names (recovery a f) i || is_sound (kind a f i)

abbrev pub sealed_at : Area → List ℕ → ℕ → Bool
sealed_at a f i = is_sealed (kind a f i)

unfoldable pub damaged : Area → List ℕ → Bool
damaged a f = is_damage (recovery a f) || not (every (sound_or_named a f) a.pages 0)

unfoldable pub ready : Area → List ℕ → Bool
ready a f = is_free (recovery a f) && (every (sealed_at a f) a.pages 0 && not (twice (entries a f)))

-- ---- the map
-- the live entry of a handle
abbrev pub find : ℕ → List Entry → Option Entry
find h es = first_of (live_of h) es

abbrev pub data_of : Option Entry → Option (List ℕ)
data_of None = None
data_of (Some e) = Some e.words

unfoldable pub map_of : Area → List ℕ → ℕ → Option (List ℕ)
map_of a f h = data_of (find h (entries a f))

-- ---- live words
abbrev pub live_words : List Entry → ℕ
live_words [] = 0
live_words (e ∷ es) = cond (is_live e.handle) (entry_length e.words) 0 + live_words es
