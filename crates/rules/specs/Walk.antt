-- The walk of a page, and when a page is sealed or torn: document 01, "Words, pages, area". A page is the list of its words.
-- Definitions alone. Assumes nothing.
use Rattle.std.specs.Prelude.{List, [], ◌∷◌, ◌++◌, Bool, true, false, cond, ◌&&◌, ℕ, suc, zero, ◌+◌, ◌-◌, length, get_or, take, drop, leb, ltb, eqb}
use Rattle.flash.specs.Stores.{blank}
use Rattle.rules.specs.declared.Kind.{Kind}
use Rattle.rules.specs.declared.Kind.TheVariants.{Sealed, Torn, Neither}
use Rattle.rules.specs.Words.{longest, meta0, meta1, header, handle_of, length_of, special, seal}

-- an entry of a page: its handle and its data
pub record Item : Type 0 where
  pub handle : ℕ
  pub words : List ℕ

-- the length of an entry with the data d, its header included
abbrev pub entry_length : List ℕ → ℕ
entry_length d = length d + 1

-- the words of entries, one entry behind the other
abbrev pub codes : List Item → List ℕ
codes [] = []
codes (e ∷ es) = header e.handle (entry_length e.words) ∷ (e.words ++ codes es)

-- ---- the walk
-- w is a header, ws being the words behind it to the page's end: handle and length are right, and the entry leaves the page's last word
unfoldable pub begins : ℕ → List ℕ → Bool
begins w ws = ltb (handle_of w) special && (leb 1 (length_of w) && (leb (length_of w) longest && leb (length_of w) (length ws)))

-- what a walk finds: the entries that it takes, and the words from where it stops
pub record Walked : Type 0 where
  pub items : List Item
  pub rest : List ℕ

-- an entry, and behind it what the walk finds
abbrev pub taken : ℕ → List ℕ → Walked → Walked
taken w ws r = record { items = record { handle = handle_of w; words = take (length_of w - 1) ws } ∷ r.items; rest = r.rest }

-- the walk behind the first k words, which it does not look at
abbrev pub walk_in : ℕ → List ℕ → Walked
walk_in k [] = record { items = []; rest = [] }
walk_in zero (w ∷ ws) = cond (begins w ws) (taken w ws (walk_in (length_of w - 1) ws)) (record { items = []; rest = w ∷ ws })
walk_in (suc k) (w ∷ ws) = walk_in k ws

-- of a page, from word 2
unfoldable pub items : List ℕ → List Item
items p = (walk_in 0 (drop 2 p)).items

unfoldable pub rest : List ℕ → List ℕ
rest p = (walk_in 0 (drop 2 p)).rest

-- the place in the page where it stops
unfoldable pub stop : List ℕ → ℕ
stop p = length p - length (rest p)

-- ---- sealed, torn
abbrev pub all_blank : List ℕ → Bool
all_blank [] = true
all_blank (w ∷ ws) = eqb w blank && all_blank ws

-- by the words from where the walk stops
abbrev pub end_kind : List ℕ → Kind
end_kind [] = Neither
end_kind (w ∷ ws) = cond (all_blank ws) (cond (eqb w seal) Sealed (cond (eqb w blank) Torn Neither)) Neither

unfoldable pub meta_right : ℕ → ℕ → List ℕ → Bool
meta_right n i p = eqb (get_or p 0 0) meta0 && eqb (get_or p 1 0) (meta1 n i)

-- of the page with the index i of n
unfoldable pub kind_of : ℕ → ℕ → List ℕ → Kind
kind_of n i p = cond (meta_right n i p) (end_kind (rest p)) Neither

abbrev pub is_sealed : Kind → Bool
is_sealed Sealed = true
is_sealed Torn = false
is_sealed Neither = false

abbrev pub is_sound : Kind → Bool
is_sound Sealed = true
is_sound Torn = true
is_sound Neither = false
