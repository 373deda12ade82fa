-- How many stores a recovery can take: of each entry at most one, of each page at most two, and a page made anew. Assumes nothing.
use Rattle.std.specs.Prelude.{◌≡◌, refl, List, [], ◌∷◌, ◌++◌, Bool, true, false, ℕ, suc, zero, ◌+◌, ◌-◌, ◌*◌, ◌≤◌, length, take, drop, Option, Some, None}
use Rattle.std.proofs.Common.{zero-le, suc-le-suc, arith, suc-mul, length-append, length-take, length-drop}
use Rattle.flash.specs.Stores.{made, each}
use Rattle.rules.specs.declared.Area.{Area}
use Rattle.rules.specs.declared.Kind.{Kind}
use Rattle.rules.specs.declared.Kind.TheVariants.{Sealed, Torn, Neither}
use Rattle.rules.specs.declared.Recovery.{Recovery}
use Rattle.rules.specs.declared.Recovery.TheVariants.{Free, Unfinished, Committed, Damage}
use Rattle.rules.specs.Words.{length_of, is_live}
use Rattle.rules.specs.Walk.{begins, Item, walk_in, items, stop, entry_length}
use Rattle.rules.specs.Areas.{R, base, page, kind, recovery, Entry, placed, page_entries, entries_from, entries, doubled}
use Rattle.rules.specs.Lists.{finish_as, finish, last_of, bare_if_live, mend_as, mend, supersede, drop_doubles, recover_list}
use Rattle.demands.specs.Runs.{length_puts}

-- ---- entries
items_few : (k : ℕ) (ws : List ℕ) → length (walk_in k ws).items ≤ length ws
items_few k [] = zero-le
items_few (suc k) (w ∷ ws) = let h = items_few k ws in omega arith
items_few zero (w ∷ ws) = go (begins w ws) refl (items_few (length_of w - 1) ws)
  where
    go : (b : Bool) → begins w ws ≡ b → length (walk_in (length_of w - 1) ws).items ≤ length ws → length (walk_in 0 (w ∷ ws)).items ≤ length (w ∷ ws)
    go true q h = rw q (suc-le-suc h)
    go false q h = rw q zero-le

length_placed : (at : ℕ) (es : List Item) → length (placed at es) ≡ length es
length_placed at [] = refl
length_placed at (e ∷ es) = rw (length_placed (at + entry_length e.words) es)

page_few : (a : Area) (f : List ℕ) (i : ℕ) → length (page_entries a f i) ≤ a.words
unfolding items page
page_few a f i =
    let p = take a.words (drop (base a i) f) in
    omega (arith, length_placed (base a i + 2) (walk_in 0 (drop 2 p)).items, items_few 0 (drop 2 p), length-drop 2 p, length-take a.words (drop (base a i) f))

from_few : (a : Area) (f : List ℕ) (n i : ℕ) → length (entries_from a f n i) ≤ n * a.words
from_few a f zero i = zero-le
from_few a f (suc n) i =
    omega (arith, length-append (page_entries a f i) (entries_from a f n (suc i)), page_few a f i, from_few a f n (suc i), suc-mul n a.words)

pub entries_few : (a : Area) (f : List ℕ) → length (entries a f) ≤ a.pages * a.words
unfolding entries
entries_few a f = from_few a f a.pages 0

supersede_few : (es : List Entry) → length (supersede es) ≤ length es
supersede_few [] = zero-le
supersede_few (e ∷ es) = go (doubled e es) refl (supersede_few es)
  where
    go : (b : Bool) → doubled e es ≡ b → length (supersede es) ≤ length es → length (supersede (e ∷ es)) ≤ length (e ∷ es)
    go true q h = rw q (suc-le-suc h)
    go false q h = rw q (omega arith)

drop_few : (a : Area) (f : List ℕ) → length (drop_doubles a f) ≤ a.pages * a.words
drop_few a f = omega (arith, supersede_few (entries a f), entries_few a f)

-- ---- pages
bare_few : (o : Option Entry) → length (bare_if_live o) ≤ 1
bare_few None = zero-le
bare_few (Some e) = go (is_live e.handle) refl
  where
    go : (b : Bool) → is_live e.handle ≡ b → length (bare_if_live (Some e)) ≤ 1
    go true q = rw q (omega arith)
    go false q = rw q zero-le

mend_few : (k : Kind) (a : Area) (i : ℕ) (f : List ℕ) → length (mend_as k a i f) ≤ 2
mend_few Sealed a i f = zero-le
mend_few Torn a i f = simp length-append (omega (arith, bare_few (last_of (page_entries a f i))))
mend_few Neither a i f = zero-le

mends_few : (a : Area) (n i : ℕ) (f : List ℕ) → length (each (mend a) n i f) ≤ 2 * n
mends_few a zero i f = zero-le
mends_few a (suc n) i f =
    let g = made (mend a i f) f in
    omega (arith, length-append (mend a i f) (each (mend a) n (suc i) g), mend_few (kind a f i) a i f, mends_few a n (suc i) g)

-- ---- R
finish_few : (r : Recovery) (a : Area) (f : List ℕ) → length (finish_as r a f) ≤ a.words + 4
unfolding page
finish_few Free a f = zero-le
finish_few Unfinished a f = omega arith
finish_few (Committed i) a f =
    let p = take a.words (drop (base a (R a)) f) in
    simp (length-append, length_puts) (omega (arith, length-take (stop p - 1) (drop 2 p), length-drop 2 p, length-take a.words (drop (base a (R a)) f)))
finish_few Damage a f = zero-le

pub recover_few : (a : Area) (f : List ℕ) → length (recover_list a f) ≤ a.words + 4 + (2 * a.pages + a.pages * a.words)
recover_few a f =
    let g = made (finish a f) f in
    let ms = each (mend a) a.pages 0 g in
    omega (
      arith,
      length-append (finish a f) (ms ++ drop_doubles a (made ms g)),
      length-append ms (drop_doubles a (made ms g)),
      finish_few (recovery a f) a f,
      mends_few a a.pages 0 g,
      drop_few a (made ms g),
    )
