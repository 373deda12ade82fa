-- The entries of an area: page by page, what one changed page makes of them, and the page that an entry stands in. Assumes nothing.
use Rattle.std.specs.Prelude.{◌≡◌, refl, ◌≢◌, ℕ, suc, zero, ◌+◌, ◌-◌, ◌≤◌, ◌<◌, length}
use Rattle.std.proofs.Common.{ap, sym, ◌∙◌, ⊎_elim, arith, length-append}
use mathlib.Core.List.{List, [], ◌∷◌, ◌++◌, append_assoc, nil≢cons, head-eq_of_cons-eq, tail-eq_of_cons-eq}
use Rattle.rules.specs.declared.Area.{Area}
use Rattle.rules.specs.Walk.{Item, entry_length, codes, items}
use Rattle.rules.specs.Areas.{base, page, Entry, placed, page_entries, entries_from, entries}
use Rattle.demands.specs.Terms.{laid}
use Rattle.demands.specs.Pages.{item}
use Rattle.demands.specs.Runs.{Only}
use Rattle.demands.specs.Entries.{split_append}

abbrev pub entry_at : ℕ → Item → Entry
entry_at at e = record { place = at; handle = e.handle; words = e.words }

pub placed_append : (at : ℕ) (es fs : List Item) → placed at (es ++ fs) ≡ placed at es ++ placed (at + length (codes es)) fs
placed_append at [] fs = let z : at + 0 ≡ at = omega arith in rw z
placed_append at (e ∷ es) fs =
    let z : at + entry_length e.words + length (codes es) ≡ at + suc (length (e.words ++ codes es)) = simp length-append (omega arith) in
    rw (placed_append (at + entry_length e.words) es fs, z)

-- ---- page by page
from_same : (a : Area) (f g : List ℕ) (n i : ℕ) → ((j : ℕ) → i ≤ j → j < i + n → page a g j ≡ page a f j) → entries_from a g n i ≡ entries_from a f n i
from_same a f g zero i h = refl
from_same a f g (suc n) i h =
    rw (h i (omega arith) (omega arith), from_same a f g n (suc i) (λ j lo hi. h j (omega arith) (omega arith)))

-- ---- entries laid out, page by page
pub laid_same : (a : Area) (es fs : ℕ → List Item) (n i : ℕ) → ((j : ℕ) → i ≤ j → j < i + n → es j ≡ fs j) → laid a es n i ≡ laid a fs n i
laid_same a es fs zero i h = refl
laid_same a es fs (suc n) i h = rw (h i (omega arith) (omega arith), laid_same a es fs n (suc i) (λ j lo hi. h j (omega arith) (omega arith)))

laid_part : (a : Area) (es : ℕ → List Item) (n k j i : ℕ) → i ≡ j + n → laid a es (n + suc k) j ≡ laid a es n j ++ (placed (base a i + 2) (es i) ++ laid a es k (suc i))
laid_part a es zero k j i e =
    let z : 0 + suc k ≡ suc k = omega arith in
    let y : i ≡ j = omega arith in
    rw (z, y)
laid_part a es (suc n) k j i e =
    let z : suc n + suc k ≡ suc (n + suc k) = omega arith in
    rw (z, laid_part a es n k (suc j) i (omega arith)) (sym (append_assoc (placed (base a j + 2) (es j)) (laid a es n (suc j)) (placed (base a i + 2) (es i) ++ laid a es k (suc i))))

pub laid_split : (a : Area) (es : ℕ → List Item) (i : ℕ) → i < a.pages
    → laid a es a.pages 0 ≡ laid a es i 0 ++ (placed (base a i + 2) (es i) ++ laid a es (a.pages - suc i) (suc i))
laid_split a es i h =
    let z : a.pages ≡ i + suc (a.pages - suc i) = omega arith in
    ap (λ (u : ℕ). laid a es u 0) z ∙ laid_part a es i (a.pages - suc i) 0 i (omega arith)

-- the pages' own
pub from_laid : (a : Area) (f : List ℕ) (n i : ℕ) → entries_from a f n i ≡ laid a (λ j. items (page a f j)) n i
from_laid a f zero i = refl
from_laid a f (suc n) i = ap (λ (u : List Entry). page_entries a f i ++ u) (from_laid a f n (suc i))

-- the entries of the pages before page i, and of those behind it
abbrev pub before : Area → List ℕ → ℕ → List Entry
before a f i = entries_from a f i 0

abbrev pub behind : Area → List ℕ → ℕ → List Entry
behind a f i = entries_from a f (a.pages - suc i) (suc i)

pub entries_split : (a : Area) (f : List ℕ) (i : ℕ) → i < a.pages → entries a f ≡ before a f i ++ (page_entries a f i ++ behind a f i)
unfolding entries
entries_split a f i h =
    from_laid a f a.pages 0 ∙ laid_split a (λ j. items (page a f j)) i h ∙ rw (← from_laid a f i 0, ← from_laid a f (a.pages - suc i) (suc i))

pub entries_only : {a : Area} {f g : List ℕ} {i : ℕ} {x : List ℕ} → i < a.pages → Only a f g i x
    → entries a g ≡ before a f i ++ (placed (base a i + 2) (items x) ++ behind a f i)
entries_only {a} {f} {g} {i} {x} h o =
    let u = from_same a f g i 0 (λ j lo hi. o.there j (λ e. omega arith)) in
    let v = from_same a f g (a.pages - suc i) (suc i) (λ j lo hi. o.there j (λ e. omega arith)) in
    entries_split a g i h ∙ rw (u, v, o.here)

-- ---- the page that an entry stands in
-- an entry among those of a page, and what they become when it alone changes
record Among (at : ℕ) (xs : List Item) (pre : List Entry) (e : Entry) (suf : List Entry) : Type 0 where
  es : List Item
  fs : List Item
  is : xs ≡ es ++ item e.handle e.words ∷ fs
  place : e.place ≡ at + length (codes es)
  anew : (x : Item) → length x.words ≡ length e.words → placed at (es ++ x ∷ fs) ≡ pre ++ entry_at e.place x ∷ suf

among : (at : ℕ) (xs : List Item) (pre : List Entry) (e : Entry) (suf : List Entry) → placed at xs ≡ pre ++ e ∷ suf → Among at xs pre e suf
among at [] [] e suf q = absurd (nil≢cons q)
among at [] (p ∷ pre) e suf q = absurd (nil≢cons q)
among at (x ∷ xs) [] e suf q =
    let hd = head-eq_of_cons-eq q in
    let tl = tail-eq_of_cons-eq q in
    let w : e.words ≡ x.words = ap (λ (u : Entry). u.words) (sym hd) in
    let h : e.handle ≡ x.handle = ap (λ (u : Entry). u.handle) (sym hd) in
    let p : e.place ≡ at = ap (λ (u : Entry). u.place) (sym hd) in
    record { es = []; fs = xs; is = rw (h, w); place = omega arith; anew = λ y l. rw (l, p, w, ← tl) }
among at (x ∷ xs) (c ∷ pre) e suf q =
    let hd = head-eq_of_cons-eq q in
    let r = among (at + entry_length x.words) xs pre e suf (tail-eq_of_cons-eq q) in
    let l = length-append x.words (codes r.es) in
    let p = r.place in
    record {
      es = x ∷ r.es;
      fs = r.fs;
      is = ap (λ (u : List Item). x ∷ u) r.is;
      place = omega arith;
      anew = λ y k. rw (r.anew y k, hd);
    }

-- an entry among those of n pages from the index j on
pub record Located (a : Area) (g : List ℕ) (n j : ℕ) (pre : List Entry) (e : Entry) (suf : List Entry) : Type 0 where
  pub i : ℕ
  pub lo : j ≤ i
  pub hi : i < j + n
  pub es : List Item
  pub fs : List Item
  pub is : items (page a g i) ≡ es ++ item e.handle e.words ∷ fs
  pub place : e.place ≡ base a i + (2 + length (codes es))
  pub anew : (f : List ℕ) → ((l : ℕ) → i ≢ l → page a f l ≡ page a g l) → (x : Item) → length x.words ≡ length e.words
      → items (page a f i) ≡ es ++ x ∷ fs → entries_from a f n j ≡ pre ++ entry_at e.place x ∷ suf

pub located : (a : Area) (g : List ℕ) (n j : ℕ) (pre : List Entry) (e : Entry) (suf : List Entry) → entries_from a g n j ≡ pre ++ e ∷ suf → Located a g n j pre e suf
located a g zero j [] e suf q = absurd (nil≢cons q)
located a g zero j (c ∷ pre) e suf q = absurd (nil≢cons q)
located a g (suc n) j pre e suf q =
    ⊎_elim here (λ r. there r (located a g n (suc j) r.0 e suf r.2)) (split_append (page_entries a g j) (entries_from a g n (suc j)) pre e suf q)
  where
    here : ((t : List Entry) × (page_entries a g j ≡ pre ++ e ∷ t) × (suf ≡ t ++ entries_from a g n (suc j))) → Located a g (suc n) j pre e suf
    here r =
        let m = among (base a j + 2) (items (page a g j)) pre e r.0 r.1 in
        let p = m.place in
        record {
          i = j;
          lo = omega arith;
          hi = omega arith;
          es = m.es;
          fs = m.fs;
          is = m.is;
          place = omega arith;
          anew = λ f o x l y. rw (y, m.anew x l, from_same a g f n (suc j) (λ u lo hi. o u (λ k. omega arith)))
              (append_assoc pre (entry_at e.place x ∷ r.0) (entries_from a g n (suc j)) ∙ ap (λ (u : List Entry). pre ++ entry_at e.place x ∷ u) (sym r.2));
        }

    there : (r : (t : List Entry) × (pre ≡ page_entries a g j ++ t) × (entries_from a g n (suc j) ≡ t ++ e ∷ suf))
        → Located a g n (suc j) r.0 e suf → Located a g (suc n) j pre e suf
    there r m =
        let lo' = m.lo in
        let hi' = m.hi in
        record {
          i = m.i;
          lo = omega arith;
          hi = omega arith;
          es = m.es;
          fs = m.fs;
          is = m.is;
          place = m.place;
          anew = λ f o x l y. rw (o j (λ q. omega arith), m.anew f o x l y)
              (sym (append_assoc (page_entries a g j) r.0 (entry_at e.place x ∷ suf)) ∙ ap (λ (u : List Entry). u ++ entry_at e.place x ∷ suf) (sym r.1));
        }
