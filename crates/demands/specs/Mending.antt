-- Recovery's steps (b) and (c), on an area whose R is blank: cut anywhere they go on with the stores that are left, and each store keeps
-- every handle's last live entry. Assumes nothing.
use Rattle.std.specs.Prelude.{◌≡◌, refl, ◌≢◌, Bool, true, false, cond, length, Option, Some}
use Rattle.std.proofs.Common.{ap, sym, ◌∙◌, ⊎_elim, arith, eq-or-lt_of_le, le_of_suc-le-suc, length-append}
use mathlib.Core.List.{List, [], ◌∷◌, ◌++◌, append_assoc, nil≢cons, head-eq_of_cons-eq, tail-eq_of_cons-eq}
use Rattle.std.proofs.lemmas.Bool.{false≢true}
use Prim.Native.Nat.{ℕ, suc, ◌+◌, ◌-◌, ◌≤◌, ◌<◌, zero-le}
use Rattle.flash.specs.Stores.{blank, Store, put, apply, made, Step, ◌then◌, each}
use Rattle.rules.specs.declared.Area.{Area}
use Rattle.rules.specs.declared.Kind.{Kind}
use Rattle.rules.specs.declared.Kind.TheVariants.{Sealed, Torn, Neither}
use Rattle.rules.specs.Words.{is_live, seal}
use Rattle.rules.specs.Walk.{Item, codes, items, stop, is_sound}
use Rattle.rules.specs.Areas.{base, page, kind, Entry, placed, page_entries, entries, ready}
use Rattle.rules.specs.Lists.{bare, last_of, bare_if_live, mend, supersede, drop_doubles}
use Rattle.rules.specs.Places.{page_in, length_page}
use Rattle.demands.specs.Terms.{Fair, last_live, but_last, kept_of, kept_items, kept, laid, blanks, Goods, no_item, good_item}
use Rattle.demands.specs.Stages.{after, Peels, then_peels, each_peels, each_ends, each_rests, each_one}
use Rattle.demands.specs.Pages.{image, item, goods_append, goods_left, goods_right, goods_head, goods_items, at_seal, at_blank, items_image, kind_image, stop_image, torn_shape, codes_append}
use Rattle.demands.specs.Runs.{shape_of, Only, turns_then}
use Rattle.demands.specs.Entries.{none_supersede, supersede_first, last_skip, last_stays, dead_never}
use Rattle.demands.specs.Layout.{laid_same, laid_split, from_laid, entry_at, placed_append}
use Rattle.demands.specs.Settled.{given_made, Mended, Settled, mended_free, settled_ready, mended_only, turns_bare, turns_seal, dead_good, invalidate}

-- ---- what is kept
-- g keeps what f is to keep: each handle the same last live entry
abbrev pub Keeps : Area → List ℕ → List ℕ → Type 0
Keeps a f g = (u : ℕ) → last_live u (kept a g) ≡ last_live u (kept a f)

-- where R is blank, the pages' own
pub own_items : {a : Area} {j : ℕ} {f : List ℕ} → Mended a j f → (i : ℕ) → kept_items a f i ≡ kept_of (kind a f i) (items (page a f i))
own_items m i = rw (mended_free m)

-- of a settled area, all entries
pub settled_kept : {a : Area} {f : List ℕ} → Settled a f → kept a f ≡ entries a f
unfolding kept entries
settled_kept {a} {f} s =
    laid_same a (kept_items a f) (λ i. items (page a f i)) a.pages 0 (λ i lo hi. own_items s i ∙ rw (s.done i (omega arith) (omega arith)))
    ∙ sym (from_laid a f a.pages 0)

-- one page turned to another: all the rest is kept
module _ {a : Area} {j l : ℕ} {f g : List ℕ} {i : ℕ} {x : List ℕ} (m : Mended a j f) (n : Mended a l g) (h : i < a.pages) (o : Only a f g i x) where
  others : (t : ℕ) → i ≢ t → kept_items a g t ≡ kept_items a f t
  others t d = own_items n t ∙ rw (o.there t d) (sym (own_items m t))

  abbrev up : List Entry
  up = laid a (kept_items a f) i 0

  abbrev down : List Entry
  down = laid a (kept_items a f) (a.pages - suc i) (suc i)

  kept_old : kept a f ≡ up ++ (placed (base a i + 2) (kept_items a f i) ++ down)
  unfolding kept
  kept_old = laid_split a (kept_items a f) i h

  kept_new : kept a g ≡ up ++ (placed (base a i + 2) (kept_items a g i) ++ down)
  unfolding kept
  kept_new =
      let u = laid_same a (kept_items a g) (kept_items a f) i 0 (λ t lo hi. others t (λ q. omega arith)) in
      let v = laid_same a (kept_items a g) (kept_items a f) (a.pages - suc i) (suc i) (λ t lo hi. others t (λ q. omega arith)) in
      laid_split a (kept_items a g) i h ∙ rw (u, v)

  -- the same entries of the page
  same_keeps : kept_items a g i ≡ kept_items a f i → Keeps a f g
  same_keeps e u = let k : kept a g ≡ kept a f = kept_new ∙ ap (λ (es : List Item). up ++ (placed (base a i + 2) es ++ down)) e ∙ sym kept_old in ap (last_live u) k

  -- and an invalidated one more behind them
  more_keeps : (es : List Item) (y : Item) → is_live y.handle ≡ false → kept_items a f i ≡ es → kept_items a g i ≡ es ++ (y ∷ []) → Keeps a f g
  more_keeps es y q e c u =
      let at = base a i + 2 in
      let z = entry_at (base a i + 2 + length (codes es)) y in
      let k : kept a g ≡ (up ++ placed at es) ++ z ∷ down =
      kept_new ∙ rw (c, placed_append at es (y ∷ []), append_assoc (placed at es) (z ∷ []) down) (sym (append_assoc up (placed at es) (z ∷ down))) in
      let l : kept a f ≡ (up ++ placed at es) ++ down = kept_old ∙ rw e (sym (append_assoc up (placed at es) down)) in
      ap (last_live u) k ∙ last_skip u (up ++ placed at es) z down (dead_never u z q) ∙ ap (last_live u) (sym l)

-- ---- step (b)
last_snoc : (es : List Entry) (x : Entry) → last_of (es ++ (x ∷ [])) ≡ Some x
last_snoc [] x = refl
last_snoc (e ∷ []) x = refl
last_snoc (e ∷ (c ∷ es)) x = last_snoc (c ∷ es) x

-- a list is empty, or has a last element
data Snoc : List Item → Type 0 where
  empty : Snoc []
  snoc : (es : List Item) (x : Item) → Snoc (es ++ (x ∷ []))

snoc_view : (es : List Item) → Snoc es
snoc_view [] = empty
snoc_view (e ∷ es) = go es (snoc_view es)
  where
    go : (l : List Item) → Snoc l → Snoc (e ∷ l)
    go l empty = snoc [] e
    go l (snoc fs x) = snoc (e ∷ fs) x

-- of entries the last is invalidated, if there is one
data DeadLast : List Item → Type 0 where
  nothing : DeadLast []
  dead_last : (es : List Item) (x : Item) → is_live x.handle ≡ false → DeadLast (es ++ (x ∷ []))

but_last_snoc : (es : List Item) (x : Item) → but_last (es ++ (x ∷ [])) ≡ es
but_last_snoc [] x = refl
but_last_snoc (e ∷ []) x = refl
but_last_snoc (e ∷ (d ∷ es)) x = ap (λ (u : List Item). e ∷ u) (but_last_snoc (d ∷ es) x)

module _ (a : Area) (i : ℕ) (h : i < a.pages) where
  -- the stores that a torn page with the entries es takes
  abbrev to_mend : List Item → List Store
  to_mend es = bare_if_live (last_of (placed (base a i + 2) es)) ++ put (base a i + (2 + length (codes es))) seal ∷ []

  mend_torn : (f : List ℕ) (es : List Item) (m : ℕ) → Goods es → page a f i ≡ image a.pages i es (blank ∷ blanks m) → mend a i f ≡ to_mend es
  mend_torn f es m gs e =
      let k : kind a f i ≡ Torn = rw e (kind_image at_blank a.pages i m es gs) in
      rw (k, e, stop_image at_blank a.pages i m es gs, items_image at_blank a.pages i m es gs)

  mend_sealed : (f : List ℕ) → kind a f i ≡ Sealed → mend a i f ≡ []
  mend_sealed f e = rw e

  last_placed : (es : List Item) (x : Item) → last_of (placed (base a i + 2) (es ++ (x ∷ []))) ≡ Some (entry_at (base a i + 2 + length (codes es)) x)
  last_placed es x = rw (placed_append (base a i + 2) es (x ∷ [])) (last_snoc (placed (base a i + 2) es) (entry_at (base a i + 2 + length (codes es)) x))

  -- what is wanted of the first store
  abbrev First : ℕ → List ℕ → Store → List Store → Type 0
  First j f x xs = Fair a (x ∷ []) f × Mended a j (apply x f) × (mend a i (apply x f) ≡ xs) × Keeps a f (apply x f)

  module _ (j : ℕ) (below : j ≤ i) (f : List ℕ) (m : Mended a j f) where
    fits : base a (suc i) ≤ length f
    fits = page_in (shape_of m.given) i (omega arith)

    -- what the page keeps, torn and sealed
    torn_keeps : (g : List ℕ) {l : ℕ} → Mended a l g → (es : List Item) (n : ℕ) → Goods es → page a g i ≡ image a.pages i es (blank ∷ blanks n) → kept_items a g i ≡ but_last es
    torn_keeps g w es n gs e = own_items w i ∙ rw (e, kind_image at_blank a.pages i n es gs, items_image at_blank a.pages i n es gs)

    sealed_keeps : (g : List ℕ) {l : ℕ} → Mended a l g → (es : List Item) (n : ℕ) → Goods es → page a g i ≡ image a.pages i es (seal ∷ blanks n) → kept_items a g i ≡ es
    sealed_keeps g w es n gs e = own_items w i ∙ rw (e, kind_image at_seal a.pages i n es gs, items_image at_seal a.pages i n es gs)

    -- the seal, behind entries of which the last is invalidated
    seal_first : (es : List Item) (n : ℕ) → Goods es → DeadLast es → page a f i ≡ image a.pages i es (blank ∷ blanks n) → First j f (put (base a i + (2 + length (codes es))) seal) []
    seal_first es n gs dl e =
        let s = put (base a i + (2 + length (codes es))) seal in
        let o = (turns_seal a i es (blanks n) (base a i + (2 + length (codes es))) refl).on f fits e in
        let c = kind_image at_seal a.pages i n es gs in
        let w : Mended a j (apply s f) = mended_only m (given_made (s ∷ []) m.given) h o.1 (rw c) (λ l. c) in
        (o.0, w, mend_sealed (apply s f) (rw o.1.here c), keeps es dl (torn_keeps f m es n gs e) (sealed_keeps (apply s f) w es n gs o.1.here) w o.1)
      where
        keeps : {g x : List ℕ} (es : List Item) → DeadLast es → kept_items a f i ≡ but_last es → kept_items a g i ≡ es → Mended a j g → Only a f g i x → Keeps a f g
        keeps es nothing p q w o = same_keeps m w h o (q ∙ sym p)
        keeps es (dead_last fs y z) p q w o = more_keeps m w h o fs y z (p ∙ but_last_snoc fs y) q

    -- the last entry
    module _ (fs : List Item) (x : Item) (n : ℕ) (gs : Goods (fs ++ (x ∷ []))) (e : page a f i ≡ image a.pages i (fs ++ (x ∷ [])) (blank ∷ blanks n)) where
      abbrev zs : List Item
      zs = fs ++ (item 0 x.words ∷ [])

      abbrev last : Entry
      last = entry_at (base a i + 2 + length (codes fs)) x

      short : length x.words ≤ 32
      short = (goods_head (goods_right fs gs)).short

      gz : Goods zs
      gz = goods_append (goods_left fs (x ∷ []) gs) (good_item (dead_good x.words short) no_item)

      same_long : length (codes zs) ≡ length (codes (fs ++ (x ∷ [])))
      same_long = simp (codes_append, length-append)

      bare_first : First j f (bare last) (put (base a i + (2 + length (codes (fs ++ (x ∷ []))))) seal ∷ [])
      bare_first =
          let o = (turns_bare a i fs x [] (blank ∷ blanks n) (base a i + 2 + length (codes fs)) (omega arith) short).on f fits e in
          let c = kind_image at_blank a.pages i n zs gz in
          let w : Mended a j (apply (bare last) f) = mended_only m (given_made (bare last ∷ []) m.given) h o.1 (rw c) (λ l. absurd (omega arith)) in
          let k = torn_keeps f m (fs ++ (x ∷ [])) n gs e ∙ but_last_snoc fs x in
          let l = torn_keeps (apply (bare last) f) w zs n gz o.1.here ∙ but_last_snoc fs (item 0 x.words) in (
            o.0,
            w,
            mend_torn (apply (bare last) f) zs n gz o.1.here ∙ rw (last_placed fs (item 0 x.words), same_long),
            same_keeps m w h o.1 (l ∙ sym k),
          )

    torn_first : (es : List Item) (n : ℕ) → Goods es → page a f i ≡ image a.pages i es (blank ∷ blanks n) → (x : Store) (xs : List Store) → to_mend es ≡ x ∷ xs → First j f x xs
    torn_first es n gs e = go es (snoc_view es) gs e
      where
        go : (es : List Item) → Snoc es → Goods es → page a f i ≡ image a.pages i es (blank ∷ blanks n) → (x : Store) (xs : List Store) → to_mend es ≡ x ∷ xs → First j f x xs
        go es empty gs e x xs q = rw (← head-eq_of_cons-eq q, ← tail-eq_of_cons-eq q) (seal_first [] n gs nothing e)
        go es (snoc fs y) gs e x xs q =
            live (is_live y.handle) refl (sym (ap (λ (u : Option Entry). bare_if_live u ++ put (base a i + (2 + length (codes (fs ++ (y ∷ []))))) seal ∷ []) (last_placed fs y)) ∙ q)
          where
            live : (b : Bool) → is_live y.handle ≡ b
                → cond (is_live y.handle) (bare (last fs y n gs e) ∷ []) [] ++ put (base a i + (2 + length (codes (fs ++ (y ∷ []))))) seal ∷ [] ≡ x ∷ xs → First j f x xs
            live true c r =
                let r' : bare (last fs y n gs e) ∷ (put (base a i + (2 + length (codes (fs ++ (y ∷ []))))) seal ∷ []) ≡ x ∷ xs = rw c at r in
                rw (← head-eq_of_cons-eq r', ← tail-eq_of_cons-eq r') (bare_first fs y n gs e)
            live false c r =
                let r' : put (base a i + (2 + length (codes (fs ++ (y ∷ []))))) seal ∷ [] ≡ x ∷ xs = rw c at r in
                rw (← head-eq_of_cons-eq r', ← tail-eq_of_cons-eq r') (seal_first (fs ++ (y ∷ [])) n gs (dead_last fs y c) e)

    mend_first : (k : Kind) → kind a f i ≡ k → (x : Store) (xs : List Store) → mend a i f ≡ x ∷ xs → First j f x xs
    mend_first Sealed e x xs q = absurd (nil≢cons (sym (mend_sealed f e) ∙ q))
    mend_first Torn e x xs q =
        let w = (shape_of m.given).wide in
        let l = length_page a f i fits in
        let p = torn_shape a.pages i (page a f i) (omega arith) e in
        torn_first (items (page a f i)) p.0 (goods_items (page a f i)) p.1 x xs (sym (mend_torn f (items (page a f i)) p.0 (goods_items (page a f i)) p.1) ∙ q)
    mend_first Neither e x xs q = absurd (false≢true (sym (ap is_sound e) ∙ m.sound i h))

  -- a live last entry is invalidated, and the page sealed
  pub mend_last : (f : List ℕ) (es : List Item) (x : Item) (n : ℕ) → base a (suc i) ≤ length f → Goods (es ++ (x ∷ [])) → is_live x.handle ≡ true
      → page a f i ≡ image a.pages i (es ++ (x ∷ [])) (blank ∷ blanks n) → Only a f (after (mend a i) f) i (image a.pages i (es ++ (item 0 x.words ∷ [])) (seal ∷ blanks n))
  mend_last f es x n l gs v e =
      let at = base a i + 2 + length (codes es) in
      let z : length (codes (es ++ (item 0 x.words ∷ []))) ≡ length (codes (es ++ (x ∷ []))) = simp (codes_append, length-append) in
      let b = turns_bare a i es x [] (blank ∷ blanks n) (base a i + 2 + length (codes es)) (omega arith) (goods_head (goods_right es gs)).short in
      let s = turns_seal a i (es ++ (item 0 x.words ∷ [])) (blanks n) (base a i + (2 + length (codes (es ++ (x ∷ []))))) (omega arith) in
      rw (mend_torn f (es ++ (x ∷ [])) n gs e, last_placed es x, v) ((turns_then b s).on f l e).1

  mend_peels : Peels a (Keeps a) (Mended a i) (mend a i)
  mend_peels = record { first = λ f m x xs q. mend_first i (omega arith) f m (kind a f i) refl x xs q }

  snoc_some : (ss : List Store) (x : Store) → ss ++ (x ∷ []) ≡ [] → ⊥
  snoc_some [] x e = nil≢cons (sym e)
  snoc_some (s ∷ ss) x e = nil≢cons (sym e)

  -- where it has nothing to do the page is sealed
  mend_on : (f : List ℕ) → Mended a i f → mend a i f ≡ [] → Mended a (suc i) f
  mend_on f m e = record { given = m.given; spare = m.spare; sound = m.sound; done = λ l b c. ⊎_elim (λ q. rw q (here (kind a f i) refl)) (λ q. m.done l b q) (eq-or-lt_of_le (le_of_suc-le-suc c)) }
    where
      here : (k : Kind) → kind a f i ≡ k → kind a f i ≡ Sealed
      here Sealed q = q
      here Torn q = absurd (snoc_some (bare_if_live (last_of (page_entries a f i))) (put (base a i + stop (page a f i)) seal) (rw q at e))
      here Neither q = absurd (false≢true (sym (ap is_sound q) ∙ m.sound i h))

  mend_back : (f : List ℕ) → Mended a (suc i) f → Mended a i f × (mend a i f ≡ [])
  mend_back f m = (record { given = m.given; spare = m.spare; sound = m.sound; done = λ l b c. m.done l b (omega arith) }, mend_sealed f (m.done i h (omega arith)))

-- ---- step (c)
drop_peels : (a : Area) → Peels a (Keeps a) (Settled a) (drop_doubles a)
drop_peels a = record { first = go }
  where
    go : (f : List ℕ) → Settled a f → (x : Store) (xs : List Store) → drop_doubles a f ≡ x ∷ xs → Fair a (x ∷ []) f × Settled a (apply x f) × (drop_doubles a (apply x f) ≡ xs) × Keeps a f (apply x f)
    go f s x xs q =
        let w = supersede_first (entries a f) x xs q in
        let v = invalidate w.pre w.entry w.suf s w.is in
        let k : Keeps a f (apply (bare w.entry) f) =
        λ u. ap (last_live u) (settled_kept v.settled ∙ v.entries) ∙ last_stays u w.pre w.entry w.suf w.later ∙ ap (last_live u) (sym (settled_kept s ∙ w.is)) in
        rw w.store (v.fair, v.settled, ap supersede v.entries ∙ w.others, k)

-- ---- both
abbrev pub mend_all : Area → Step
mend_all a = each (mend a) a.pages 0

module _ (a : Area) where
  abbrev pub mend_and_drop : Step
  mend_and_drop = mend_all a then drop_doubles a

  pub later_peels : Peels a (Keeps a) (Mended a 0) mend_and_drop
  later_peels =
      then_peels (each_peels (mend a) (Mended a) a.pages (mend_peels a) (λ i f h. mend_on a i h f) (λ i f h. mend_back a i h f) a.pages 0 (omega arith)) (drop_peels a)
      (each_ends (mend a) (Mended a) a.pages (mend_peels a) (λ i f h. mend_on a i h f) (λ i f h. mend_back a i h f) a.pages 0 (omega arith))
      (each_rests (mend a) (Mended a) a.pages (mend_peels a) (λ i f h. mend_on a i h f) (λ i f h. mend_back a i h f) a.pages 0 (omega arith))

  -- with nothing to do the area is ready, and a ready area has nothing to do
  pub later_ready : (f : List ℕ) → Mended a 0 f → mend_and_drop f ≡ [] → ready a f ≡ true
  later_ready f m e = go (mend_all a f) refl e
    where
      go : (ss : List Store) → mend_all a f ≡ ss → ss ++ drop_doubles a (made ss f) ≡ [] → ready a f ≡ true
      go [] q c =
          settled_ready (each_ends (mend a) (Mended a) a.pages (mend_peels a) (λ i f h. mend_on a i h f) (λ i f h. mend_back a i h f) a.pages 0 (omega arith) f m q)
          (none_supersede (entries a f) c)
      go (x ∷ xs) q c = absurd (nil≢cons (sym c))

  -- one page torn, and mended
  pub mend_one : (i : ℕ) (f : List ℕ) (x : List ℕ) → i < a.pages → ((l : ℕ) → l < a.pages → i ≢ l → kind a f l ≡ Sealed) → Only a f (after (mend a i) f) i x
      → mend_all a f ≡ mend a i f
  mend_one i f x h s o =
      each_one (mend a) i a.pages 0 f zero-le (omega arith) (λ l b n. mend_sealed a l (omega arith) f (s l (omega arith) n))
      (λ l b n. mend_sealed a l (omega arith) (after (mend a i) f) (rw (o.there l n) (s l (omega arith) n)))

  pub settled_mends : (f : List ℕ) → Settled a f → Mended a 0 f × (mend_all a f ≡ [])
  settled_mends f s = each_rests (mend a) (Mended a) a.pages (mend_peels a) (λ i f h. mend_on a i h f) (λ i f h. mend_back a i h f) a.pages 0 (omega arith) f s
