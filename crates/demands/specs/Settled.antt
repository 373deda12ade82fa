-- Areas whose R is blank: what makes them ready, one word of a page stored, an entry invalidated, and pages as the layout writes them.
-- Assumes nothing.
use Rattle.std.specs.Prelude.{◌≡◌, refl, ◌⊎◌, List, [], ◌∷◌, ◌++◌, Bool, true, false, cond, not, ◌&&◌, ℕ, ◌+◌, ◌≤◌, ◌<◌, length, get_or, take, eqb, ltb}
use Rattle.std.proofs.Common.{ap, sym, ◌∙◌, subst, ⊎_elim, inl, inr, zero-le, arith, le_refl}
use Rattle.std.proofs.Math.Bool.{and-false}
use Rattle.std.proofs.lemmas.Bool.{false≢true}
use borrow.Author.Tests.{not-true, not-false, eqb-true, ltb-true, lt-ltb, ne_eqb}
use Rattle.flash.specs.Stores.{blank, Store, put, apply, made, made_first}
use Rattle.flash.specs.Laws.{words_made, length_made}
use Rattle.rules.specs.declared.Area.{Area}
use Rattle.rules.specs.declared.Kind.TheVariants.{Sealed}
use Rattle.rules.specs.declared.Recovery.{Recovery}
use Rattle.rules.specs.declared.Recovery.TheVariants.{Free, Unfinished, Committed, Damage}
use Rattle.rules.specs.Words.{index_of, header, seal, meta1}
use Rattle.rules.specs.Walk.{Item, entry_length, codes, items, stop, all_blank, kind_of, is_sealed, is_sound}
use Rattle.rules.specs.Areas.{R, base, page, kind, every, recovery_of, recovery, is_free, Entry, entries, twice, sound_or_named, sealed_at, damaged, ready, map_of, live_words}
use Rattle.rules.specs.Refusals.{unready}
use Rattle.rules.specs.Lists.{bare}
use Rattle.rules.specs.Laws.{and_left, and_right}
use Rattle.rules.specs.Places.{page_in, length_page}
use Rattle.demands.specs.Terms.{Fair, Map, laid, blanks, Good, Goods, good_item, written, layout}
use Rattle.demands.specs.Pages.{image, image_layout, codes_written, stop_image, item, goods_append, goods_left, goods_right, goods_head, goods_items, bare_header, header_dead, at_seal, blank_all, all_blank_true, items_image, kind_image, sealed_shape, is_sealed_true, front, length_front, image_front, image_at}
use Rattle.demands.specs.Runs.{shape_of, meta_low, Usable, same_or_not, right_wrong, Only, Turns, turns_as, turns_put, every_true, true_every}
use Rattle.demands.specs.Entries.{zeroed, look}
use Rattle.demands.specs.Layout.{laid_same, from_laid, located}

pub given_made : {a : Area} {f : List ℕ} (ss : List Store) → Usable a f → Usable a (made ss f)
given_made {a} {f} ss g = record { words = words_made ss g.words; right = right_wrong a f (made ss f) g.right (length_made ss f) }

pub given_first : {a : Area} {f : List ℕ} (k : ℕ) (ss : List Store) → Usable a f → Usable a (made_first k ss f)
unfolding made_first
given_first k ss g = given_made (take k ss) g

-- ---- R
blank_free : (n p : ℕ) → recovery_of n (blanks p) ≡ Free
unfolding recovery_of
blank_free n p = rw (blank_all p)

-- what the words of R say of it
data RShape (n : ℕ) (r : List ℕ) : Recovery → Type 0 where
  shape_free : r ≡ blanks (length r) → RShape n r Free
  shape_unfinished : get_or r 1 0 ≡ blank → RShape n r Unfinished
  shape_committed : {i : ℕ} → i < n → kind_of n i r ≡ Sealed → RShape n r (Committed i)
  shape_damage : RShape n r Damage

r_shape : (n : ℕ) (r : List ℕ) (s : Recovery) → recovery_of n r ≡ s → RShape n r s
unfolding recovery_of
r_shape n r s e = subst (RShape n r) e (go (all_blank r) refl (eqb (get_or r 1 0) blank) refl (ltb (index_of (get_or r 1 0)) n && is_sealed (kind_of n (index_of (get_or r 1 0)) r)) refl)
  where
    go : (b : Bool) → all_blank r ≡ b → (c : Bool) → eqb (get_or r 1 0) blank ≡ c → (d : Bool) → ltb (index_of (get_or r 1 0)) n && is_sealed (kind_of n (index_of (get_or r 1 0)) r) ≡ d
        → RShape n r (cond b Free (cond c Unfinished (cond d (Committed (index_of (get_or r 1 0))) Damage)))
    go true p c q d w = shape_free (all_blank_true r p)
    go false p true q d w = shape_unfinished (eqb-true (get_or r 1 0) blank q)
    go false p false q true w =
        let j = index_of (get_or r 1 0) in
        shape_committed (ltb-true j n (and_left (ltb j n) (is_sealed (kind_of n j r)) w)) (is_sealed_true (kind_of n j r) (and_right (ltb j n) (is_sealed (kind_of n j r)) w))
    go false p false q false w = shape_damage

pub free_blank : (n : ℕ) (r : List ℕ) → recovery_of n r ≡ Free → r ≡ blanks (length r)
free_blank n r e = go (r_shape n r Free e)
  where
    go : RShape n r Free → r ≡ blanks (length r)
    go (shape_free b) = b

pub unfinished_word : (n : ℕ) (r : List ℕ) → recovery_of n r ≡ Unfinished → get_or r 1 0 ≡ blank
unfinished_word n r e = go (r_shape n r Unfinished e)
  where
    go : RShape n r Unfinished → get_or r 1 0 ≡ blank
    go (shape_unfinished b) = b

pub committed_r : (n i : ℕ) (r : List ℕ) → recovery_of n r ≡ Committed i → (i < n) × (kind_of n i r ≡ Sealed)
committed_r n i r e = go (r_shape n r (Committed i) e)
  where
    go : RShape n r (Committed i) → (i < n) × (kind_of n i r ≡ Sealed)
    go (shape_committed h k) = (h, k)

-- and back
pub open_r : (n : ℕ) (r : List ℕ) → get_or r 1 0 ≡ blank → (recovery_of n r ≡ Free) ⊎ (recovery_of n r ≡ Unfinished)
unfolding recovery_of
open_r n r e = go (all_blank r) refl
  where
    go : (b : Bool) → all_blank r ≡ b → (recovery_of n r ≡ Free) ⊎ (recovery_of n r ≡ Unfinished)
    go true p = inl (rw p)
    go false p = inr (rw (p, e))

index_meta : (n i : ℕ) → i < n → n ≤ 255 → index_of (meta1 n i) ≡ i
unfolding index_of meta1
index_meta n i h l = omega arith

image_some : (n i : ℕ) (es : List Item) (t : List ℕ) → all_blank (image n i es t) ≡ false
unfolding image
image_some n i es t = refl

image_word : (n i : ℕ) (es : List Item) (t : List ℕ) → get_or (image n i es t) 1 0 ≡ meta1 n i
unfolding image
image_word n i es t = refl

pub closed_r : (n i : ℕ) (es : List Item) (m : ℕ) → i < n → n ≤ 255 → Goods es → recovery_of n (image n i es (seal ∷ blanks m)) ≡ Committed i
unfolding recovery_of
closed_r n i es m h l gs =
    let b = ne_eqb (meta1 n i) blank (λ q. omega (arith, meta_low n i h l)) in
    rw (image_some n i es (seal ∷ blanks m), image_word n i es (seal ∷ blanks m), b, index_meta n i h l, lt-ltb i n h, kind_image at_seal n i m es gs)

is_free_true : (r : Recovery) → is_free r ≡ true → r ≡ Free
is_free_true Free e = refl
is_free_true Unfinished e = absurd (false≢true e)
is_free_true (Committed i) e = absurd (false≢true e)
is_free_true Damage e = absurd (false≢true e)

-- ---- R blank, each page sealed or torn, and those below j sealed
pub record Mended (a : Area) (j : ℕ) (f : List ℕ) : Type 0 where
  pub given : Usable a f
  pub spare : page a f (R a) ≡ blanks a.words
  pub sound : (i : ℕ) → i < a.pages → is_sound (kind a f i) ≡ true
  pub done : (i : ℕ) → i < a.pages → i < j → kind a f i ≡ Sealed

-- all sealed
abbrev pub Settled : Area → List ℕ → Type 0
Settled a f = Mended a a.pages f

pub mended_free : {a : Area} {j : ℕ} {f : List ℕ} → Mended a j f → recovery a f ≡ Free
mended_free {a} m = rw m.spare (blank_free a.pages a.words)

pub mended_sound : {a : Area} {j : ℕ} {f : List ℕ} → Mended a j f → damaged a f ≡ false
unfolding damaged
mended_sound {a} {j} {f} m =
    rw (mended_free m, true_every (sound_or_named a f) a.pages 0 (λ i lo hi. rw (mended_free m) (m.sound i (omega arith))))

pub settled_ready : {a : Area} {f : List ℕ} → Settled a f → twice (entries a f) ≡ false → ready a f ≡ true
unfolding ready
settled_ready {a} {f} s t =
    rw (mended_free s, t, true_every (sealed_at a f) a.pages 0 (λ i lo hi. rw (s.done i (omega arith) (omega arith))))

pub ready_settled : {a : Area} {f : List ℕ} → Usable a f → ready a f ≡ true → Settled a f × (twice (entries a f) ≡ false)
unfolding ready
ready_settled {a} {f} g e =
    let p = and_right (is_free (recovery a f)) _ e in
    let fr = is_free_true (recovery a f) (and_left (is_free (recovery a f)) _ e) in
    let q = and_left (every (sealed_at a f) a.pages 0) _ p in
    let w : (i : ℕ) → i < a.pages → kind a f i ≡ Sealed = λ i h. is_sealed_true (kind a f i) (every_true (sealed_at a f) a.pages 0 q i zero-le (omega arith)) in (
      record {
        given = g;
        spare = free_blank a.pages (page a f a.pages) fr ∙ ap blanks (length_page a f a.pages (page_in (shape_of g) a.pages (omega arith)));
        sound = λ i h. rw (w i h);
        done = λ i h l. w i h;
      },
      not-true (twice (entries a f)) (and_right (every (sealed_at a f) a.pages 0) _ p),
    )

-- the checks that requests begin with
module _ (a : Area) (f : List ℕ) where
  pub ready_sound : Usable a f → ready a f ≡ true → damaged a f ≡ false
  ready_sound g r = mended_sound (ready_settled g r).0

  pub ready_passed : ready a f ≡ true → unready a f ≡ false
  unfolding unready
  ready_passed r = rw r (and-false (not (damaged a f)))

  pub passed_ready : damaged a f ≡ false → unready a f ≡ false → ready a f ≡ true
  unfolding unready
  passed_ready d u = not-false (ready a f) (rw d at u)

-- the area is ready, its map is m, and it has at most n live words
pub record Stands (a : Area) (m : Map) (n : ℕ) (f : List ℕ) : Type 0 where
  pub given : Usable a f
  pub ready : ready a f ≡ true
  pub map : (u : ℕ) → map_of a f u ≡ m u
  pub live : live_words (entries a f) ≤ n

pub stands_by : {a : Area} {m : Map} {n : ℕ} {f : List ℕ} (es : List Entry) → Settled a f → entries a f ≡ es → twice es ≡ false → ((u : ℕ) → look u es ≡ m u)
    → live_words es ≤ n → Stands a m n f
unfolding map_of
stands_by es s e t q l = record { given = s.given; ready = settled_ready s (rw e t); map = λ u. rw e (q u); live = rw e l }

pub ready_stands : {a : Area} {f : List ℕ} → Usable a f → ready a f ≡ true → Stands a (map_of a f) (live_words (entries a f)) f
ready_stands {a} {f} g r = record { given = g; ready = r; map = λ u. refl; live = le_refl (live_words (entries a f)) }

pub stands_settled : {a : Area} {m : Map} {n : ℕ} {f : List ℕ} → Stands a m n f → Settled a f × (twice (entries a f) ≡ false)
stands_settled s = ready_settled s.given s.ready

pub stands_look : {a : Area} {m : Map} {n : ℕ} {f : List ℕ} → Stands a m n f → (u : ℕ) → look u (entries a f) ≡ m u
unfolding map_of
stands_look s u = s.map u

-- one page turned to another
pub mended_only : {a : Area} {j : ℕ} {f g : List ℕ} {i : ℕ} {x : List ℕ} → Mended a j f → Usable a g → i < a.pages → Only a f g i x
    → is_sound (kind_of a.pages i x) ≡ true → (i < j → kind_of a.pages i x ≡ Sealed) → Mended a j g
mended_only {a} {j} {f} {g} {i} {x} m v h o s d =
    record {
      given = v;
      spare = o.there a.pages (λ q. omega arith) ∙ m.spare;
      sound = λ l b. ⊎_elim (λ q. subst (λ (u : ℕ). is_sound (kind a g u) ≡ true) q (rw o.here s)) (λ n. rw (o.there l n) (m.sound l b)) (same_or_not i l);
      done = λ l b c. ⊎_elim (λ q. subst (λ (u : ℕ). kind a g u ≡ Sealed) q (rw o.here (d (rw q c)))) (λ n. rw (o.there l n) (m.done l b c)) (same_or_not i l);
    }

pub settled_page : {a : Area} {f : List ℕ} → Settled a f → (i : ℕ) → i < a.pages → (m : ℕ) × (page a f i ≡ image a.pages i (items (page a f i)) (seal ∷ blanks m))
settled_page {a} {f} s i h =
    let r = shape_of s.given in
    let w = r.wide in
    let l = length_page a f i (page_in r i (omega arith)) in
    sealed_shape a.pages i (page a f i) (omega arith) (s.done i h h)

-- ---- one word of a page
-- the header of an entry to its bare length
pub turns_bare : (a : Area) (i : ℕ) (es : List Item) (x : Item) (fs : List Item) (t : List ℕ) (p : ℕ) → p ≡ base a i + (2 + length (codes es)) → length x.words ≤ 32
    → Turns a i (put p (entry_length x.words) ∷ []) (image a.pages i (es ++ x ∷ fs) t) (image a.pages i (es ++ item 0 x.words ∷ fs) t)
turns_bare a i es x fs t p e b =
    let n = a.pages in
    let l = length_front a.pages i es in
    let k : entry_length x.words < 65536 = omega arith in
    turns_as (image_at n i es x fs t) (rw (← header_dead (entry_length x.words)) (sym (image_at n i es (item 0 x.words) fs t)))
    (turns_put a i (front n i es) (header x.handle (entry_length x.words)) (x.words ++ (codes fs ++ t)) p (entry_length x.words) (omega arith)
    (bare_header x.handle (entry_length x.words) k))

-- the seal behind the entries
pub turns_seal : (a : Area) (i : ℕ) (es : List Item) (t : List ℕ) (p : ℕ) → p ≡ base a i + (2 + length (codes es))
    → Turns a i (put p seal ∷ []) (image a.pages i es (blank ∷ t)) (image a.pages i es (seal ∷ t))
turns_seal a i es t p e =
    let l = length_front a.pages i es in
    turns_as (image_front a.pages i es (blank ∷ t)) (sym (image_front a.pages i es (seal ∷ t)))
    (turns_put a i (front a.pages i es) blank t p seal (omega arith) refl)

pub dead_good : (d : List ℕ) → length d ≤ 32 → Good (item 0 d)
dead_good d l = record { small = omega arith; short = l }

-- ---- an entry invalidated
pub record Invalidated (a : Area) (g : List ℕ) (pre : List Entry) (e : Entry) (suf : List Entry) : Type 0 where
  pub fair : Fair a (bare e ∷ []) g
  pub settled : Settled a (apply (bare e) g)
  pub entries : entries a (apply (bare e) g) ≡ pre ++ zeroed e ∷ suf

pub invalidate : {a : Area} {g : List ℕ} (pre : List Entry) (e : Entry) (suf : List Entry) → Settled a g → entries a g ≡ pre ++ e ∷ suf → Invalidated a g pre e suf
unfolding entries
invalidate {a} {g} pre e suf s q =
    let n = located a g a.pages 0 pre e suf q in
    let hi = n.hi in
    let i = n.i in
    let h : n.i < a.pages = omega arith in
    let x = item e.handle e.words in
    let p = settled_page s n.i h in
    let t = seal ∷ blanks p.0 in
    let im : page a g n.i ≡ image a.pages n.i (n.es ++ x ∷ n.fs) t = p.1 ∙ ap (λ (u : List Item). image a.pages n.i u t) n.is in
    let gs : Goods (n.es ++ x ∷ n.fs) = subst Goods n.is (goods_items (page a g n.i)) in
    let gt = goods_right n.es gs in
    let gx : Good x = goods_head gt in
    let gz : Goods (n.es ++ item 0 e.words ∷ n.fs) = goods_append (goods_left n.es (x ∷ n.fs) gs) (good_item (dead_good e.words gx.short) (goods_right (x ∷ []) gt)) in
    let o = (turns_bare a n.i n.es x n.fs t e.place n.place gx.short).on g (page_in (shape_of s.given) n.i (omega arith)) im in
    let c = kind_image at_seal a.pages n.i p.0 (n.es ++ item 0 e.words ∷ n.fs) gz in
    record {
      fair = o.0;
      settled = mended_only s (given_made (bare e ∷ []) s.given) h o.1 (rw c) (λ l. c);
      entries = n.anew (apply (bare e) g) o.1.there (item 0 e.words) refl (rw o.1.here (items_image at_seal a.pages n.i p.0 (n.es ++ item 0 e.words ∷ n.fs) gz));
    }

-- ---- pages as the layout writes them
pub laid_settled : {a : Area} {f : List ℕ} → Usable a f → (es : ℕ → List Item) (m : ℕ → ℕ) → ((i : ℕ) → i < a.pages → Goods (es i))
    → ((i : ℕ) → i < a.pages → page a f i ≡ image a.pages i (es i) (seal ∷ blanks (m i))) → page a f (R a) ≡ blanks a.words
    → Settled a f × (entries a f ≡ laid a es a.pages 0)
unfolding entries
laid_settled {a} {f} g es m gs is sp =
    let k : (i : ℕ) → i < a.pages → kind a f i ≡ Sealed = λ i h. rw (is i h) (kind_image at_seal a.pages i (m i) (es i) (gs i h)) in (
      record { given = g; spare = sp; sound = λ i h. rw (k i h); done = λ i h l. k i h },
      from_laid a f a.pages 0 ∙ laid_same a (λ i. items (page a f i)) es a.pages 0 (λ i lo hi. rw (is i (omega arith)) (items_image at_seal a.pages i (m i) (es i) (gs i (omega arith)))),
    )

pub sealed_layout : {a : Area} {f : List ℕ} → Settled a f → (i : ℕ) → i < a.pages
    → (es : List Item) × (m : ℕ) × Goods es × (page a f i ≡ layout a.pages i es seal m) × (items (page a f i) ≡ es) × (stop (page a f i) ≡ 2 + length (written es))
sealed_layout {a} {f} s i h =
    let p = settled_page s i h in
    let es = items (page a f i) in
    let gs = goods_items (page a f i) in
    (es, p.0, gs, p.1 ∙ image_layout a.pages i es seal p.0, refl, ap stop p.1 ∙ stop_image at_seal a.pages i p.0 es gs ∙ ap (λ (ws : List ℕ). 2 + length ws) (codes_written es))
