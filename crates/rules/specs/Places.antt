-- Where pages stand in a run, and what a right geometry gives: laws. Assumes nothing.
use Rattle.std.specs.Prelude.{◌≡◌, refl, List, Bool, true, false, ◌&&◌, ◌||◌, ◌⊎◌, ℕ, suc, ◌+◌, ◌*◌, ◌≤◌, ◌<◌, length, get_or, take, drop, leb, eqb, Option, Some, None}
use Rattle.std.proofs.Math.Path.{ap}
use Rattle.std.proofs.Common.{sym, ◌∙◌, inl, inr, suc-le-suc, arith, suc-mul, zero-mul, mul-le-mul_right, add-one, length-take, length-drop, get_or-take, get_or-drop, length-take-le, take-add, drop_at, drop-drop}
use Rattle.std.proofs.Math.Bool.{not}
use Rattle.std.proofs.lemmas.Bool.{false≢true}
use Rattle.std.proofs.Math.Logic.{⊎_elim}
use borrow.Author.Tests.{leb-true, eqb-true, le-leb, eq-eqb, not-false}
use Rattle.flash.specs.declared.Power.{Power}
use Rattle.flash.specs.Stores.{Store, Ran}
use Rattle.flash.specs.Laws.{ran_length}
use Rattle.rules.specs.declared.Area.{Area}
use Rattle.rules.specs.declared.PageSize.{PageSize}
use Rattle.rules.specs.declared.PageSize.TheVariants.{Small, Medium, Large}
use Rattle.rules.specs.Words.{words_of, size_of}
use Rattle.rules.specs.Areas.{base, page}
use Rattle.rules.specs.Refusals.{is_listed, wrong_geometry}
use Rattle.rules.specs.Laws.{and_left, and_right, nor_left, nor_right, size_words}

-- ---- pages
pub base_suc : (a : Area) (i : ℕ) → base a (suc i) ≡ base a i + a.words
unfolding base
base_suc a i = suc-mul i a.words

pub base_zero : (a : Area) → base a 0 ≡ 0
unfolding base
base_zero a = zero-mul a.words

pub base_le : (a : Area) (i j : ℕ) → i ≤ j → base a i ≤ base a j
unfolding base
base_le a i j h = mul-le-mul_right a.words h

pub length_page : (a : Area) (g : List ℕ) (i : ℕ) → base a (suc i) ≤ length g → length (page a g i) ≡ a.words
unfolding page
length_page a g i h = let s = base_suc a i in simp (length-take, length-drop) (omega arith)

pub page_word : (a : Area) (f : List ℕ) (i at : ℕ) → at < a.words → get_or f (base a i + at) 0 ≡ get_or (page a f i) at 0
unfolding page
page_word a f i at h = sym (get_or-take a.words (drop (base a i) f) at 0 h ∙ get_or-drop (base a i) f at 0)

-- the words of a page from word 2 on, where they stand in the run
pub drop_take : (n m : ℕ) (l : List ℕ) → n ≤ length l → drop n (take (n + m) l) ≡ take m (drop n l)
drop_take n m l h = ap (λ (u : List ℕ). drop n u) (take-add n m l) ∙ drop_at (take n l) (take m (drop n l)) n (length-take-le n l h)

pub page_from : (a : Area) (f : List ℕ) (i : ℕ) → base a i ≤ length f → drop 2 (page a f i) ≡ drop (base a i + 2) (take (base a i + a.words) f)
unfolding page
page_from a f i h = ap (λ (u : List ℕ). drop 2 u) (sym (drop_take (base a i) a.words f h)) ∙ drop-drop 2 (base a i) (take (base a i + a.words) f)

-- ---- a right geometry
pub record Right (a : Area) (f : List ℕ) : Type 0 where
  pub some_pages : 1 ≤ a.pages
  pub many : a.pages ≤ 255
  pub wide : 64 ≤ a.words
  pub narrow : a.words ≤ 1024
  pub listed : is_listed (size_of a.words) ≡ true
  pub long : length f ≡ base a (suc a.pages)

pub size_listed : (P : ℕ) → (P ≡ 64) ⊎ ((P ≡ 256) ⊎ (P ≡ 1024)) → is_listed (size_of P) ≡ true
size_listed P s = ⊎_elim (λ e. rw e) (λ t. ⊎_elim (λ e. rw e) (λ e. rw e) t) s

listed_size : (P : ℕ) → is_listed (size_of P) ≡ true → (P ≡ 64) ⊎ ((P ≡ 256) ⊎ (P ≡ 1024))
listed_size P e = go (size_of P) refl
  where
    one : (s : PageSize) → words_of s ≡ P → (P ≡ 64) ⊎ ((P ≡ 256) ⊎ (P ≡ 1024))
    one Small q = inl (sym q)
    one Medium q = inr (inl (sym q))
    one Large q = inr (inr (sym q))

    go : (s : Option PageSize) → size_of P ≡ s → (P ≡ 64) ⊎ ((P ≡ 256) ⊎ (P ≡ 1024))
    go (Some s) q = one s (size_words P s q)
    go None q = absurd (false≢true (sym (ap is_listed q) ∙ e))

module _ (a : Area) (f : List ℕ) (e : wrong_geometry a f ≡ false) where
  abbrev few : Bool
  few = leb 1 a.pages && leb a.pages 255

  abbrev known : Bool
  known = is_listed (size_of a.words)

  abbrev whole : Bool
  whole = eqb (length f) ((a.pages + 1) * a.words)

  is_few : few ≡ true
  unfolding wrong_geometry
  is_few = not-false few (nor_left (not few) (not known || not whole) e)

  others : not known || not whole ≡ false
  unfolding wrong_geometry
  others = nor_right (not few) (not known || not whole) e

  pub right_size : (a.words ≡ 64) ⊎ ((a.words ≡ 256) ⊎ (a.words ≡ 1024))
  right_size = listed_size a.words (not-false known (nor_left (not known) (not whole) others))

  pub right_long : length f ≡ (a.pages + 1) * a.words
  right_long = eqb-true (length f) ((a.pages + 1) * a.words) (not-false whole (nor_right (not known) (not whole) others))

  pub right_of : Right a f
  unfolding base
  right_of = record {
    some_pages = leb-true 1 a.pages (and_left (leb 1 a.pages) (leb a.pages 255) is_few);
    many = leb-true a.pages 255 (and_right (leb 1 a.pages) (leb a.pages 255) is_few);
    wide = ⊎_elim (λ q. omega arith) (λ t. ⊎_elim (λ q. omega arith) (λ q. omega arith) t) right_size;
    narrow = ⊎_elim (λ q. omega arith) (λ t. ⊎_elim (λ q. omega arith) (λ q. omega arith) t) right_size;
    listed = not-false known (nor_left (not known) (not whole) others);
    long = right_long ∙ ap (λ (u : ℕ). u * a.words) (add-one a.pages);
  }

-- and is no wrong one
pub right_passes : {a : Area} {f : List ℕ} → Right a f → wrong_geometry a f ≡ false
unfolding wrong_geometry base
right_passes {a} {f} r =
    let l : length f ≡ (a.pages + 1) * a.words = r.long ∙ ap (λ (u : ℕ). u * a.words) (sym (add-one a.pages)) in
    rw (le-leb 1 a.pages r.some_pages, le-leb a.pages 255 r.many, r.listed, eq-eqb (length f) ((a.pages + 1) * a.words) l)

pub right_at : {a : Area} {f : List ℕ} (g : List ℕ) → Right a f → length g ≡ length f → Right a g
right_at g r l = record { some_pages = r.some_pages; many = r.many; wide = r.wide; narrow = r.narrow; listed = r.listed; long = l ∙ r.long }

-- stores leave it right
pub right_ran : {a : Area} {ss : List Store} {p q : Power} {f g : List ℕ} → Ran ss p f q g → Right a f → Right a g
right_ran {g = g} x r = right_at g r (ran_length x)

pub base_in : {a : Area} {f : List ℕ} → Right a f → (i : ℕ) → i ≤ suc a.pages → base a i ≤ length f
base_in {a} r i h = rw r.long (base_le a i (suc a.pages) h)

pub page_in : {a : Area} {f : List ℕ} → Right a f → (i : ℕ) → i ≤ a.pages → base a (suc i) ≤ length f
page_in r i h = base_in r (suc i) (suc-le-suc h)
