-- The stores that lists are made of, and laws: words upward one by one, a copy inside the flash that reads each word when its turn comes,
-- a page's metadata, and a format. Assumes nothing.
use Rattle.std.specs.Prelude.{◌≡◌, refl, List, [], ◌∷◌, ◌++◌, ◌⊎◌, ℕ, suc, zero, ◌+◌, ◌-◌, ◌*◌, ◌≤◌, ◌<◌, length, get_or, take, drop, set, Option, Some, None}
use Rattle.std.proofs.Common.{ap, sym, ◌∙◌, inl, inr, ⊎_elim, arith, mul-le-mul_right, length-set, drop_of_length-le, drop-cons, drop-set-lt, Fits}
use Rattle.std.proofs.lemmas.List.{drop-set-add, take-set-le}
use Rattle.std.specs.Int.Bits.{bit_and}
use Rattle.std.specs.Int.{w64}
use Rattle.flash.specs.declared.Power.{Power}
use Rattle.flash.specs.Stores.{Store, put, wipe, stored, puts, Step, each, Ran}
use Rattle.flash.specs.Laws.{ran_none, ran_cons, ran_append, ran_then, ran_length, turn_start, turn_on, turn_end}
use Rattle.rules.specs.declared.Area.{Area}
use Rattle.rules.specs.Words.{meta0, meta1, seal}
use Rattle.rules.specs.Areas.{R, base, Entry, entries, live_of, find}
use Rattle.rules.specs.Lists.{erase, bare_if, erase_r, format_page, format_list}
use Rattle.rules.specs.Places.{Right, right_ran, base_suc, page_in}
use Rattle.entries.specs.Ahead.{found_of, found_inside}
use Rattle.rules.specs.declared.Found.{Found}

-- words 0 and 1 of page j as for page i
abbrev pub metadata : Area → ℕ → ℕ → List Store
metadata a j i = put (base a j) meta0 ∷ put (base a j + 1) (meta1 a.pages i) ∷ []

-- ---- places that can be counted
pub base_is : (a : Area) (i : ℕ) → i * a.words ≡ base a i
unfolding base
base_is a i = refl

module _ (a : Area) (i : ℕ) (w : a.words ≤ 1024) (h : i ≤ 255) where
  pub base_small : i * a.words ≤ 261120
  base_small = let k : i * a.words ≤ 255 * a.words = mul-le-mul_right a.words h in omega arith

  pub base_counts : Fits w64 (i * a.words)
  base_counts = record { fits = omega (arith, base_small) }

pub meta_is : (n i : ℕ) → 0xFFFF0000 + 256 * i + n ≡ meta1 n i
unfolding meta1
meta_is n i = refl

module _ {a : Area} {f : List ℕ} (r : Right a f) where
  pub words_small : a.words ≤ 1024
  words_small = r.narrow

  pub pages_small : a.pages ≤ 255
  pages_small = r.many

  pub index_small : {i : ℕ} → i ≤ a.pages → i ≤ 255
  index_small h = let m = r.many in omega arith

  pub index_below : {i : ℕ} → i < a.pages → i ≤ 255
  index_below h = let m = r.many in omega arith

-- a page lies inside the run
pub page_ends : {f : List ℕ} {b : ℕ} (a : Area) (i : ℕ) → Right a f → i < a.pages → b ≡ base a i → b + a.words ≤ length f
page_ends a i r h e = omega (arith, page_in r i (omega arith), base_suc a i)

pub run_small : {a : Area} {f : List ℕ} → Right a f → length f ≤ 262144
unfolding base
run_small {a} {f} r =
    let n = r.narrow in
    let m = r.many in
    let h : suc a.pages ≤ 256 = omega arith in
    let k : suc a.pages * a.words ≤ 256 * a.words = mul-le-mul_right a.words h in
    omega (arith, r.long)

-- ---- the header of what is found to its bare length
-- the number of the data words of what is found
abbrev pub data_words : Option Found → ℕ
data_words (Some e) = e.words
data_words None = 0

abbrev pub bare_found : Option Found → List Store
bare_found (Some e) = put e.place (e.words + 1) ∷ []
bare_found None = []

module _ {r : Option Found} {x : Found} (e : r ≡ Some x) where
  pub bare_at : {p q : Power} {f g : List ℕ} → Ran (put x.place (x.words + 1) ∷ []) p f q g → Ran (bare_found r) p f q g
  bare_at s = rw e s

  pub bare_words : {n : ℕ} → data_words r ≤ n → x.words ≤ n
  bare_words h = rw e at h

pub bare_none : {r : Option Found} {p : Power} {f : List ℕ} → r ≡ None → Ran (bare_found r) p f p f
bare_none {p = p} {f} e = rw e (ran_none p f)

pub ruleset bares = (bare_at, bare_words, bare_none)

-- no entry of the area has more words than can be counted
pub found_counted : {a : Area} {f : List ℕ} {r : Option Found} (h : ℕ) → r ≡ found_of (find h (entries a f)) → Right a f → data_words r ≤ 262144
found_counted {a} {f} {r} h e w = go r refl
  where
    go : (s : Option Found) → r ≡ s → data_words s ≤ 262144
    go (Some d) q = omega (arith, found_inside (live_of h) e q w, run_small w)
    go None q = omega arith

-- its store is the entry's
pub found_bare : (o : Option Entry) → bare_found (found_of o) ≡ bare_if o
found_bare None = refl
found_bare (Some e) = refl

-- ---- words upward, in two parts and one by one
pub puts_append : (at : ℕ) (x y : List ℕ) → puts at (x ++ y) ≡ puts at x ++ puts (at + length x) y
puts_append at [] y = let e : at + 0 ≡ at = omega arith in rw e
puts_append at (w ∷ x) y = let e : suc at + length x ≡ at + suc (length x) = omega arith in ap (λ (ss : List Store). put at w ∷ ss) (puts_append (suc at) x y ∙ rw e)

abbrev pub put_turn : ℕ → List ℕ → ℕ → Step
put_turn at d i f = put (at + i) (get_or d i 0) ∷ []

put_from : (at n i : ℕ) (d f : List ℕ) → n + i ≡ length d → each (put_turn at d) n i f ≡ puts (at + i) (drop i d)
put_from at zero i d f h = sym (ap (puts (at + i)) (drop_of_length-le d {i = i} (omega arith)))
put_from at (suc n) i d f h =
    let l : i < length d = omega arith in
    let e : at + suc i ≡ suc (at + i) = omega arith in
    ap (λ (ss : List Store). put (at + i) (get_or d i 0) ∷ ss) (put_from at n (suc i) d (stored f (at + i) (get_or d i 0)) (omega arith)) ∙ rw (drop-cons d i 0 l, e)

pub put_end : {p q : Power} {f g : List ℕ} (at : ℕ) (d : List ℕ) → Ran (each (put_turn at d) (length d) 0 f) p f q g → Ran (puts at d) p f q g
put_end {f = f} at d x =
    let e : at + 0 ≡ at = omega arith in
    rw (rw e at (put_from at (length d) 0 d f (omega arith))) at x

-- ---- a copy inside the flash, each word read when its turn comes: the places read are wholly before the places stored, or behind them
abbrev pub copy_turn : ℕ → ℕ → ℕ → Step
copy_turn from to i f = put (to + i) (get_or f (from + i) 0) ∷ []

take_drop_set : (n k to w : ℕ) (f : List ℕ) → (k + n ≤ to) ⊎ (to < k) → take n (drop k (set f to w)) ≡ take n (drop k f)
take_drop_set n k to w f (inr h) = rw (drop-set-lt k f to w)
take_drop_set n k to w f (inl h) =
    let e : to ≡ k + (to - k) = omega arith in
    let l : n ≤ to - k = omega arith in
    ap (λ (t : ℕ). take n (drop k (set f t w))) e ∙ rw (drop-set-add k f (to - k) w, take-set-le n (drop k f) (to - k) w)

copy_from : (from to n i : ℕ) (f : List ℕ) → from + i + n ≤ length f → (from + i + n ≤ to) ⊎ (to ≤ from)
    → each (copy_turn from to) n i f ≡ puts (to + i) (take n (drop (from + i) f))
unfolding stored
copy_from from to zero i f h d = refl
copy_from from to (suc n) i f h d =
    let w = get_or f (from + i) 0 in
    let g = stored f (to + i) w in
    let k : from + i < length f = omega arith in
    let c : (from + suc i + n ≤ to) ⊎ (to ≤ from) = ⊎_elim (λ x. inl (omega arith)) (λ x. inr x) d in
    let b : (from + suc i + n ≤ to + i) ⊎ (to + i < from + suc i) = ⊎_elim (λ x. inl (omega arith)) (λ x. inr (omega arith)) d in
    let l : from + suc i + n ≤ length g = simp length-set (omega arith) in
    let e : to + suc i ≡ suc (to + i) = omega arith in
    let u : from + suc i ≡ suc (from + i) = omega arith in
    ap (λ (ss : List Store). put (to + i) w ∷ ss) (copy_from from to n (suc i) g l c)
    ∙ rw (take_drop_set n (from + suc i) (to + i) (bit_and (get_or f (to + i) 0) w) f b, drop-cons f (from + i) 0 k, e, u)

pub copy_end : {p q : Power} {f g : List ℕ} (from to n : ℕ) → Ran (each (copy_turn from to) n 0 f) p f q g → from + n ≤ length f → (from + n ≤ to) ⊎ (to ≤ from)
    → Ran (puts to (take n (drop from f))) p f q g
copy_end {f = f} from to n x h d =
    let e : from + 0 ≡ from = omega arith in
    let u : to + 0 ≡ to = omega arith in
    rw (rw (e, u) at (copy_from from to n 0 f (rw e h) (rw e d))) at x

-- ---- metadata, an erased page, a format
module _ (a : Area) {p q r : Power} {f g h : List ℕ} where
  pub metadata_made : {b m : ℕ} (j i : ℕ) → Ran (put b meta0 ∷ []) p f q g → Ran (put (b + 1) m ∷ []) q g r h → b ≡ base a j → m ≡ meta1 a.pages i
      → Ran (metadata a j i) p f r h
  metadata_made j i x y e d = ran_cons (rw e at x) (rw (e, d) at y)

  pub page_formatted : {s : Power} {k : List ℕ} {b : ℕ} (i : ℕ) → Ran (erase a i ∷ []) p f q g → Ran (metadata a i i) q g r h → Ran (put (b + 2) seal ∷ []) r h s k → b ≡ base a i
      → Ran (format_page a i f) p f s k
  page_formatted i x y z e = ran_cons x (ran_append y (rw e at z))

  pub all_formatted : Ran (erase a (R a) ∷ []) p f q g → Ran (each (format_page a) a.pages 0 g) q g r h → Ran (format_list a f) p f r h
  all_formatted x y = ran_then (erase_r a) (each (format_page a) a.pages 0) x y

pub page_erased : {p q : Power} {f g : List ℕ} {b : ℕ} (a : Area) (i : ℕ) → Ran (wipe b a.words ∷ []) p f q g → b ≡ base a i → Ran (erase a i ∷ []) p f q g
page_erased a i x e = rw e at x

pub ruleset places = (base_counts, base_is, base_small, meta_is, words_small, pages_small, index_small, index_below, page_ends)

pub ruleset makings = (turn_start, turn_on, turn_end, put_end, copy_end, metadata_made, page_erased, page_formatted, all_formatted, right_ran, ran_length, places)
