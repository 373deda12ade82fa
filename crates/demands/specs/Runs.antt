-- Runs of pages: a right geometry, the words of a page, and what lists of stores make of one page, a copy to a blank one among them, while
-- the rest stays as it was. Assumes nothing.
use Rattle.std.specs.Prelude.{◌≡◌, refl, Bool, true, false, ◌≢◌, ◌⊎◌, ℕ, suc, zero, ◌+◌, ◌-◌, ◌*◌, ◌^◌, ◌≤◌, ◌<◌, length, get_or, drop, set}
use Rattle.std.proofs.Math.Path.{ap}
use Rattle.std.proofs.Common.{sym, ◌∙◌, inl, inr, ⊎_elim, mod-eq_of_lt, eq-or-lt_of_le, length-append, length-take, length-set, drop_of_length-le, take_all, take-add, drop-set-lt, le-leb, eq-eqb}
use mathlib.Core.List.{List, [], ◌∷◌, ◌++◌, append_assoc, append-nil}
use native.Mathlib.Omega.{arith}
use Rattle.std.proofs.Math.ListN.{take}
use Rattle.std.proofs.lemmas.List.{length-replicate, replicate-append-replicate, drop-set-add, get_or_at, set_at, take-append-le}
use Rattle.std.proofs.Math.Seq.{take-set-le, take-set-lt, take-append-add}
use Rattle.std.proofs.lemmas.List.Edits.{sets, sets-eq}
use Rattle.std.specs.Int.Bits.{bit_and}
use Rattle.std.proofs.lemmas.Nat.{and_mask, and_comm}
use Rattle.flash.specs.Stores.{blank, Words, none, more, Store, put, stored, wiped, made, puts}
use Rattle.flash.specs.Laws.{made_append, le_or_lt}
use Rattle.rules.specs.declared.Area.{Area}
use Rattle.rules.specs.Words.{meta0, meta1}
use Rattle.rules.specs.Areas.{R, base, page, every}
use Rattle.rules.specs.Refusals.{wrong_geometry}
use Rattle.rules.specs.Lists.{erase, copy_to}
use Rattle.rules.specs.Laws.{and_left, and_right}
use Rattle.rules.specs.Places.{base_suc, base_zero, base_le, length_page, page_word, Right, size_listed, right_size, right_long, right_of, right_at}
use Rattle.demands.specs.Terms.{Given, Fair, fair_end, fair_put, fair_wipe, blanks}
use Rattle.demands.specs.Stages.{fair_append}

pub same_or_not : (i j : ℕ) → (i ≡ j) ⊎ (i ≢ j)
same_or_not zero zero = inl refl
same_or_not zero (suc j) = inr (λ e. omega arith)
same_or_not (suc i) zero = inr (λ e. omega arith)
same_or_not (suc i) (suc j) = ⊎_elim (λ e. inl (ap suc e)) (λ n. inr (λ e. n (omega arith))) (same_or_not i j)

over_blank : (w : ℕ) → w ≤ blank → bit_and blank w ≡ w
over_blank w h = let k : w < 2 ^ 32 = omega arith in and_comm blank w ∙ and_mask w 32 ∙ mod-eq_of_lt k

pub meta_low : (n i : ℕ) → i < n → n ≤ 255 → meta1 n i < blank
unfolding meta1
meta_low n i h l = omega arith

-- ---- lists of stores
pub take_puts : (k at : ℕ) (ws : List ℕ) → take k (puts at ws) ≡ puts at (take k ws)
take_puts zero at ws = refl
take_puts (suc k) at [] = refl
take_puts (suc k) at (w ∷ ws) = ap (λ (u : List Store). put at w ∷ u) (take_puts k (suc at) ws)

pub length_puts : (at : ℕ) (ws : List ℕ) → length (puts at ws) ≡ length ws
length_puts at [] = refl
length_puts at (w ∷ ws) = ap suc (length_puts (suc at) ws)

-- ---- lists of 32-bit words
pub words_take : (k : ℕ) {ws : List ℕ} → Words ws → Words (take k ws)
words_take zero q = none
words_take (suc k) none = none
words_take (suc k) (more b bs) = more b (words_take k bs)

pub words_drop : (k : ℕ) {ws : List ℕ} → Words ws → Words (drop k ws)
words_drop zero q = q
words_drop (suc k) none = none
words_drop (suc k) (more b bs) = words_drop k bs

pub words_append : {x y : List ℕ} → Words x → Words y → Words (x ++ y)
words_append none q = q
words_append (more b bs) q = more b (words_append bs q)

pub words_left : (x y : List ℕ) → Words (x ++ y) → Words x
words_left [] y q = none
words_left (c ∷ x) y (more b bs) = more b (words_left x y bs)

pub words_right : (x : List ℕ) {y : List ℕ} → Words (x ++ y) → Words y
words_right [] q = q
words_right (c ∷ x) (more b bs) = words_right x bs

pub words_page : (a : Area) (f : List ℕ) (i : ℕ) → Words f → Words (page a f i)
unfolding page
words_page a f i q = words_take a.words (words_drop (base a i) q)

-- ---- flash of 32-bit words and a right geometry, as the rules test it
pub record Usable (a : Area) (f : List ℕ) : Type 0 where
  pub words : Words f
  pub right : wrong_geometry a f ≡ false

pub usable : {a : Area} {f : List ℕ} → Given a f → Usable a f
unfolding wrong_geometry
usable {a} {f} g = record {
  words = g.words;
  right = rw (le-leb 1 a.pages g.some_pages, le-leb a.pages 255 g.few_pages, size_listed a.words g.size, eq-eqb (length f) ((a.pages + 1) * a.words) g.long);
}

pub shape_of : {a : Area} {f : List ℕ} → Usable a f → Right a f
shape_of {a} {f} u = right_of a f u.right

pub given_of : {a : Area} {f : List ℕ} → Usable a f → Given a f
given_of {a} {f} u =
    let r = shape_of u in
    record { words = u.words; some_pages = r.some_pages; few_pages = r.many; size = right_size a f u.right; long = right_long a f u.right }

pub right_wrong : (a : Area) (f g : List ℕ) → wrong_geometry a f ≡ false → length g ≡ length f → wrong_geometry a g ≡ false
unfolding wrong_geometry
right_wrong a f g e l = rw l e

-- ---- g is f with page i turned to x
pub record Only (a : Area) (f g : List ℕ) (i : ℕ) (x : List ℕ) : Type 0 where
  pub long : length g ≡ length f
  pub here : page a g i ≡ x
  pub there : (j : ℕ) → i ≢ j → page a g j ≡ page a f j

pub only_self : (a : Area) (f : List ℕ) (i : ℕ) → Only a f f i (page a f i)
only_self a f i = record { long = refl; here = refl; there = λ j n. refl }

pub only_as : {a : Area} {f g : List ℕ} {i : ℕ} {x y : List ℕ} → Only a f g i x → x ≡ y → Only a f g i y
only_as o e = record { long = o.long; here = o.here ∙ e; there = o.there }

pub only_trans : {a : Area} {f g k : List ℕ} {i : ℕ} {x y : List ℕ} → Only a f g i x → Only a g k i y → Only a f k i y
only_trans p q = record { long = q.long ∙ p.long; here = q.here; there = λ j n. q.there j n ∙ p.there j n }

-- a run is its pages
same_front : (a : Area) (f g : List ℕ) (k : ℕ) → ((j : ℕ) → j < k → page a f j ≡ page a g j) → take (base a k) f ≡ take (base a k) g
unfolding page
same_front a f g zero h = rw (base_zero a)
same_front a f g (suc k) h =
    rw (base_suc a k, take-add (base a k) a.words f, take-add (base a k) a.words g, h k (omega arith))
    (ap (λ (x : List ℕ). x ++ take a.words (drop (base a k) g)) (same_front a f g k (λ j b. h j (omega arith))))

same_run : (a : Area) (f g : List ℕ) (k : ℕ) → length f ≡ base a k → length g ≡ base a k
    → ((j : ℕ) → j < k → page a f j ≡ page a g j) → f ≡ g
same_run a f g k lf lg h = sym (take_all (base a k) f (omega arith)) ∙ same_front a f g k h ∙ take_all (base a k) g (omega arith)

same_pages : {a : Area} {f g : List ℕ} → Right a f → length g ≡ length f
    → ((j : ℕ) → j ≤ a.pages → page a g j ≡ page a f j) → g ≡ f
same_pages {a} {f} {g} r l h = same_run a g f (suc a.pages) (l ∙ r.long) r.long (λ j b. h j (omega arith))

pub only_same : {a : Area} {f g k : List ℕ} {i : ℕ} {x : List ℕ} → Right a f → Only a f g i x → Only a f k i x → g ≡ k
only_same {a} {f} {g} {k} {i} r p q =
    same_pages (right_at k r q.long) (p.long ∙ sym q.long)
    (λ j b. ⊎_elim (λ e. rw (← e) (p.here ∙ sym q.here)) (λ n. p.there j n ∙ sym (q.there j n)) (same_or_not i j))

-- ---- words set inside a page
module _ (a : Area) where
  set_same : (f : List ℕ) (i at w : ℕ) → at < a.words → page a (set f (base a i + at) w) i ≡ set (page a f i) at w
  unfolding page
  set_same f i at w h = rw (drop-set-add (base a i) f at w) (take-set-lt a.words (drop (base a i) f) at w h)

  set_before : (f : List ℕ) (j p w : ℕ) → base a (suc j) ≤ p → page a (set f p w) j ≡ page a f j
  unfolding page
  set_before f j p w h =
      let s = base_suc a j in
      let z : p ≡ base a j + (p - base a j) = omega arith in
      ap (λ (u : ℕ). take a.words (drop (base a j) (set f u w))) z
      ∙ ap (λ (u : List ℕ). take a.words u) (drop-set-add (base a j) f (p - base a j) w)
      ∙ take-set-le a.words (drop (base a j) f) (p - base a j) w (omega arith)

  set_behind : (f : List ℕ) (j p w : ℕ) → p < base a j → page a (set f p w) j ≡ page a f j
  unfolding page
  set_behind f j p w h = rw (drop-set-lt (base a j) f p w h)

  set_other : (f : List ℕ) (i j at w : ℕ) → i ≢ j → at < a.words → page a (set f (base a i + at) w) j ≡ page a f j
  set_other f i j at w n h = ⊎_elim behind before (le_or_lt (suc i) j)
    where
      behind : suc i ≤ j → page a (set f (base a i + at) w) j ≡ page a f j
      behind l = let k = base_le a (suc i) j l in let s = base_suc a i in set_behind f j (base a i + at) w (omega arith)

      before : j < suc i → page a (set f (base a i + at) w) j ≡ page a f j
      before l = let k = base_le a (suc j) i (omega arith) in set_before f j (base a i + at) w (omega arith)

  only_set : (f : List ℕ) (i at w : ℕ) → at < a.words → Only a f (set f (base a i + at) w) i (set (page a f i) at w)
  only_set f i at w h = record { long = length-set f (base a i + at) w; here = set_same f i at w h; there = λ j n. set_other f i j at w n h }

  only_sets : (f : List ℕ) (i at : ℕ) (ws : List ℕ) → at + length ws ≤ a.words → Only a f (sets f (base a i + at) ws) i (sets (page a f i) at ws)
  only_sets f i at [] h = only_self a f i
  only_sets f i at (w ∷ ws) h =
      let z : suc (base a i + at) ≡ base a i + suc at = omega arith in
      let o = only_set f i at w (omega arith) in
      rw z (only_trans o (only_as (only_sets (set f (base a i + at) w) i (suc at) ws (omega arith)) (ap (λ (u : List ℕ). sets u (suc at) ws) o.here)))

sets_all : (f ws : List ℕ) → length ws ≡ length f → sets f 0 ws ≡ ws
sets_all f ws e =
    let n : drop (0 + length ws) f ≡ [] = drop_of_length-le f {i = 0 + length ws} (omega arith) in
    sets-eq ws f 0 (omega arith) ∙ ap (λ (u : List ℕ). ws ++ u) n ∙ append-nil ws

-- ---- stores inside one page
-- made on any flash whose page i is x, the stores ss are fair, leave page i as y, and the rest as it was
pub record Turns (a : Area) (i : ℕ) (ss : List Store) (x y : List ℕ) : Type 0 where
  pub on : (g : List ℕ) → base a (suc i) ≤ length g → page a g i ≡ x → Fair a ss g × Only a g (made ss g) i y

pub turns_none : (a : Area) (i : ℕ) (x : List ℕ) → Turns a i [] x x
turns_none a i x = record { on = λ g l e. (fair_end, only_as (only_self a g i) e) }

pub turns_as : {a : Area} {i : ℕ} {ss : List Store} {x x' y y' : List ℕ} → x' ≡ x → y ≡ y' → Turns a i ss x y → Turns a i ss x' y'
turns_as p q t = record { on = λ g l e. let r = t.on g l (e ∙ p) in (r.0, only_as r.1 q) }

pub turns_then : {a : Area} {i : ℕ} {ss tt : List Store} {x y z : List ℕ} → Turns a i ss x y → Turns a i tt y z → Turns a i (ss ++ tt) x z
turns_then {a} {i} {ss} {tt} {x} {z = z} s t = record { on = both }
  where
    both : (g : List ℕ) → base a (suc i) ≤ length g → page a g i ≡ x
        → Fair a (ss ++ tt) g × Only a g (made (ss ++ tt) g) i z
    both g l e =
        let p = s.on g l e in
        let o = p.1 in
        let q = t.on (made ss g) (rw o.long l) o.here in
        (fair_append p.0 q.0, rw (made_append ss tt g) (only_trans o q.1))

pub turns_put : (a : Area) (i : ℕ) (u : List ℕ) (y : ℕ) (v : List ℕ) (p w : ℕ) → p ≡ base a i + length u → bit_and y w ≡ w
    → Turns a i (put p w ∷ []) (u ++ y ∷ v) (u ++ w ∷ v)
unfolding stored
turns_put a i u y v p w d c = record { on = stores }
  where
    stores : (g : List ℕ) → base a (suc i) ≤ length g → page a g i ≡ u ++ y ∷ v
        → Fair a (put p w ∷ []) g × Only a g (stored g p w) i (u ++ w ∷ v)
    stores g l e =
        let s = base_suc a i in
        let n : length u + suc (length v) ≡ a.words = sym (length-append u (y ∷ v)) ∙ sym (ap length e) ∙ length_page a g i l in
        let h : length u < a.words = omega arith in
        let k : bit_and (get_or g p 0) w ≡ w = rw (d, page_word a g i (length u) h, e, get_or_at u y v 0 (length u) refl) c in
        let b : p < length g = omega arith in
        (fair_put b k fair_end, rw (k, d) (only_as (only_set a g i (length u) w h) (rw e (set_at u y v w (length u) refl))))

pub turns_fill : (a : Area) (i : ℕ) (u ws v : List ℕ) (p : ℕ) → p ≡ base a i + length u → Words ws
    → Turns a i (puts p ws) (u ++ (blanks (length ws) ++ v)) (u ++ (ws ++ v))
turns_fill a i u [] v p d none = turns_none a i (u ++ v)
turns_fill a i u (w ∷ ws) v p d (more b bs) =
    let n : suc p ≡ base a i + length (u ++ (w ∷ [])) = simp length-append (omega arith) in
    let r = turns_fill a i (u ++ (w ∷ [])) ws v (suc p) n bs in
    turns_then (turns_put a i u blank (blanks (length ws) ++ v) p w d (over_blank w b))
    (turns_as (sym (append_assoc u (w ∷ []) (blanks (length ws) ++ v))) (append_assoc u (w ∷ []) (ws ++ v)) r)

pub turns_wipe : (a : Area) (i : ℕ) (x : List ℕ) → i ≤ R a → Turns a i (erase a i ∷ []) x (blanks a.words)
unfolding wiped
turns_wipe a i x k = record { on = wipes }
  where
    wipes : (g : List ℕ) → base a (suc i) ≤ length g → page a g i ≡ x
        → Fair a (erase a i ∷ []) g × Only a g (wiped g (base a i) a.words) i (blanks a.words)
    wipes g l e =
        let s = base_suc a i in
        let n : length (blanks a.words) ≡ a.words = length-replicate a.words blank in
        let b : base a i + a.words ≤ length g = omega arith in
        let z : base a i + 0 ≡ base a i = omega arith in
        let o = only_sets a g i 0 (blanks a.words) (omega arith) in
        (fair_wipe k b fair_end, rw z at (only_as o (sets_all (page a g i) (blanks a.words) (n ∙ sym (length_page a g i l)))))

-- ---- words copied to a blank page
module _ (a : Area) (j i : ℕ) (ws : List ℕ) (m : ℕ) (low : meta1 a.pages i ≤ blank) (v : Words ws) (size : a.words ≡ 2 + (length ws + m)) where
  abbrev to_copy : List Store
  to_copy = puts (base a j + 2) ws

  -- blank words, as far as the first k of the words reach
  blank_parts : (k : ℕ) → k ≤ length ws → blanks a.words ≡ (blank ∷ (blank ∷ [])) ++ (blanks (length (take k ws)) ++ blanks (length ws - k + m))
  blank_parts k h =
      let l : length (take k ws) ≡ k = simp length-take (omega arith) in
      let z : a.words ≡ suc (suc (k + (length ws - k + m))) = omega arith in
      rw (l, replicate-append-replicate k (length ws - k + m) blank) (ap blanks z)

  filled : (k : ℕ) → k ≤ length ws → Turns a j (puts (base a j + 2) (take k ws)) (blanks a.words) (blank ∷ (blank ∷ (take k ws ++ blanks (length ws - k + m))))
  filled k h = turns_as (blank_parts k h) refl (turns_fill a j (blank ∷ (blank ∷ [])) (take k ws) (blanks (length ws - k + m)) (base a j + 2) refl (words_take k v))

  -- all of them, and word 0
  headed : Turns a j (to_copy ++ put (base a j) meta0 ∷ []) (blanks a.words) (meta0 ∷ (blank ∷ (ws ++ blanks m)))
  headed =
      let t : take (length ws) ws ≡ ws = take_all (length ws) ws (omega arith) in
      let z : length ws - length ws + m ≡ m = omega arith in
      let f = filled (length ws) (omega arith) in
      turns_then (rw (t, z) at f) (turns_put a j [] blank (blank ∷ (ws ++ blanks m)) (base a j) meta0 (omega arith) refl)

  -- and word 1
  pub copied : Turns a j (copy_to a j i ws) (blanks a.words) (meta0 ∷ (meta1 a.pages i ∷ (ws ++ blanks m)))
  copied =
      let t = turns_then headed (turns_put a j (meta0 ∷ []) blank (ws ++ blanks m) (base a j + 1) (meta1 a.pages i) refl (over_blank (meta1 a.pages i) low)) in
      rw (append_assoc to_copy (put (base a j) meta0 ∷ []) (put (base a j + 1) (meta1 a.pages i) ∷ [])) at t

  -- the first k stores; word 1 is blank before the last
  pub record Part (k : ℕ) : Type 0 where
    pub page : List ℕ
    pub turns : Turns a j (take k (copy_to a j i ws)) (blanks a.words) page
    pub uncommitted : k < length ws + 2 → get_or page 1 0 ≡ blank

  pub part : (k : ℕ) → Part k
  part k = ⊎_elim few (λ l. ⊎_elim (λ q. all q) (λ q. one (omega arith)) (le_or_lt (length ws + 2) k)) (le_or_lt k (length ws))
    where
      lp : length to_copy ≡ length ws
      lp = length_puts (base a j + 2) ws

      few : k ≤ length ws → Part k
      few h =
          let t : take k (copy_to a j i ws) ≡ puts (base a j + 2) (take k ws) =
          take-append-le k to_copy (put (base a j) meta0 ∷ (put (base a j + 1) (meta1 a.pages i) ∷ [])) (omega (arith, lp)) ∙ take_puts k (base a j + 2) ws in
          record { page = blank ∷ (blank ∷ (take k ws ++ blanks (length ws - k + m))); turns = rw t (filled k h); uncommitted = λ q. refl }

      one : k ≡ length ws + 1 → Part k
      one h =
          let z : k ≡ length to_copy + 1 = omega (arith, lp) in
          let t : take k (copy_to a j i ws) ≡ to_copy ++ put (base a j) meta0 ∷ [] =
          ap (λ (u : ℕ). take u (copy_to a j i ws)) z ∙ take-append-add to_copy (put (base a j) meta0 ∷ (put (base a j + 1) (meta1 a.pages i) ∷ [])) 1 in
          record { page = meta0 ∷ (blank ∷ (ws ++ blanks m)); turns = rw t headed; uncommitted = λ q. refl }

      all : length ws + 2 ≤ k → Part k
      all h =
          let l = length-append to_copy (put (base a j) meta0 ∷ (put (base a j + 1) (meta1 a.pages i) ∷ [])) in
          let t : take k (copy_to a j i ws) ≡ copy_to a j i ws = take_all k (copy_to a j i ws) (omega (arith, lp)) in
          record { page = meta0 ∷ (meta1 a.pages i ∷ (ws ++ blanks m)); turns = rw t copied; uncommitted = λ q. absurd (omega arith) }

-- ---- tests over pages
pub every_true : (t : ℕ → Bool) (k i : ℕ) → every t k i ≡ true → (j : ℕ) → i ≤ j → j < i + k → t j ≡ true
every_true t zero i e j lo hi = absurd (let z : ⊥ = omega arith in z)
every_true t (suc k) i e j lo hi =
    ⊎_elim (λ q. rw (← q) (and_left (t i) (every t k (suc i)) e))
    (λ l. every_true t k (suc i) (and_right (t i) (every t k (suc i)) e) j l (omega arith))
    (eq-or-lt_of_le lo)

pub true_every : (t : ℕ → Bool) (k i : ℕ) → ((j : ℕ) → i ≤ j → j < i + k → t j ≡ true) → every t k i ≡ true
true_every t zero i h = refl
true_every t (suc k) i h = rw (h i (omega arith) (omega arith)) (true_every t k (suc i) (λ j lo hi. h j (omega arith) (omega arith)))
