-- Lists of entries: the data, the doubles and the live words of a list in which an entry is put in, invalidated, superseded or copied.
-- Assumes nothing.
use Rattle.std.specs.Prelude.{◌≡◌, refl, ◌⊎◌, Bool, true, false, cond, ◌&&◌, ◌||◌, ℕ, ◌+◌, length, eqb, Option, Some, None, is_none}
use Rattle.std.proofs.Common.{ap, sym, ◌∙◌, ⊎_elim, inl, inr, true≢false, arith, length-append, eqb-true, eq-eqb}
use mathlib.Core.List.{List, [], ◌∷◌, ◌++◌, append_assoc, nil≢cons, head-eq_of_cons-eq, tail-eq_of_cons-eq}
use Rattle.std.proofs.Math.Bool.{or-true}
use Rattle.std.proofs.lemmas.Bool.{eqb-false}
use Rattle.flash.specs.Stores.{Store}
use Rattle.rules.specs.Words.{is_live}
use Rattle.rules.specs.Walk.{Item, entry_length, codes}
use Rattle.rules.specs.Areas.{Entry, placed, any_of, first_of, live_of, doubled, twice, find, data_of, live_words}
use Rattle.rules.specs.Lists.{bare, keep_live, supersede}
use Rattle.rules.specs.Laws.{and_left, and_right, nor_left, nor_right, live_append}
use Rattle.demands.specs.Terms.{last_live}
use Rattle.std.specs.Option.{option_or}

-- an entry whose header is its bare length
abbrev pub zeroed : Entry → Entry
zeroed e = record { place = e.place; handle = 0; words = e.words }

-- the data of a handle
abbrev pub look : ℕ → List Entry → Option (List ℕ)
look h es = data_of (find h es)

-- ---- tests
untrue : (b : Bool) → (b ≡ true → ⊥) → b ≡ false
untrue true h = absurd (h refl)
untrue false h = refl

-- ---- one entry
live_handle : (h : ℕ) (e : Entry) → live_of h e ≡ true → (is_live h ≡ true) × (e.handle ≡ h)
live_handle h e q = (and_left (is_live h) _ q, eqb-true e.handle h (and_right (is_live h) _ q))

pub live_mine : (h : ℕ) (e : Entry) → is_live h ≡ true → e.handle ≡ h → live_of h e ≡ true
live_mine h e q k = rw q (eq-eqb e.handle h k)

live_self : (h : ℕ) (e : Entry) → live_of h e ≡ true → is_live e.handle ≡ true
live_self h e q = let t = live_handle h e q in ap is_live t.1 ∙ t.0

pub dead_never : (h : ℕ) (e : Entry) → is_live e.handle ≡ false → live_of h e ≡ false
dead_never h e q = untrue (live_of h e) (λ p. true≢false (sym (live_self h e p) ∙ q))

pub zeroed_dead : (h : ℕ) (e : Entry) → live_of h (zeroed e) ≡ false
zeroed_dead h e = dead_never h (zeroed e) refl

other_never : (h : ℕ) (e : Entry) → eqb h e.handle ≡ false → live_of h e ≡ false
other_never h e q = untrue (live_of h e) (λ p. eqb-false h e.handle q (sym (live_handle h e p).1))

live_turn : (c e : Entry) → live_of e.handle c ≡ false → live_of c.handle e ≡ false
live_turn c e q =
    untrue (live_of c.handle e)
    (λ p. true≢false (sym (live_mine e.handle c (live_self c.handle e p) (sym (live_handle c.handle e p).1)) ∙ q))

-- ---- any_of and first_of
pub any_skip : (t : Entry → Bool) (x : List Entry) (e : Entry) (y : List Entry) → t e ≡ false → any_of t (x ++ e ∷ y) ≡ any_of t (x ++ y)
any_skip t [] e y q = rw q
any_skip t (c ∷ x) e y q = rw (any_skip t x e y q)

first_skip : (t : Entry → Bool) (x : List Entry) (e : Entry) (y : List Entry) → t e ≡ false → first_of t (x ++ e ∷ y) ≡ first_of t (x ++ y)
first_skip t [] e y q = rw q
first_skip t (c ∷ x) e y q = rw (first_skip t x e y q)

any_right : (t : Entry → Bool) (x y : List Entry) → any_of t y ≡ true → any_of t (x ++ y) ≡ true
any_right t [] y q = q
any_right t (c ∷ x) y q = rw (any_right t x y q) (or-true (t c))

pub any_at : (t : Entry → Bool) (x : List Entry) (e : Entry) (y : List Entry) → t e ≡ true → any_of t (x ++ e ∷ y) ≡ true
any_at t x e y q = any_right t x (e ∷ y) (rw q)

none_at : (t : Entry → Bool) (x : List Entry) (e : Entry) (y : List Entry) → any_of t (x ++ e ∷ y) ≡ false → t e ≡ false
none_at t x e y q = untrue (t e) (λ p. true≢false (sym (any_at t x e y p) ∙ q))

none_drop : (t : Entry → Bool) (x : List Entry) (e : Entry) (y : List Entry) → any_of t (x ++ e ∷ y) ≡ false → any_of t (x ++ y) ≡ false
none_drop t x e y q = sym (any_skip t x e y (none_at t x e y q)) ∙ q

none_dead : (h : ℕ) (x : List Entry) → is_live h ≡ false → any_of (live_of h) x ≡ false
none_dead h [] q = refl
none_dead h (c ∷ x) q = rw q (none_dead h x q)

first_at : (t : Entry → Bool) (x : List Entry) (e : Entry) (y : List Entry) → t e ≡ true → any_of t (x ++ y) ≡ false → first_of t (x ++ e ∷ y) ≡ Some e
first_at t [] e y p q = rw p
first_at t (c ∷ x) e y p q = rw (nor_left (t c) _ q) (first_at t x e y p (nor_right (t c) _ q))

pub first_some : (t : Entry → Bool) (x : List Entry) (e : Entry) → first_of t x ≡ Some e → (pre suf : List Entry) × (x ≡ pre ++ e ∷ suf) × (t e ≡ true)
first_some t [] e q = absurd (let z : ◌≡◌ {A = ℕ} 0 1 = cc in omega arith)
first_some t (c ∷ x) e q = go (t c) refl q (first_some t x e)
  where
    go : (b : Bool) → t c ≡ b → cond b (Some c) (first_of t x) ≡ Some e
        → (first_of t x ≡ Some e → (pre suf : List Entry) × (x ≡ pre ++ e ∷ suf) × (t e ≡ true)) → (pre suf : List Entry) × (c ∷ x ≡ pre ++ e ∷ suf) × (t e ≡ true)
    go true r q ih = let k : c ≡ e = cc in ([], x, ap (λ (u : Entry). u ∷ x) k, ap t (sym k) ∙ r)
    go false r q ih = let n = ih q in (c ∷ n.0, n.1, ap (λ (u : List Entry). c ∷ u) n.2, n.3)

pub find_some : (h : ℕ) (x : List Entry) (e : Entry) → find h x ≡ Some e → (p s : List Entry) × (x ≡ p ++ e ∷ s) × (e.handle ≡ h) × (is_live h ≡ true)
find_some h x e q =
    let r = first_some (live_of h) x e q in
    let l = live_handle h e r.3 in
    (r.0, r.1, r.2, l.1, l.0)

pub any_some : (t : Entry → Bool) (x : List Entry) → any_of t x ≡ true → (pre : List Entry) × (e : Entry) × (suf : List Entry) × (x ≡ pre ++ e ∷ suf) × (t e ≡ true)
any_some t [] q = absurd (true≢false (sym q))
any_some t (c ∷ x) q = go (t c) refl q (any_some t x)
  where
    go : (b : Bool) → t c ≡ b → b || any_of t x ≡ true → (any_of t x ≡ true → (pre : List Entry) × (e : Entry) × (suf : List Entry) × (x ≡ pre ++ e ∷ suf) × (t e ≡ true))
        → (pre : List Entry) × (e : Entry) × (suf : List Entry) × (c ∷ x ≡ pre ++ e ∷ suf) × (t e ≡ true)
    go true r q ih = ([], c, x, refl, r)
    go false r q ih = let w = ih q in (c ∷ w.0, w.1, w.2, ap (λ (u : List Entry). c ∷ u) w.3, w.4)

-- what is found, and its data
pub found_some : (o : Option Entry) → is_none o ≡ false → (e : Entry) × (o ≡ Some e)
found_some None q = absurd (true≢false q)
found_some (Some e) q = (e, refl)

pub data_some : (o : Option Entry) (d : List ℕ) → data_of o ≡ Some d → (e : Entry) × (o ≡ Some e) × (e.words ≡ d)
data_some None d q = absurd (let z : ◌≡◌ {A = ℕ} 0 1 = cc in omega arith)
data_some (Some e) d q = (e, refl, cc)

pub data_none : (o : Option Entry) → data_of o ≡ None → o ≡ None
data_none None q = refl
data_none (Some e) q = absurd (let z : ◌≡◌ {A = ℕ} 0 1 = cc in omega arith)

pub find_none : (h : ℕ) (x : List Entry) → find h x ≡ None → any_of (live_of h) x ≡ false
find_none h [] q = refl
find_none h (c ∷ x) q = go (live_of h c) refl q (find_none h x)
  where
    go : (b : Bool) → live_of h c ≡ b → cond b (Some c) (find h x) ≡ None → (find h x ≡ None → any_of (live_of h) x ≡ false) → any_of (live_of h) (c ∷ x) ≡ false
    go true r q ih = absurd (let z : ◌≡◌ {A = ℕ} 0 1 = cc in omega arith)
    go false r q ih = rw r (ih q)

none_find : (h : ℕ) (x : List Entry) → any_of (live_of h) x ≡ false → find h x ≡ None
none_find h [] q = refl
none_find h (c ∷ x) q = rw (nor_left (live_of h c) _ q) (none_find h x (nor_right (live_of h c) _ q))

-- ---- twice
pub once_insert : (x : List Entry) (e : Entry) (y : List Entry) → any_of (live_of e.handle) (x ++ y) ≡ false → twice (x ++ y) ≡ false → twice (x ++ e ∷ y) ≡ false
once_insert [] e y q t = rw (q, t)
once_insert (c ∷ x) e y q t =
    let a = nor_left (live_of e.handle c) _ q in
    let b = nor_right (live_of e.handle c) _ q in
    let u = nor_left (doubled c (x ++ y)) _ t in
    let v = nor_right (doubled c (x ++ y)) _ t in
    rw (any_skip (live_of c.handle) x e y (live_turn c e a), u) (once_insert x e y b v)

pub once_drop : (x : List Entry) (e : Entry) (y : List Entry) → twice (x ++ e ∷ y) ≡ false → twice (x ++ y) ≡ false
once_drop [] e y t = nor_right (doubled e y) _ t
once_drop (c ∷ x) e y t =
    let u = nor_left (doubled c (x ++ e ∷ y)) _ t in
    let v = nor_right (doubled c (x ++ e ∷ y)) _ t in
    rw (none_drop (live_of c.handle) x e y u) (once_drop x e y v)

-- the handle of a live entry is live nowhere else
pub once_apart : (x : List Entry) (e : Entry) (y : List Entry) → twice (x ++ e ∷ y) ≡ false → any_of (live_of e.handle) (x ++ y) ≡ false
once_apart [] e y t = nor_left (doubled e y) _ t
once_apart (c ∷ x) e y t =
    let u = nor_left (doubled c (x ++ e ∷ y)) _ t in
    let v = nor_right (doubled c (x ++ e ∷ y)) _ t in
    rw (live_turn e c (none_at (live_of c.handle) x e y u)) (once_apart x e y v)

-- ---- lists in which no handle sees a difference: the second has the entries of the first, wherever they stand, and dead ones
data Alike : List Entry → List Entry → Type 0 where
  end : Alike [] []
  same : {c d : Entry} {x y : List Entry} → c.handle ≡ d.handle → c.words ≡ d.words → Alike x y → Alike (c ∷ x) (d ∷ y)
  dead : {d : Entry} {x y : List Entry} → is_live d.handle ≡ false → Alike x y → Alike x (d ∷ y)

alike_self : (x : List Entry) → Alike x x
alike_self [] = end
alike_self (c ∷ x) = same refl refl (alike_self x)

alike_append : {x y v w : List Entry} → Alike x y → Alike v w → Alike (x ++ v) (y ++ w)
alike_append end t = t
alike_append (same h d s) t = same h d (alike_append s t)
alike_append (dead q s) t = dead q (alike_append s t)

alike_any : {x y : List Entry} (h : ℕ) → Alike x y → any_of (live_of h) x ≡ any_of (live_of h) y
alike_any h end = refl
alike_any h (same k d s) = rw (k, alike_any h s)
alike_any h (dead {d} q s) = rw (dead_never h d q) (alike_any h s)

alike_look : {x y : List Entry} (h : ℕ) → Alike x y → look h x ≡ look h y
alike_look h end = refl
alike_look h (same {c} {d} {x} {y} k w s) =
    ap (λ (u : ℕ). data_of (cond (is_live h && eqb u h) (Some c) (find h x))) k ∙ go (live_of h d) (alike_look h s)
  where
    go : (b : Bool) → look h x ≡ look h y → data_of (cond b (Some c) (find h x)) ≡ data_of (cond b (Some d) (find h y))
    go true ih = ap (λ (u : List ℕ). Some u) w
    go false ih = ih
alike_look h (dead {d} q s) = rw (dead_never h d q) (alike_look h s)

alike_twice : {x y : List Entry} → Alike x y → twice x ≡ twice y
alike_twice end = refl
alike_twice (same {d = d} k w s) = rw (k, alike_any d.handle s, alike_twice s)
alike_twice (dead {d} {x} {y} q s) = rw (none_dead d.handle y q) (alike_twice s)

alike_live : {x y : List Entry} → Alike x y → live_words x ≡ live_words y
alike_live end = refl
alike_live (same k w s) = rw (k, w, alike_live s)
alike_live (dead q s) = let ih = alike_live s in rw q (omega arith)

alike_skip : (x : List Entry) (e : Entry) (y : List Entry) → Alike (x ++ y) (x ++ zeroed e ∷ y)
alike_skip x e y = alike_append (alike_self x) (dead refl (alike_self y))

pub twice_skip : (x : List Entry) (e : Entry) (y : List Entry) → twice (x ++ zeroed e ∷ y) ≡ twice (x ++ y)
twice_skip x e y = sym (alike_twice (alike_skip x e y))

-- ---- look
pub look_skip : (u : ℕ) (x : List Entry) (e : Entry) (y : List Entry) → look u (x ++ zeroed e ∷ y) ≡ look u (x ++ y)
look_skip u x e y = sym (alike_look u (alike_skip x e y))

pub look_other : (u : ℕ) (x : List Entry) (e : Entry) (y : List Entry) → eqb u e.handle ≡ false → look u (x ++ e ∷ y) ≡ look u (x ++ y)
look_other u x e y q = ap data_of (first_skip (live_of u) x e y (other_never u e q))

pub look_drop : (u : ℕ) (x : List Entry) (e : Entry) (y : List Entry) → twice (x ++ e ∷ y) ≡ false
    → look u (x ++ zeroed e ∷ y) ≡ cond (eqb u e.handle) None (look u (x ++ e ∷ y))
look_drop u x e y t = look_skip u x e y ∙ go (eqb u e.handle) refl
  where
    go : (b : Bool) → eqb u e.handle ≡ b → look u (x ++ y) ≡ cond b None (look u (x ++ e ∷ y))
    go true q = rw (eqb-true u e.handle q) (ap data_of (none_find e.handle (x ++ y) (once_apart x e y t)))
    go false q = sym (look_other u x e y q)

pub look_add : (u : ℕ) (x : List Entry) (e : Entry) (y : List Entry) → is_live e.handle ≡ true → any_of (live_of e.handle) (x ++ y) ≡ false
    → look u (x ++ e ∷ y) ≡ cond (eqb u e.handle) (Some e.words) (look u (x ++ y))
look_add u x e y l n = go (eqb u e.handle) refl
  where
    go : (b : Bool) → eqb u e.handle ≡ b → look u (x ++ e ∷ y) ≡ cond b (Some e.words) (look u (x ++ y))
    go true q = rw (eqb-true u e.handle q) (ap data_of (first_at (live_of e.handle) x e y (live_mine e.handle e l refl) n))
    go false q = look_other u x e y q

-- ---- live words
pub live_at : (x : List Entry) (e : Entry) (y : List Entry) → live_words (x ++ e ∷ y) ≡ cond (is_live e.handle) (entry_length e.words) 0 + live_words (x ++ y)
live_at x e y = omega (arith, live_append x (e ∷ y), live_append x y)

pub live_skip : (x : List Entry) (e : Entry) (y : List Entry) → live_words (x ++ zeroed e ∷ y) ≡ live_words (x ++ y)
live_skip x e y = sym (alike_live (alike_skip x e y))

-- ---- doubles
pub supersede_none : (x : List Entry) → twice x ≡ false → supersede x ≡ []
supersede_none [] q = refl
supersede_none (e ∷ x) q = rw (nor_left (doubled e x) _ q) (supersede_none x (nor_right (doubled e x) _ q))

pub none_supersede : (x : List Entry) → supersede x ≡ [] → twice x ≡ false
none_supersede [] q = refl
none_supersede (e ∷ x) q = go (doubled e x) refl q (none_supersede x)
  where
    go : (b : Bool) → doubled e x ≡ b → cond b (bare e ∷ supersede x) (supersede x) ≡ [] → (supersede x ≡ [] → twice x ≡ false) → twice (e ∷ x) ≡ false
    go true r q ih = absurd (nil≢cons (sym q))
    go false r q ih = rw r (ih q)

pub supersede_one : (p : List Entry) (e : Entry) (s : List Entry) → doubled e s ≡ true → twice (p ++ zeroed e ∷ s) ≡ false → supersede (p ++ e ∷ s) ≡ bare e ∷ []
supersede_one [] e s d t = rw (d, supersede_none s (once_drop [] (zeroed e) s t))
supersede_one (c ∷ p) e s d t = rw (any_skip (live_of c.handle) p e s other ∙ n) (supersede_one p e s d (nor_right (doubled c (p ++ zeroed e ∷ s)) _ t))
  where
    n : doubled c (p ++ s) ≡ false
    n = none_drop (live_of c.handle) p (zeroed e) s (nor_left (doubled c (p ++ zeroed e ∷ s)) _ t)

    other : live_of c.handle e ≡ false
    other =
        untrue (live_of c.handle e)
        (λ l. let k = (live_handle c.handle e l).1 in
        true≢false (sym (any_right (live_of c.handle) p s (ap (λ (u : ℕ). any_of (live_of u) s) (sym k) ∙ d)) ∙ n))

-- the first entry that goes, and what goes after it
pub record Superseded (x : List Entry) (s : Store) (ss : List Store) : Type 0 where
  pub pre : List Entry
  pub entry : Entry
  pub suf : List Entry
  pub is : x ≡ pre ++ entry ∷ suf
  pub store : s ≡ bare entry
  pub later : doubled entry suf ≡ true
  pub others : supersede (pre ++ zeroed entry ∷ suf) ≡ ss

pub supersede_first : (x : List Entry) (s : Store) (ss : List Store) → supersede x ≡ s ∷ ss → Superseded x s ss
supersede_first [] s ss q = absurd (nil≢cons q)
supersede_first (c ∷ x) s ss q = go (doubled c x) refl q (supersede_first x s ss)
  where
    go : (b : Bool) → doubled c x ≡ b → cond b (bare c ∷ supersede x) (supersede x) ≡ s ∷ ss → (supersede x ≡ s ∷ ss → Superseded x s ss) → Superseded (c ∷ x) s ss
    go true r q ih =
        record { pre = []; entry = c; suf = x; is = refl; store = sym (head-eq_of_cons-eq q); later = r; others = rw (none_dead 0 x refl) (tail-eq_of_cons-eq q) }
    go false r q ih =
        let t = ih q in
        let n : doubled c (t.pre ++ t.entry ∷ t.suf) ≡ false = ap (λ (u : List Entry). doubled c u) (sym t.is) ∙ r in
        let m : doubled c (t.pre ++ zeroed t.entry ∷ t.suf) ≡ false =
        any_skip (live_of c.handle) t.pre (zeroed t.entry) t.suf (zeroed_dead c.handle t.entry) ∙ none_drop (live_of c.handle) t.pre t.entry t.suf n in
        record { pre = c ∷ t.pre; entry = t.entry; suf = t.suf; is = ap (λ (u : List Entry). c ∷ u) t.is; store = t.store; later = t.later; others = rw m t.others }

-- ---- the last live entry of a handle
any_stays : (h : ℕ) (x : List Entry) (e : Entry) (y : List Entry) → doubled e y ≡ true → any_of (live_of h) (x ++ zeroed e ∷ y) ≡ any_of (live_of h) (x ++ e ∷ y)
any_stays h x e y d = go (live_of h e) refl
  where
    go : (b : Bool) → live_of h e ≡ b → any_of (live_of h) (x ++ zeroed e ∷ y) ≡ any_of (live_of h) (x ++ e ∷ y)
    go true p =
        let k = live_handle h e p in
        let z : any_of (live_of h) y ≡ true = rw k.1 at d in
        any_skip (live_of h) x (zeroed e) y (zeroed_dead h e) ∙ any_right (live_of h) x y z ∙ sym (any_at (live_of h) x e y p)
    go false p = any_skip (live_of h) x (zeroed e) y (zeroed_dead h e) ∙ sym (any_skip (live_of h) x e y p)

last_none : (h : ℕ) (x : List Entry) → any_of (live_of h) x ≡ false → last_live h x ≡ None
last_none h [] q = refl
last_none h (c ∷ x) q = rw (nor_right (live_of h c) _ q, nor_left (live_of h c) _ q)

-- with no handle live twice it is the only one
pub once_last : (h : ℕ) (x : List Entry) → twice x ≡ false → find h x ≡ last_live h x
once_last h [] t = refl
once_last h (c ∷ x) t = go (live_of h c) refl (any_of (live_of h) x) refl (once_last h x (nor_right (doubled c x) _ t))
  where
    go : (b : Bool) → live_of h c ≡ b → (d : Bool) → any_of (live_of h) x ≡ d → find h x ≡ last_live h x → find h (c ∷ x) ≡ last_live h (c ∷ x)
    go true p true q ih =
        let e = live_handle h c p in
        absurd (true≢false (sym q ∙ rw e.1 at (nor_left (doubled c x) _ t)))
    go true p false q ih = rw (p, q)
    go false p true q ih = rw (p, q) ih
    go false p false q ih = rw (p, q) (none_find h x q)

-- it stays when an entry comes that is not the handle's
pub last_skip : (h : ℕ) (x : List Entry) (e : Entry) (y : List Entry) → live_of h e ≡ false → last_live h (x ++ e ∷ y) ≡ last_live h (x ++ y)
last_skip h [] e y q = go (any_of (live_of h) y) refl
  where
    go : (b : Bool) → any_of (live_of h) y ≡ b → last_live h (e ∷ y) ≡ last_live h y
    go true p = rw p
    go false p = rw (p, q) (sym (last_none h y p))
last_skip h (c ∷ x) e y q = rw (any_skip (live_of h) x e y q, last_skip h x e y q)

-- and when an earlier one goes
pub last_stays : (h : ℕ) (x : List Entry) (e : Entry) (y : List Entry) → doubled e y ≡ true → last_live h (x ++ zeroed e ∷ y) ≡ last_live h (x ++ e ∷ y)
last_stays h [] e y d = go (live_of h e) refl (any_of (live_of h) y) refl
  where
    go : (b : Bool) → live_of h e ≡ b → (c : Bool) → any_of (live_of h) y ≡ c → last_live h (zeroed e ∷ y) ≡ last_live h (e ∷ y)
    go b p true q = rw q
    go true p false q = let k = live_handle h e p in absurd (true≢false (sym (rw k.1 at d) ∙ q))
    go false p false q = rw (q, p, zeroed_dead h e)
last_stays h (c ∷ x) e y d = rw (last_stays h x e y d, any_stays h x e y d)

-- ---- cuts
pub split_append {ℓ} : {A : Type ℓ} (x y p : List A) (e : A) (s : List A) → x ++ y ≡ p ++ e ∷ s
    → ((t : List A) × (x ≡ p ++ e ∷ t) × (s ≡ t ++ y)) ⊎ ((t : List A) × (p ≡ x ++ t) × (y ≡ t ++ e ∷ s))
split_append [] y p e s q = inr (p, refl, q)
split_append (c ∷ x) y [] e s q = inl (x, ap (λ u. u ∷ x) (head-eq_of_cons-eq q), sym (tail-eq_of_cons-eq q))
split_append {A = A} (c ∷ x) y (d ∷ p) e s q = ⊎_elim left right (split_append x y p e s (tail-eq_of_cons-eq q))
  where
    hd : c ≡ d
    hd = head-eq_of_cons-eq q

    left : ((t : List A) × (x ≡ p ++ e ∷ t) × (s ≡ t ++ y)) → ((t : List A) × (c ∷ x ≡ (d ∷ p) ++ e ∷ t) × (s ≡ t ++ y)) ⊎ ((t : List A) × (d ∷ p ≡ (c ∷ x) ++ t) × (y ≡ t ++ e ∷ s))
    left r = inl (r.0, (λ i. hd i ∷ r.1 i), r.2)

    right : ((t : List A) × (p ≡ x ++ t) × (y ≡ t ++ e ∷ s)) → ((t : List A) × (c ∷ x ≡ (d ∷ p) ++ e ∷ t) × (s ≡ t ++ y)) ⊎ ((t : List A) × (d ∷ p ≡ (c ∷ x) ++ t) × (y ≡ t ++ e ∷ s))
    right r = inr (r.0, (λ i. sym hd i ∷ r.1 i), r.2)

-- ---- the live entries alone, in another place
alike_kept : (at bt : ℕ) (es : List Item) → Alike (placed at (keep_live es)) (placed bt es)
alike_kept at bt [] = end
alike_kept at bt (e ∷ es) = go (is_live e.handle) refl (λ a. alike_kept a (bt + entry_length e.words) es)
  where
    go : (b : Bool) → is_live e.handle ≡ b → ((a : ℕ) → Alike (placed a (keep_live es)) (placed (bt + entry_length e.words) es))
        → Alike (placed at (keep_live (e ∷ es))) (placed bt (e ∷ es))
    go true q ih = rw q (same refl refl (ih (at + entry_length e.words)))
    go false q ih = rw q (dead q (ih at))

alike_among : (A : List Entry) (at bt : ℕ) (es : List Item) (B : List Entry) → Alike (A ++ (placed at (keep_live es) ++ B)) (A ++ (placed bt es ++ B))
alike_among A at bt es B = alike_append (alike_self A) (alike_append (alike_kept at bt es) (alike_self B))

pub look_kept : (u : ℕ) (A : List Entry) (at bt : ℕ) (es : List Item) (B : List Entry) → look u (A ++ (placed at (keep_live es) ++ B)) ≡ look u (A ++ (placed bt es ++ B))
look_kept u A at bt es B = alike_look u (alike_among A at bt es B)

pub twice_kept : (A : List Entry) (at bt : ℕ) (es : List Item) (B : List Entry) → twice (A ++ (placed at (keep_live es) ++ B)) ≡ twice (A ++ (placed bt es ++ B))
twice_kept A at bt es B = alike_twice (alike_among A at bt es B)

pub live_kept : (at : ℕ) (es : List Item) → live_words (placed at es) ≡ length (codes (keep_live es))
live_kept at [] = refl
live_kept at (e ∷ es) = go (is_live e.handle) refl (live_kept (at + entry_length e.words) es)
  where
    go : (b : Bool) → is_live e.handle ≡ b → live_words (placed (at + entry_length e.words) es) ≡ length (codes (keep_live es))
        → live_words (placed at (e ∷ es)) ≡ length (codes (keep_live (e ∷ es)))
    go true q ih = rw q (simp length-append (omega arith))
    go false q ih = rw q (omega arith)

pub live_same : (at bt : ℕ) (es : List Item) → live_words (placed at (keep_live es)) ≡ live_words (placed bt es)
live_same at bt es = alike_live (alike_kept at bt es)

-- ---- what is found of a handle when those of a page alone are copied
first_past : (t : Entry → Bool) (x y z : List Entry) → any_of t y ≡ false → first_of t (x ++ (y ++ z)) ≡ first_of t (x ++ z)
first_past t [] [] z q = refl
first_past t [] (e ∷ y) z q = rw (nor_left (t e) _ q) (first_past t [] y z (nor_right (t e) _ q))
first_past t (c ∷ x) y z q = rw (first_past t x y z q)

find_among : (h : ℕ) (x y z : List Entry) (e : Entry) → twice (x ++ (y ++ z)) ≡ false → find h y ≡ Some e → find h (x ++ (y ++ z)) ≡ Some e
find_among h x y z e t q =
    let r = find_some h y e q in
    let p = r.0 in
    let s = r.1 in
    let k : x ++ (y ++ z) ≡ (x ++ p) ++ e ∷ (s ++ z) =
    ap (λ (u : List Entry). x ++ (u ++ z)) r.2 ∙ ap (λ (u : List Entry). x ++ u) (append_assoc p (e ∷ s) z) ∙ sym (append_assoc x p (e ∷ (s ++ z))) in
    let n : any_of (live_of e.handle) ((x ++ p) ++ (s ++ z)) ≡ false = once_apart (x ++ p) e (s ++ z) (ap twice (sym k) ∙ t) in
    ap (find h) k ∙ first_at (live_of h) (x ++ p) e (s ++ z) (live_mine h e r.4 r.3)
    (ap (λ (u : ℕ). any_of (live_of u) ((x ++ p) ++ (s ++ z))) (sym r.3) ∙ n)

pub find_kept : (h : ℕ) (A : List Entry) (at bt : ℕ) (es : List Item) (B : List Entry) → twice (A ++ (placed at (keep_live es) ++ B)) ≡ false
    → find h (A ++ (placed at (keep_live es) ++ B)) ≡ option_or (find h (placed at (keep_live es))) (find h (A ++ (placed bt es ++ B)))
find_kept h A at bt es B t = go (find h K) refl
  where
    K : List Entry
    K = placed at (keep_live es)

    go : (o : Option Entry) → find h K ≡ o → find h (A ++ (K ++ B)) ≡ option_or o (find h (A ++ (placed bt es ++ B)))
    go (Some e) q = find_among h A K B e t q
    go None q =
        let n = find_none h K q in
        first_past (live_of h) A K B n ∙ sym (first_past (live_of h) A (placed bt es) B (sym (alike_any h (alike_kept at bt es)) ∙ n))
