-- Laws of the definitions: page sizes, headers, where the walk stops, live words, and answers against the stores made.
-- Assumes nothing.
use Rattle.std.specs.Prelude.{◌≡◌, refl, List, [], ◌∷◌, ◌++◌, Bool, true, false, cond, ◌&&◌, ◌||◌, ℕ, suc, zero, ◌+◌, ◌-◌, ◌*◌, ◌^◌, ◌≤◌, ◌<◌, length, get_or, take, drop, leb, ltb, eqb, Some, Ok}
use Rattle.std.proofs.Common.{ap, sym, ◌∙◌, true≢false, ⊎_elim, arith, mod-eq_of_lt, length-take, length-drop, leb-true, eqb-true, le-leb, le-ltb, lt-ltb}
use Rattle.std.proofs.lemmas.Bool.{false≢true, lt-leb}
use Rattle.std.specs.Int.Bits.{bit_and}
use Rattle.std.proofs.lemmas.Nat.{and_mask, and_comm}
use Rattle.flash.specs.declared.Power.{Power}
use Rattle.flash.specs.Stores.{Store, made_first, spent, Ran}
use Rattle.flash.specs.Laws.{le_or_lt}
use Rattle.rules.specs.declared.PageSize.{PageSize}
use Rattle.rules.specs.declared.PageSize.TheVariants.{Small, Medium, Large}
use Rattle.rules.specs.declared.Refusal.{Refusal}
use Rattle.rules.specs.Words.{words_of, size_of, longest, header, handle_of, length_of, special, seal}
use Rattle.rules.specs.Walk.{begins, Item, entry_length, walk_in, rest, stop}
use Rattle.rules.specs.Areas.{Entry, placed, live_words}
use Rattle.rules.specs.Refusals.{answer_stores, checked, list, outcome_of, Answer}
use Rattle.rules.specs.declared.Made.{Made}

-- ---- tests
pub and_left : (a b : Bool) → a && b ≡ true → a ≡ true
and_left true b e = refl
and_left false b e = e

pub and_right : (a b : Bool) → a && b ≡ true → b ≡ true
and_right true b e = e
and_right false b e = absurd (false≢true e)

pub nor_left : (a b : Bool) → a || b ≡ false → a ≡ false
nor_left true b e = e
nor_left false b e = refl

pub nor_right : (a b : Bool) → a || b ≡ false → b ≡ false
nor_right true b e = absurd (true≢false e)
nor_right false b e = e

-- ---- page sizes: the size that is found for P is the one of P words
pub words_size : (s : PageSize) → size_of (words_of s) ≡ Some s
words_size Small = refl
words_size Medium = refl
words_size Large = refl

pub size_words : (P : ℕ) (s : PageSize) → size_of P ≡ Some s → words_of s ≡ P
size_words P s e = small (eqb P 64) refl
  where
    large : (t : Bool) → eqb P 1024 ≡ t → eqb P 64 ≡ false → eqb P 256 ≡ false → words_of s ≡ P
    large true q n m = let z : Large ≡ s = cc in ap words_of (sym z) ∙ sym (eqb-true P 1024 q)
    large false q n m = let z : ◌≡◌ {A = ℕ} 0 1 = cc in absurd (let y : ⊥ = omega arith in y)

    medium : (t : Bool) → eqb P 256 ≡ t → eqb P 64 ≡ false → words_of s ≡ P
    medium true q n = let z : Medium ≡ s = cc in ap words_of (sym z) ∙ sym (eqb-true P 256 q)
    medium false q n = large (eqb P 1024) refl n q

    small : (t : Bool) → eqb P 64 ≡ t → words_of s ≡ P
    small true q = let z : Small ≡ s = cc in ap words_of (sym z) ∙ sym (eqb-true P 64 q)
    small false q = medium (eqb P 256) refl q

-- ---- headers
-- a header stored over the seal is that header
pub header_over_seal : (h l : ℕ) → h < special → l ≤ longest → bit_and seal (header h l) ≡ header h l
unfolding header
header_over_seal h l a b =
    let k : 65536 * h + l < 2 ^ 31 = omega arith in
    and_comm seal (65536 * h + l) ∙ and_mask (65536 * h + l) 31 ∙ mod-eq_of_lt k

-- the word at a place of a page is a header, by places: the entry's last word is at or before P - 2
abbrev pub header_at : List ℕ → ℕ → Bool
header_at p at =
    let w = get_or p at 0 in
    ltb (handle_of w) special && (leb 1 (length_of w) && (leb (length_of w) longest && leb (at + length_of w - 1) (length p - 2)))

ends_at : (p : List ℕ) (at l : ℕ) → at < length p → 2 ≤ length p → 1 ≤ l → leb l (length (drop (suc at) p)) ≡ leb (at + l - 1) (length p - 2)
ends_at p at l h two one =
    let d : length (drop (suc at) p) ≡ length p - suc at = length-drop (suc at) p in
    ⊎_elim
    (λ (q : l ≤ length (drop (suc at) p)). rw (le-leb l _ q, le-leb (at + l - 1) (length p - 2) (omega arith)))
    (λ (q : length (drop (suc at) p) < l). rw (lt-leb l _ q, lt-leb (at + l - 1) (length p - 2) (omega arith)))
    (le_or_lt l (length (drop (suc at) p)))

pub begins_at : (p : List ℕ) (at : ℕ) → at < length p → 2 ≤ length p → begins (get_or p at 0) (drop (suc at) p) ≡ header_at p at
unfolding begins
begins_at p at h two =
    let l = length_of (get_or p at 0) in
    ⊎_elim (λ (q : 1 ≤ l). rw (ends_at p at l h two q)) (λ (q : l < 1). rw (lt-leb 1 l q)) (le_or_lt 1 l)

-- ---- the walk
-- an entry has a header, and leaves the page's last word
pub begins_fits : (w : ℕ) (ws : List ℕ) → begins w ws ≡ true → (1 ≤ length_of w) × (length_of w ≤ length ws)
unfolding begins
begins_fits w ws e =
    let l = length_of w in
    let a = and_right (ltb (handle_of w) special) _ e in
    (leb-true 1 l (and_left (leb 1 l) _ a), leb-true l (length ws) (and_right (leb l longest) _ (and_right (leb 1 l) _ a)))

rest_some : (k : ℕ) (ws : List ℕ) → k < length ws → 0 < length (walk_in k ws).rest
rest_some k [] h = absurd (let z : ⊥ = omega arith in z)
rest_some (suc k) (w ∷ ws) h = rest_some k ws (omega arith)
rest_some zero (w ∷ ws) h = go (begins w ws) refl (rest_some (length_of w - 1) ws)
  where
    go : (t : Bool) → begins w ws ≡ t → (length_of w - 1 < length ws → 0 < length (walk_in (length_of w - 1) ws).rest) → 0 < length (walk_in 0 (w ∷ ws)).rest
    go true q more = let b = begins_fits w ws q in rw q (more (omega (arith, b.0, b.1)))
    go false q more = rw q (omega arith)

-- it stops inside its page
pub stops_inside : (p : List ℕ) → 2 < length p → stop p < length p
unfolding stop rest
stops_inside p h =
    let d : length (drop 2 p) ≡ length p - 2 = length-drop 2 p in
    let s : 0 < length (walk_in 0 (drop 2 p)).rest = rest_some 0 (drop 2 p) (omega arith) in
    omega arith

-- ---- live words
pub live_append : (x y : List Entry) → live_words (x ++ y) ≡ live_words x + live_words y
live_append [] y = omega arith
live_append (e ∷ x) y = let ih = live_append x y in omega arith

-- they do not depend on where the entries stand
pub live_anywhere : (at bt : ℕ) (es : List Item) → live_words (placed at es) ≡ live_words (placed bt es)
live_anywhere at bt [] = refl
live_anywhere at bt (e ∷ es) = rw (live_anywhere (at + entry_length e.words) (bt + entry_length e.words) es)

-- ---- answers
-- the stores that an answer counts are those made
pub stores_made : (ss : List Store) (k : ℕ) (f : List ℕ) → answer_stores (outcome_of (list ss) k f).answer ≡ length (take k ss)
stores_made ss k f = ⊎_elim enough short (le_or_lt (length ss) k)
  where
    enough : length ss ≤ k → answer_stores (outcome_of (list ss) k f).answer ≡ length (take k ss)
    enough h = rw (le-leb (length ss) k h) (omega (arith, length-take k ss))

    short : k < length ss → answer_stores (outcome_of (list ss) k f).answer ≡ length (take k ss)
    short h = rw (lt-leb (length ss) k h) (omega (arith, length-take k ss))

-- the answer of a run that was given power for k stores, by the power that is left
abbrev pub answer_of : ℕ → Power → Answer
answer_of k q = cond q.cut (Ok (Made.Cut (k - q.left))) (Ok (Made.Done (k - q.left)))

answer_spent : (ss : List Store) (k : ℕ) (f : List ℕ)
    → (outcome_of (list ss) k f).answer ≡ answer_of k (spent (record { left = k; cut = false }) (length ss))
unfolding spent
answer_spent ss k f = ⊎_elim enough short (le_or_lt (length ss) k)
  where
    enough : length ss ≤ k → (outcome_of (list ss) k f).answer ≡ answer_of k (spent (record { left = k; cut = false }) (length ss))
    enough h = let e : k - (k - length ss) ≡ length ss = omega arith in rw (le-leb (length ss) k h, le-ltb k (length ss) h, e)

    short : k < length ss → (outcome_of (list ss) k f).answer ≡ answer_of k (spent (record { left = k; cut = false }) (length ss))
    short h = let e : k - (k - length ss) ≡ k = omega arith in rw (lt-leb (length ss) k h, lt-ltb k (length ss) h, e)

-- a run is its list's outcome
pub ran_outcome : (ss : List Store) (k : ℕ) {f g : List ℕ} {q : Power} → Ran ss (record { left = k; cut = false }) f q g
    → outcome_of (list ss) k f ≡ record { answer = answer_of k q; flash = g }
ran_outcome ss k {f} x =
    rw (x.power, x.words) (ap (λ (r : Answer). record { answer = r; flash = made_first k ss f }) (answer_spent ss k f))

-- it takes no more than was given
pub ran_left : {ss : List Store} {k : ℕ} {f g : List ℕ} {q : Power} → Ran ss (record { left = k; cut = false }) f q g → q.left ≤ k
unfolding spent
ran_left {ss} {k} {q = q} x = let l : q.left ≡ k - length ss = ap (λ (p : Power). p.left) x.power in omega arith

-- ---- checks
-- none applies
abbrev pub Passed : List (Bool × Refusal) → Type 0
Passed [] = Unit {0}
Passed (c ∷ cs) = (c.0 ≡ false) × Passed cs

-- the later ones count where none of the earlier ones applies
pub checked_append : {A : Type 0} (refused : Refusal → A) (cs ds : List (Bool × Refusal)) (x : A) → checked refused (cs ++ ds) x ≡ checked refused cs (checked refused ds x)
checked_append {A} refused [] ds x = refl
checked_append {A} refused (c ∷ cs) ds x = ap (λ (y : A). cond c.0 (refused c.1) y) (checked_append refused cs ds x)

pub passed_checked : {A : Type 0} (refused : Refusal → A) (cs : List (Bool × Refusal)) (x : A) → Passed cs → checked refused cs x ≡ x
passed_checked refused [] x p = refl
passed_checked refused (c ∷ cs) x p = rw p.0 (passed_checked refused cs x p.1)

-- an answer that is no refusal
pub checked_passed : {A : Type 0} (refused : Refusal → A) (cs : List (Bool × Refusal)) (x y : A) → ((n : Refusal) → refused n ≡ y → ⊥) → checked refused cs x ≡ y
    → Passed cs × (x ≡ y)
checked_passed refused [] x y h q = (tt, q)
checked_passed refused (c ∷ cs) x y h q = go c.0 refl q (checked_passed refused cs x y h)
  where
    go : (b : Bool) → c.0 ≡ b → cond b (refused c.1) (checked refused cs x) ≡ y → (checked refused cs x ≡ y → Passed cs × (x ≡ y)) → Passed (c ∷ cs) × (x ≡ y)
    go true r q ih = absurd (h c.1 q)
    go false r q ih = let t = ih q in ((r, t.0), t.1)
