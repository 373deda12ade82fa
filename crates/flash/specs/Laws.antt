-- The laws of running a list of stores under power: what `Ran` allows is exactly the first k stores, in one outcome and no other, and
-- how steps compose whose stores are read off the flash as the steps before left it. Assumes nothing.
use Rattle.std.specs.Prelude.{◌≡◌, refl, List, [], ◌∷◌, ◌++◌, Bool, true, ◌||◌, ◌↔◌, ◌⊎◌, ℕ, suc, zero, ◌+◌, ◌-◌, ◌≤◌, ◌<◌, min, length, get_or, take, drop, set, replicate, ltb}
use Rattle.std.proofs.Common.{ap, sym, ◌∙◌, ⊎_elim, inl, inr, zero-le, suc-le-suc, arith, le_refl, le_trans, add-one, length-append, length-set, take_all, lt-ltb, le-ltb, Fits}
use Rattle.std.proofs.Math.Bool.{or-false, or-true}
use Rattle.std.proofs.Math.Seq.{take-nil, length-sets, set_out}
use Rattle.std.proofs.lemmas.List.{append_assoc, drop-drop, length-replicate, take-append-drop}
use Rattle.std.proofs.lemmas.List.Edits.{sets, sets-eq}
use Rattle.std.specs.Int.Bits.{bit_and}
use Rattle.std.proofs.lemmas.Nat.{and_le_l}
use Rattle.std.specs.Int.{w32}
use Rattle.flash.specs.declared.Power.{Power}
use Rattle.flash.specs.Stores.{blank, Words, none, more, Store, put, wipe, stored, wiped, apply, made, made_first, Step, ◌then◌, each, spent, Ran}

-- two answers that a promise fixes by one and the same definition are equal
pub settled : {A : Type 0} {x r s : A} → r ≡ x → s ≡ x → r ≡ s
settled e d = e ∙ sym d

pub le_or_lt : (a b : ℕ) → (a ≤ b) ⊎ (b < a)
le_or_lt zero b = inl zero-le
le_or_lt (suc a) zero = inr (suc-le-suc zero-le)
le_or_lt (suc a) (suc b) = ⊎_elim (λ p. inl (suc-le-suc p)) (λ q. inr (suc-le-suc q)) (le_or_lt a b)

pub made_append : (x y : List Store) (f : List ℕ) → made (x ++ y) f ≡ made y (made x f)
made_append [] y f = refl
made_append (s ∷ x) y f = made_append x y (apply s f)

-- ---- the first k stores
pub first_none : (ss : List Store) (f : List ℕ) → made_first 0 ss f ≡ f
unfolding made_first
first_none ss f = refl

pub first_all : (k : ℕ) (ss : List Store) (f : List ℕ) → length ss ≤ k → made_first k ss f ≡ made ss f
unfolding made_first
first_all k ss f h = rw (take_all k ss)

pub first_nil : (k : ℕ) (f : List ℕ) → made_first k [] f ≡ f
unfolding made_first
first_nil k f = let n : take {A = Store} k [] ≡ [] = take-nil k in rw n

pub first_append : (k : ℕ) (a b : List Store) (f : List ℕ) → made_first k (a ++ b) f ≡ made_first (k - length a) b (made_first k a f)
unfolding made_first
first_append k [] b f =
    let e : k - 0 ≡ k = omega arith in
    let n : take {A = Store} k [] ≡ [] = take-nil k in
    rw (e, n)
first_append zero (s ∷ a) b f = let e : 0 - suc (length a) ≡ 0 = omega arith in rw e
first_append (suc k) (s ∷ a) b f =
    let e : suc k - suc (length a) ≡ k - length a = omega arith in
    rw e (first_append k a b (apply s f))

-- a second step may be read off the flash as the first one left it: with power enough that is the flash which the rules mean, and
-- without it nothing is stored
pub first_then : (k : ℕ) (s t : Step) (f : List ℕ)
    → made_first k ((s then t) f) f ≡ made_first (k - length (s f)) (t (made_first k (s f) f)) (made_first k (s f) f)
first_then k s t f = first_append k (s f) (t (made (s f) f)) f ∙ ⊎_elim enough short (le_or_lt (length (s f)) k)
  where
    enough : length (s f) ≤ k
        → made_first (k - length (s f)) (t (made (s f) f)) (made_first k (s f) f) ≡ made_first (k - length (s f)) (t (made_first k (s f) f)) (made_first k (s f) f)
    enough h = rw (first_all k (s f) f)

    short : k < length (s f)
        → made_first (k - length (s f)) (t (made (s f) f)) (made_first k (s f) f) ≡ made_first (k - length (s f)) (t (made_first k (s f) f)) (made_first k (s f) f)
    short h = let e : k - length (s f) ≡ 0 = omega arith in rw e (first_none _ _ ∙ sym (first_none _ _))

-- ---- power
pub power≡ : {p q : Power} → p.left ≡ q.left → p.cut ≡ q.cut → p ≡ q
power≡ {p} {q} e d = ap (λ (x : ℕ). record { left = x; cut = p.cut }) e ∙ ap (λ (b : Bool). record { left = q.left; cut = b }) d

spent_left : (p : Power) (n : ℕ) → (spent p n).left ≡ p.left - n
unfolding spent
spent_left p n = refl

spent_none : (p : Power) → spent p 0 ≡ p
unfolding spent
spent_none p = power≡ (omega arith) (rw (le-ltb p.left 0 zero-le) (or-false p.cut))

ltb_sub : (k a b c : ℕ) → a ≤ k → b ≡ c → ltb (k - a) b ≡ ltb k (a + c)
ltb_sub k a b c h e =
    ⊎_elim
    (λ (q : b ≤ k - a). rw (le-ltb (k - a) b q, le-ltb k (a + c) (omega arith)))
    (λ (q : k - a < b). rw (lt-ltb (k - a) b q, lt-ltb k (a + c) (omega arith)))
    (le_or_lt b (k - a))

-- stores asked for after others; how many they are matters only where the power reached them
spent_more : (p : Power) (a b c : ℕ) → (a ≤ p.left → b ≡ c) → spent (spent p a) b ≡ spent p (a + c)
unfolding spent
spent_more p a b c same = ⊎_elim enough short (le_or_lt a p.left)
  where
    enough : a ≤ p.left → spent (spent p a) b ≡ spent p (a + c)
    enough h =
        let e : b ≡ c = same h in
        power≡ (omega arith)
        (rw (le-ltb p.left a h, or-false p.cut) (ap (λ (t : Bool). p.cut || t) (ltb_sub p.left a b c h e)))

    short : p.left < a → spent (spent p a) b ≡ spent p (a + c)
    short h =
        let l : p.left < a + c = omega arith in
        power≡ (omega arith) (rw (lt-ltb p.left a h, lt-ltb p.left (a + c) l, or-true p.cut))

-- ---- what Ran allows
-- demand 2: with power for k stores, exactly the first k of the list are made, or all of them if there are fewer; as many are
-- counted; and the cut is noted just when the list is longer, or it was noted before
pub first_stores : (ss : List Store) (p : Power) (f : List ℕ) (q : Power) (g : List ℕ)
    → Ran ss p f q g
    ↔ ((g ≡ made (take p.left ss) f) × (q.left + min p.left (length ss) ≡ p.left) × (q.cut ≡ (p.cut || ltb p.left (length ss))))
unfolding made_first spent
first_stores ss p f q g = (
  λ (x : Ran ss p f q g).
      let l : q.left ≡ p.left - length ss = ap (λ (r : Power). r.left) x.power in
      (x.words, omega arith, ap (λ (r : Power). r.cut) x.power),
  λ x.
      let c : q.left + min p.left (length ss) ≡ p.left = x.1 in
      record { power = power≡ (omega arith) x.2; words = x.0 },
)

-- one outcome, and no other
pub ran_some : (ss : List Store) (p : Power) (f : List ℕ) → Ran ss p f (spent p (length ss)) (made_first p.left ss f)
ran_some ss p f = record { power = refl; words = refl }

pub ran_settles : {ss : List Store} {p : Power} {f : List ℕ} {q r : Power} {g h : List ℕ} → Ran ss p f q g → Ran ss p f r h → (q ≡ r) × (g ≡ h)
ran_settles x y = (settled x.power y.power, settled x.words y.words)

-- ---- how runs compose
pub ran_none : (p : Power) (f : List ℕ) → Ran [] p f p f
ran_none p f = record { power = sym (spent_none p); words = sym (first_nil p.left f) }

pub ran_then : {p q r : Power} {f g h : List ℕ} (s t : Step) → Ran (s f) p f q g → Ran (t g) q g r h → Ran ((s then t) f) p f r h
ran_then {p} {q} {r} {f} {g} {h} s t x y =
    record {
      power = y.power ∙ rw (x.power, length-append) (spent_more p (length (s f)) (length (t g)) (length (t (made (s f) f))) (λ e. ap (λ (l : List ℕ). length (t l)) (x.words ∙ first_all p.left (s f) f e)));
      words = y.words ∙ rw x.words (rw (x.power, spent_left) (sym (first_then p.left s t f)));
    }

pub ran_cons : {s : Store} {ss : List Store} {p q r : Power} {f g h : List ℕ} → Ran (s ∷ []) p f q g → Ran ss q g r h → Ran (s ∷ ss) p f r h
ran_cons {s} {ss} x y = ran_then (λ l. s ∷ []) (λ l. ss) x y

-- one store, without power and with it
pub ran_dry : {s : Store} {p q : Power} {f : List ℕ} → p.left ≡ 0 → q ≡ spent p 1 → Ran (s ∷ []) p f q f
unfolding made_first
ran_dry e d = record { power = d; words = rw e }

pub ran_one : {s : Store} {p q : Power} {f g : List ℕ} → 0 < p.left → q ≡ spent p 1 → g ≡ apply s f → Ran (s ∷ []) p f q g
ran_one {s} {p} {f = f} h d e = record { power = d; words = e ∙ sym (first_all p.left (s ∷ []) f h) }

-- what one store leaves of a power
pub spent_dry : (p : Power) → p.left ≡ 0 → record { left = 0; cut = true } ≡ spent p 1
unfolding spent
spent_dry p e = power≡ (omega arith) (rw (lt-ltb p.left 1 (omega arith)) (sym (or-true p.cut)))

pub spent_one : (p : Power) → (p.left ≡ 0 → ⊥) → record { left = p.left - 1; cut = p.cut } ≡ spent p 1
unfolding spent
spent_one p h = power≡ refl (rw (le-ltb p.left 1 (omega arith)) (sym (or-false p.cut)))

pub ran_append : {x y : List Store} {p q r : Power} {f g h : List ℕ} → Ran x p f q g → Ran y q g r h → Ran (x ++ y) p f r h
ran_append {x} {y} u v = ran_then (λ l. x) (λ l. y) u v

-- A loop over the steps t 0, .., t (n - 1), begun with the power p₀ on the flash f₀, stands before step i with the power p and the
-- flash f: whatever the steps that are left lead to, the whole loop leads to.
pub record Turn (t : ℕ → Step) (n : ℕ) (p₀ : Power) (f₀ : List ℕ) (i : ℕ) (p : Power) (f : List ℕ) : Type 0 where
  pub rest : ℕ
  pub sum : rest + i ≡ n
  pub end : (r : Power) (h : List ℕ) → Ran (each t rest i f) p f r h → Ran (each t n 0 f₀) p₀ f₀ r h

pub turn_start : {t : ℕ → Step} {n : ℕ} {p : Power} {f : List ℕ} → Turn t n p f 0 p f
turn_start {t} {n} = record { rest = n; sum = omega arith; end = λ r h x. x }

module _ (t : ℕ → Step) (n i : ℕ) {p₀ p : Power} {f₀ f : List ℕ} where
  on : {q : Power} {g : List ℕ} (k : ℕ) → k + i ≡ n → i < n → Ran (t i f) p f q g → ((r : Power) (h : List ℕ) → Ran (each t k i f) p f r h → Ran (each t n 0 f₀) p₀ f₀ r h)
      → Turn t n p₀ f₀ (suc i) q g
  on zero s l x e = absurd (let z : ⊥ = omega arith in z)
  on (suc k) s l x e = record { rest = k; sum = omega arith; end = λ r h y. e r h (ran_then (t i) (each t k (suc i)) x y) }

  done : (k : ℕ) → k + i ≡ n → n ≤ i → ((r : Power) (h : List ℕ) → Ran (each t k i f) p f r h → Ran (each t n 0 f₀) p₀ f₀ r h) → Ran (each t n 0 f₀) p₀ f₀ p f
  done zero s l e = e p f (ran_none p f)
  done (suc k) s l e = absurd (let z : ⊥ = omega arith in z)

pub turn_on : {t : ℕ → Step} {n i : ℕ} {p₀ p q : Power} {f₀ f g : List ℕ} → Turn t n p₀ f₀ i p f → i < n → Ran (t i f) p f q g
    → Turn t n p₀ f₀ (i + 1) q g
turn_on {t} {n} {i} u l x = rw (add-one i) (on t n i u.rest u.sum l x u.end)

pub turn_end : {t : ℕ → Step} {n i : ℕ} {p₀ p : Power} {f₀ f : List ℕ} → Turn t n p₀ f₀ i p f → n ≤ i → Ran (each t n 0 f₀) p₀ f₀ p f
turn_end {t} {n} {i} u l = done t n i u.rest u.sum l u.end

-- what the proof of a function over stores hands to search
pub ruleset stores = (ran_none, ran_cons, ran_dry, ran_one, turn_start, turn_on, turn_end)

-- ---- words that each fit 32 bits are 32-bit words, and stores keep them so
pub words_fit : (f : List ℕ) → ((i : ℕ) → Fits w32 (get_or f i 0)) → Words f
words_fit [] h = none
words_fit (w ∷ f) h = let k : w ≤ blank = omega (arith, h 0) in more k (words_fit f (λ i. h (suc i)))

words_get : {f : List ℕ} → Words f → (at : ℕ) → get_or f at 0 ≤ blank
words_get none at = zero-le
words_get (more h u) zero = h
words_get (more h u) (suc at) = words_get u at

words_set : {f : List ℕ} → Words f → (at w : ℕ) → w ≤ blank → Words (set f at w)
words_set none at w l = none
words_set (more h u) zero w l = more l u
words_set (more h u) (suc at) w l = more h (words_set u at w l)

words_blank : (n : ℕ) {f : List ℕ} → Words f → (at : ℕ) → Words (sets f at (replicate n blank))
words_blank zero u at = u
words_blank (suc n) u at = words_blank n (words_set u at blank (le_refl blank)) (suc at)

words_apply : (s : Store) {f : List ℕ} → Words f → Words (apply s f)
unfolding stored wiped
words_apply (put at w) {f} u = words_set u at (bit_and (get_or f at 0) w) (le_trans (and_le_l (get_or f at 0) w) (words_get u at))
words_apply (wipe at n) u = words_blank n u at

pub words_made : (ss : List Store) {f : List ℕ} → Words f → Words (made ss f)
words_made [] u = u
words_made (s ∷ ss) u = words_made ss (words_apply s u)

pub small_words : (f : List ℕ) → ((i : ℕ) → get_or f i 0 ≤ blank) → Words f
small_words [] h = none
small_words (w ∷ f) h = more (h 0) (small_words f (λ i. h (suc i)))

pub ran_small : {ss : List Store} {p q : Power} {f g : List ℕ} → Ran ss p f q g → ((i : ℕ) → get_or f i 0 ≤ blank) → (i : ℕ) → get_or g i 0 ≤ blank
unfolding made_first
ran_small {ss} {p} {f = f} x h i = rw x.words (words_get (words_made (take p.left ss) (small_words f h)) i)

-- ---- and the flash's length
length_apply : (s : Store) (f : List ℕ) → length (apply s f) ≡ length f
unfolding stored wiped
length_apply (put at w) f = length-set f at _
length_apply (wipe at n) f = length-sets f at (replicate n blank)

pub length_made : (ss : List Store) (f : List ℕ) → length (made ss f) ≡ length f
length_made [] f = refl
length_made (s ∷ ss) f = length_made ss (apply s f) ∙ length_apply s f

pub ran_length : {ss : List Store} {p q : Power} {f g : List ℕ} → Ran ss p f q g → length g ≡ length f
unfolding made_first
ran_length {ss} {p} {f = f} x = ap length x.words ∙ length_made (take p.left ss) f

-- ---- stores outside the flash, and an erase word by word
pub stored_out : (f : List ℕ) (at w : ℕ) → length f ≤ at → stored f at w ≡ f
unfolding stored
stored_out f at w h = set_out f at _ h

sets_out : (vs f : List ℕ) (at : ℕ) → length f ≤ at → sets f at vs ≡ f
sets_out [] f at h = refl
sets_out (v ∷ vs) f at h = rw set_out (sets_out vs f (suc at) (omega arith))

pub wiped_out : (f : List ℕ) (at n : ℕ) → length f ≤ at → wiped f at n ≡ f
unfolding wiped
wiped_out f at n h = sets_out (replicate n blank) f at h

pub wiped_none : (f : List ℕ) (at : ℕ) → wiped f at 0 ≡ f
unfolding wiped
wiped_none f at = refl

pub wiped_more : (f : List ℕ) (at n : ℕ) → 0 < n → wiped (set f at blank) (at + 1) (n - 1) ≡ wiped f at n
unfolding wiped
wiped_more f at zero h = absurd (let z : ⊥ = omega arith in z)
wiped_more f at (suc n) h = let e : suc n - 1 ≡ n = omega arith in rw (e, add-one)

-- the blank words beyond the flash's end change nothing
sets_within : (n : ℕ) (f : List ℕ) (at : ℕ) → sets f at (replicate n blank) ≡ sets f at (replicate (min n (length f - at)) blank)
sets_within zero f at = let e : min 0 (length f - at) ≡ 0 = omega arith in rw e
sets_within (suc n) f at = ⊎_elim outside (inside (sets_within n (set f at blank) (suc at))) (le_or_lt (length f) at)
  where
    after : List ℕ
    after = set f at blank

    outside : length f ≤ at → sets f at (replicate (suc n) blank) ≡ sets f at (replicate (min (suc n) (length f - at)) blank)
    outside h = let e : min (suc n) (length f - at) ≡ 0 = omega arith in sets_out (replicate (suc n) blank) f at h ∙ rw e

    inside : sets after (suc at) (replicate n blank) ≡ sets after (suc at) (replicate (min n (length after - suc at)) blank) → at < length f
        → sets f at (replicate (suc n) blank) ≡ sets f at (replicate (min (suc n) (length f - at)) blank)
    inside r h =
        let l = length-set f at blank in
        let e : min (suc n) (length f - at) ≡ suc (min n (length after - suc at)) = omega arith in
        r ∙ rw e

-- an erase, by the part of the flash that it reaches
pub wiped_part : (f : List ℕ) (at n s e : ℕ) (ys : List ℕ) → s ≡ min at (length f) → e ≡ min (at + n) (length f) → ys ≡ replicate (e - s) blank
    → take s f ++ (ys ++ drop (e - s) (drop s f)) ≡ wiped f at n
unfolding wiped
wiped_part f at n s e ys i j y = ⊎_elim outside inside (le_or_lt (length f) at)
  where
    outside : length f ≤ at → take s f ++ (ys ++ drop (e - s) (drop s f)) ≡ sets f at (replicate n blank)
    outside h =
        let z : e - s ≡ 0 = omega arith in
        rw (y, z) (take-append-drop s f) ∙ sym (sets_out (replicate n blank) f at h)

    inside : at < length f → take s f ++ (ys ++ drop (e - s) (drop s f)) ≡ sets f at (replicate n blank)
    inside h =
        let a : s ≡ at = omega arith in
        let k : e - s ≡ min n (length f - at) = omega arith in
        let m = min n (length f - at) in
        let l : length (replicate m blank) ≡ m = length-replicate m blank in
        let r : sets f at (replicate m blank) ≡ take at f ++ replicate m blank ++ drop (at + length (replicate m blank)) f = sets-eq (replicate m blank) f at (omega arith) in
        let t = rw l at r ∙ append_assoc (take at f) (replicate m blank) (drop (at + m) f) in
        rw (y, k, a) (ap (λ (u : List ℕ). take at f ++ (replicate m blank ++ u)) (drop-drop m at f) ∙ sym t) ∙ sym (sets_within n f at)
