-- Steps that are cut and taken up again: what a step must be so that made anew it ends where it would have ended, how such steps
-- compose, and the steps that simply go on with what is left. Assumes nothing.
use Rattle.std.specs.Prelude.{◌≡◌, refl, ◌≢◌, ℕ, suc, zero, ◌+◌, ◌-◌, ◌≤◌, ◌<◌, length, take, drop}
use Rattle.std.proofs.Math.Path.{ap, sym}
use Rattle.std.proofs.Common.{◌∙◌, subst, ⊎_elim, arith, eq-or-lt_of_le, take-append-drop}
use mathlib.Core.List.{List, [], ◌∷◌, ◌++◌, append-nil, nil≢cons, head-eq_of_cons-eq, tail-eq_of_cons-eq}
use Rattle.std.proofs.Math.Seq.{take-length, drop-length}
use Rattle.flash.specs.Stores.{Store, apply, made, made_first, Step, ◌then◌, each}
use Rattle.flash.specs.Laws.{le_or_lt, made_append, first_none, first_all, first_then}
use Rattle.rules.specs.declared.Area.{Area}
use Rattle.demands.specs.Terms.{Fair, fair_end, fair_put, fair_wipe}

-- the flash after all stores of a step
abbrev pub after : Step → List ℕ → List ℕ
after s f = made (s f) f

pub after_then : (s t : Step) (f : List ℕ) → after (s then t) f ≡ after t (after s f)
after_then s t f = made_append (s f) (t (after s f)) f

pub fair_append : {a : Area} {x y : List Store} {f : List ℕ} → Fair a x f → Fair a y (made x f) → Fair a (x ++ y) f
fair_append fair_end q = q
fair_append (fair_put l e c) q = fair_put l e (fair_append c q)
fair_append (fair_wipe i l c) q = fair_wipe i l (fair_append c q)

-- ---- taken up again
-- Cut anywhere on a flash that it was meant for, the step leaves such a flash, and made anew ends where it would have.
pub record Resumes (I : List ℕ → Type 0) (s : Step) : Type 0 where
  pub keeps : (f : List ℕ) → I f → (k : ℕ) → I (made_first k (s f) f)
  pub again : (f : List ℕ) → I f → (k : ℕ) → after s (made_first k (s f) f) ≡ after s f

-- two steps: the first leaves the flash fit for the second, and has nothing to do on such a flash
module _ {I J : List ℕ → Type 0} {s t : Step} (rs : Resumes I s) (rt : Resumes J t)
    (arrives : (f : List ℕ) → I f → J (after s f)) (back : (f : List ℕ) → J f → I f) (rests : (f : List ℕ) → J f → s f ≡ []) where
  record Both (f g : List ℕ) : Type 0 where
    keep : I g
    same : after (s then t) g ≡ after (s then t) f

  short : (f : List ℕ) → I f → (k : ℕ) → k < length (s f) → Both f (made_first k ((s then t) f) f)
  short f i k h =
      let g = made_first k (s f) f in
      let z : k - length (s f) ≡ 0 = omega arith in
      let e : made_first k ((s then t) f) f ≡ made_first k (s f) f = first_then k s t f ∙ rw z (first_none (t (made_first k (s f) f)) (made_first k (s f) f)) in
      rw e (record {
        keep = rs.keeps f i k;
        same = after_then s t g ∙ ap (after t) (rs.again f i k) ∙ sym (after_then s t f);
      })

  long : (f : List ℕ) → I f → (k : ℕ) → length (s f) ≤ k → Both f (made_first k ((s then t) f) f)
  long f i k h =
      let j = arrives f i in
      let n = k - length (s f) in
      let g = made_first (k - length (s f)) (t (after s f)) (after s f) in
      let e : made_first k ((s then t) f) f ≡ made_first (k - length (s f)) (t (after s f)) (after s f) =
      first_then k s t f ∙ ap (λ (u : List ℕ). made_first (k - length (s f)) (t u) u) (first_all k (s f) f h) in
      let r = rests g (rt.keeps (after s f) j n) in
      rw e (record {
        keep = back g (rt.keeps (after s f) j n);
        same = after_then s t g ∙ ap (λ (u : List Store). after t (made u g)) r ∙ rt.again (after s f) j n ∙ sym (after_then s t f);
      })

  both : (f : List ℕ) → I f → (k : ℕ) → Both f (made_first k ((s then t) f) f)
  both f i k = ⊎_elim (long f i k) (short f i k) (le_or_lt (length (s f)) k)

  pub then_resumes : Resumes I (s then t)
  then_resumes = record { keeps = λ f i k. (both f i k).keep; again = λ f i k. (both f i k).same }

-- ---- going on with what is left
-- After the first of its stores, which is fair and keeps what S says, the step has the others to make.
pub record Peels (a : Area) (S : List ℕ → List ℕ → Type 0) (I : List ℕ → Type 0) (s : Step) : Type 0 where
  pub first : (f : List ℕ) → I f → (x : Store) (xs : List Store) → s f ≡ x ∷ xs → Fair a (x ∷ []) f × I (apply x f) × (s (apply x f) ≡ xs) × S f (apply x f)

module _ {a : Area} {S : List ℕ → List ℕ → Type 0} {I : List ℕ → Type 0} {s : Step} (p : Peels a S I s) where
  peel : (ss : List Store) (k : ℕ) (f : List ℕ) → I f → s f ≡ ss → I (made (take k ss) f) × (s (made (take k ss) f) ≡ drop k ss)
  peel [] zero f i e = (i, e)
  peel [] (suc k) f i e = (i, e)
  peel (x ∷ xs) zero f i e = (i, e)
  peel (x ∷ xs) (suc k) f i e = let q = p.first f i x xs e in peel xs k (apply x f) q.1 q.2

  pub peels_resumes : Resumes I s
  unfolding made_first
  peels_resumes = record {
    keeps = λ f i k. (peel (s f) k f i refl).0;
    again = λ f i k.
        ap (λ (u : List Store). made u (made_first k (s f) f)) (peel (s f) k f i refl).1
        ∙ sym (made_append (take k (s f)) (drop k (s f)) f)
        ∙ ap (λ (u : List Store). made u f) (take-append-drop k (s f));
  }

  -- made whole, it has nothing left to do
  pub peels_ends : (f : List ℕ) → I f → I (after s f) × (s (after s f) ≡ [])
  peels_ends f i =
      let q = peel (s f) (length (s f)) f i refl in
      let e : made (take (length (s f)) (s f)) f ≡ after s f = ap (λ (u : List Store). made u f) (take-length (s f)) in
      (subst I e q.0, ap s (sym e) ∙ q.1 ∙ drop-length (s f))

  -- and it keeps what each of its stores keeps
  module _ (same : (f : List ℕ) → S f f) (on : (f g h : List ℕ) → S f g → S g h → S f h) where
    same_from : (ss : List Store) (f : List ℕ) → I f → s f ≡ ss → S f (made ss f)
    same_from [] f i e = same f
    same_from (x ∷ xs) f i e = let q = p.first f i x xs e in on f (apply x f) (made xs (apply x f)) q.3 (same_from xs (apply x f) q.1 q.2)

    pub peels_same : (f : List ℕ) → I f → S f (after s f)
    peels_same f i = same_from (s f) f i refl

  fair_from : (ss : List Store) (f : List ℕ) → I f → s f ≡ ss → Fair a ss f
  fair_from [] f i e = fair_end
  fair_from (x ∷ xs) f i e = let q = p.first f i x xs e in fair_append q.0 (fair_from xs (apply x f) q.1 q.2)

  pub peels_fair : (f : List ℕ) → I f → Fair a (s f) f
  peels_fair f i = fair_from (s f) f i refl

-- two such steps, the second on the flash on which the first has nothing to do
pub then_peels : {a : Area} {S : List ℕ → List ℕ → Type 0} {I J : List ℕ → Type 0} {s t : Step} → Peels a S I s → Peels a S J t → ((f : List ℕ) → I f → s f ≡ [] → J f)
    → ((f : List ℕ) → J f → I f × (s f ≡ [])) → Peels a S I (s then t)
then_peels {a} {S} {I} {J} {s} {t} p q to from = record { first = λ f i x xs e. go f i x xs e (s f) refl }
  where
    go : (f : List ℕ) → I f → (x : Store) (xs : List Store) → (s then t) f ≡ x ∷ xs → (ss : List Store) → s f ≡ ss → Fair a (x ∷ []) f × I (apply x f) × ((s then t) (apply x f) ≡ xs) × S f (apply x f)
    go f i x xs e [] z =
        let y : t f ≡ x ∷ xs = ap (λ (u : List Store). u ++ t (made u f)) (sym z) ∙ e in
        let r = q.first f (to f i z) x xs y in
        let b = from (apply x f) r.1 in
        (r.0, b.0, ap (λ (u : List Store). u ++ t (made u (apply x f))) b.1 ∙ r.2, r.3)
    go f i x xs e (y ∷ ys) z =
        let c : y ∷ (ys ++ t (made ys (apply y f))) ≡ x ∷ xs = ap (λ (u : List Store). u ++ t (made u f)) (sym z) ∙ e in
        let h : y ≡ x = head-eq_of_cons-eq c in
        let l : ys ++ t (made ys (apply y f)) ≡ xs = tail-eq_of_cons-eq c in
        let r = p.first f i x ys (z ∙ ap (λ (u : Store). u ∷ ys) h) in
        (r.0, r.1, ap (λ (u : List Store). u ++ t (made u (apply x f))) r.2 ∙ ap (λ (u : Store). ys ++ t (made ys (apply u f))) (sym h) ∙ l, r.3)

-- one for every page: I i is what is wanted when the steps before i have nothing to do
module _ {a : Area} {S : List ℕ → List ℕ → Type 0} (t : ℕ → Step) (I : ℕ → List ℕ → Type 0) (top : ℕ) (one : (i : ℕ) → i < top → Peels a S (I i) (t i))
    (on : (i : ℕ) (f : List ℕ) → i < top → I i f → t i f ≡ [] → I (suc i) f)
    (back : (i : ℕ) (f : List ℕ) → i < top → I (suc i) f → I i f × (t i f ≡ [])) where
  pub each_peels : (n i : ℕ) → i + n ≡ top → Peels a S (I i) (each t n i)
  each_peels zero i e = record { first = λ f j x xs c. absurd (nil≢cons c) }
  each_peels (suc n) i e = then_peels (one i (omega arith)) (each_peels n (suc i) (omega arith)) (λ f j z. on i f (omega arith) j z) (λ f j. back i f (omega arith) j)

  pub each_ends : (n i : ℕ) → i + n ≡ top → (f : List ℕ) → I i f → each t n i f ≡ [] → I top f
  each_ends zero i e f j c = let z : i ≡ top = omega arith in subst (λ (u : ℕ). I u f) z j
  each_ends (suc n) i e f j c = go (t i f) refl c (λ k d. each_ends n (suc i) (omega arith) f k d)
    where
      go : (ss : List Store) → t i f ≡ ss → ss ++ each t n (suc i) (made ss f) ≡ [] → (I (suc i) f → each t n (suc i) f ≡ [] → I top f) → I top f
      go [] z d ih = ih (on i f (omega arith) j z) d
      go (y ∷ ys) z d ih = absurd (nil≢cons (sym d))

  pub each_rests : (n i : ℕ) → i + n ≡ top → (f : List ℕ) → I top f → I i f × (each t n i f ≡ [])
  each_rests zero i e f j = let z : top ≡ i = omega arith in (subst (λ (u : ℕ). I u f) z j, refl)
  each_rests (suc n) i e f j =
      let r = each_rests n (suc i) (omega arith) f j in
      let b = back i f (omega arith) r.0 in
      (b.0, ap (λ (u : List Store). u ++ each t n (suc i) (made u f)) b.1 ∙ r.1)

-- steps with nothing to do, and all but one with nothing to do
each_none : (t : ℕ → Step) (n j : ℕ) (f : List ℕ) → ((l : ℕ) → j ≤ l → l < j + n → t l f ≡ []) → each t n j f ≡ []
each_none t zero j f h = refl
each_none t (suc n) j f h = rw (h j (omega arith) (omega arith)) (each_none t n (suc j) f (λ l lo hi. h l (omega arith) (omega arith)))

pub each_one : (t : ℕ → Step) (i n j : ℕ) (f : List ℕ) → j ≤ i → i < j + n → ((l : ℕ) → l < j + n → i ≢ l → t l f ≡ [])
    → ((l : ℕ) → l < j + n → i ≢ l → t l (after (t i) f) ≡ []) → each t n j f ≡ t i f
each_one t i zero j f lo hi h k = absurd (omega arith)
each_one t i (suc n) j f lo hi h k =
    ⊎_elim here (λ (q : j < i). rw (h j (omega arith) (λ c. omega arith)) (each_one t i n (suc j) f q (omega arith) (λ l b c. h l (omega arith) c) (λ l b c. k l (omega arith) c))) (eq-or-lt_of_le lo)
  where
    here : j ≡ i → each t (suc n) j f ≡ t i f
    here q =
        rw q (ap (λ (u : List Store). t i f ++ u) (each_none t n (suc i) (after (t i) f) (λ l a b. k l (omega arith) (λ c. omega arith))) ∙ append-nil (t i f))
