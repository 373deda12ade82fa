-- What a look at an area says to who looked: the refusals, that R is free and all pages are sealed or that they are not, and what was found.
-- Laws. Assumes nothing.
use Rattle.std.specs.Prelude.{◌≡◌, refl, List, [], ◌∷◌, ◌++◌, Bool, true, false, cond, ℕ, Option, Some, None, Result, Ok, Err}
use Rattle.std.proofs.Common.{sym, ◌∙◌, arith}
use Rattle.std.proofs.Math.Path.{ap}
use Rattle.rules.specs.declared.Area.{Area}
use Rattle.rules.specs.declared.Refusal.{Refusal}
use Rattle.rules.specs.Areas.{entries}
use Rattle.rules.specs.Refusals.{checked, recover_checks}
use Rattle.rules.specs.Laws.{Passed, checked_passed}
use Rattle.rules.specs.Places.{Right, right_of}
use Rattle.entries.specs.Noting.{all_noted, any_handle, blank_map, nothing}
use Rattle.survey.specs.declared.Sight.{Sight}
use Rattle.survey.specs.Surveying.{view_of, all_sealed, sight_of, looked}

-- what is refused by checks is refused by whoever makes them first, whatever checks follow
pub refused_on : {A B : Type 0} {why : Refusal} (refused : Refusal → A) (refuses : Refusal → B) → ((u v : Refusal) → refused u ≡ refused v → u ≡ v) → (cs ds : List (Bool × Refusal)) (x : A) (y : B)
    → ((u : Refusal) → refused u ≡ x → ⊥) → checked refused cs x ≡ refused why → refuses why ≡ checked refuses (cs ++ ds) y
refused_on {why = why} refused refuses same [] ds x y n e = absurd (n why (sym e))
refused_on {why = why} refused refuses same (c ∷ cs) ds x y n e = go c.0 refl e (refused_on refused refuses same cs ds x y n)
  where
    go : (b : Bool) → c.0 ≡ b → cond b (refused c.1) (checked refused cs x) ≡ refused why → (checked refused cs x ≡ refused why → refuses why ≡ checked refuses (cs ++ ds) y)
        → refuses why ≡ checked refuses (c ∷ (cs ++ ds)) y
    go true q e ih = rw q (ap refuses (same why c.1 (sym e)))
    go false q e ih = rw q (ih e)

-- what is not refused
abbrev given : Bool → Sight → Result (Option Sight) Refusal
given b s = cond b (Ok (Some s)) (Ok None)

not_refused : (b : Bool) (s : Sight) (why : Refusal) → Err why ≡ given b s → ⊥
not_refused true s why q = let z : ◌≡◌ {A = ℕ} 0 1 = cc in omega arith
not_refused false s why q = let z : ◌≡◌ {A = ℕ} 0 1 = cc in omega arith

given_sealed : (b : Bool) (s t : Sight) → given b s ≡ Ok (Some t) → (b ≡ true) × (t ≡ s)
given_sealed true s t q = (refl, let z : t ≡ s = cc in z)
given_sealed false s t q = absurd (let z : ◌≡◌ {A = ℕ} 0 1 = cc in let y : ⊥ = omega arith in y)

given_unsealed : (b : Bool) (s : Sight) → given b s ≡ Ok None → b ≡ false
given_unsealed true s q = absurd (let z : ◌≡◌ {A = ℕ} 0 1 = cc in let y : ⊥ = omega arith in y)
given_unsealed false s q = refl

module _ {l : Result (Option Sight) Refusal} (a : Area) (f : List ℕ) (h n : ℕ) (e : l ≡ looked a f h n) where
  abbrev sight : Sight
  sight = sight_of a f h n

  pub look_refused : {A : Type 0} {why : Refusal} (refused : Refusal → A) (ds : List (Bool × Refusal)) (x : A) → l ≡ Err why → refused why ≡ checked refused (recover_checks a f ++ ds) x
  look_refused refused ds x q =
      refused_on Err refused (λ u v z. let y : u ≡ v = cc in y) (recover_checks a f) ds (given (all_sealed a f) sight) x (not_refused (all_sealed a f) sight) (sym e ∙ q)

  both : (o : Result (Option Sight) Refusal) → ((why : Refusal) → Err why ≡ o → ⊥) → l ≡ o → Passed (recover_checks a f) × (given (all_sealed a f) sight ≡ o)
  both o m q = checked_passed Err (recover_checks a f) (given (all_sealed a f) sight) o m (sym e ∙ q)

  -- ---- R is not free, or a page not sealed
  module _ (q : l ≡ (Ok None)) where
    unsealed : Passed (recover_checks a f) × (given (all_sealed a f) sight ≡ (Ok None))
    unsealed = both (Ok None) (not_refused false sight) q

    pub unsealed_passed : Passed (recover_checks a f)
    unsealed_passed = unsealed.0

    pub unsealed_right : Right a f
    unsealed_right = right_of a f unsealed_passed.0

    pub unsealed_is : all_sealed a f ≡ false
    unsealed_is = given_unsealed (all_sealed a f) sight unsealed.1

  -- ---- R is free and all pages are sealed, and what was found
  module _ {s : Sight} (q : l ≡ Ok (Some s)) where
    sealed : Passed (recover_checks a f) × (given (all_sealed a f) sight ≡ Ok (Some s))
    sealed = both (Ok (Some s)) (not_refused true s) q

    pub sealed_passed : Passed (recover_checks a f)
    sealed_passed = sealed.0

    pub sealed_right : Right a f
    sealed_right = right_of a f sealed_passed.0

    its : (all_sealed a f ≡ true) × (s ≡ sight)
    its = given_sealed (all_sealed a f) sight s sealed.1

    pub sealed_is : all_sealed a f ≡ true
    sealed_is = its.0

    pub sealed_windows : s.windows ≡ (all_noted any_handle blank_map nothing (entries a f)).windows
    unfolding sight_of
    sealed_windows = ap (λ (u : Sight). u.windows) its.1

    pub sealed_view : s.view ≡ view_of a f h n
    unfolding sight_of
    sealed_view = ap (λ (u : Sight). u.view) its.1
