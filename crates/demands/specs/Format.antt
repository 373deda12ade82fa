-- Format: its stores are fair, one and four more for each page, and on whatever flash they leave a ready area without entries.
-- Assumes nothing.
use Rattle.std.specs.Prelude.{◌≡◌, refl, List, [], ◌∷◌, true, ℕ, suc, zero, ◌+◌, ◌-◌, ◌*◌, ◌≤◌, ◌<◌, length}
use Rattle.std.proofs.Common.{ap, ◌∙◌, subst, ⊎_elim, zero-le, arith, eq-or-lt_of_le}
use Rattle.flash.specs.Stores.{none, more, made, each}
use Rattle.rules.specs.declared.Area.{Area}
use Rattle.rules.specs.Words.{meta0, meta1, seal}
use Rattle.rules.specs.Areas.{R, base, page, entries, ready}
use Rattle.rules.specs.Lists.{erase_r, format_page, format_list}
use Rattle.rules.specs.Places.{Right, right_at, page_in}
use Rattle.demands.specs.Terms.{Fair, fair_end, blanks, no_item, laid}
use Rattle.demands.specs.Stages.{fair_append}
use Rattle.demands.specs.Pages.{image}
use Rattle.demands.specs.Runs.{shape_of, meta_low, Usable, Turns, turns_as, turns_then, turns_fill, turns_wipe}
use Rattle.demands.specs.Settled.{given_made, Settled, settled_ready, laid_settled}

-- ---- one page
-- the page with the index i as format leaves it
abbrev fresh : Area → ℕ → List ℕ
fresh a i = image a.pages i [] (seal ∷ blanks (a.words - 3))

turns_format : {a : Area} {f : List ℕ} → Right a f → (i : ℕ) → i < a.pages → (x : List ℕ) → Turns a i (format_page a i f) x (fresh a i)
unfolding image
turns_format {a} r i h x =
    let w = r.wide in
    let p : a.words ≡ suc (suc (suc (a.words - 3))) = omega arith in
    let one : base a i + 1 ≡ suc (base a i) = omega arith in
    let two : base a i + 2 ≡ suc (suc (base a i)) = omega arith in
    let m = meta_low a.pages i h r.many in
    rw (one, two)
    (turns_then (turns_as refl (ap blanks p) (turns_wipe a i x (omega arith)))
    (turns_fill a i [] (meta0 ∷ (meta1 a.pages i ∷ (seal ∷ []))) (blanks (a.words - 3)) (base a i) (omega arith) (more (omega arith) (more (omega arith) (more (omega arith) none)))))

-- ---- the pages one after the other
-- format's stores for n pages from the index j on are fair on g, leave these pages fresh, and the others as they were
record Formats (a : Area) (n j : ℕ) (g : List ℕ) : Type 0 where
  fair : Fair a (each (format_page a) n j g) g
  here : (i : ℕ) → j ≤ i → i < j + n → page a (made (each (format_page a) n j g) g) i ≡ fresh a i
  there : (i : ℕ) → (j ≤ i → i < j + n → ⊥) → page a (made (each (format_page a) n j g) g) i ≡ page a g i

formats : {a : Area} (n j : ℕ) {g : List ℕ} → Right a g → j + n ≤ a.pages → Formats a n j g
formats zero j r b = record { fair = fair_end; here = λ i lo hi. absurd (omega arith); there = λ i no. refl }
formats {a} (suc n) j {g} r b =
    let k = made (format_page a j g) g in
    let o = (turns_format r j (omega arith) (page a g j)).on g (page_in r j (omega arith)) refl in
    let w = formats n (suc j) (right_at k r o.1.long) (omega arith) in
    record {
      fair = fair_append o.0 w.fair;
      here = λ i lo hi. ⊎_elim
          (λ q. subst (λ (u : ℕ). page a (made (each (format_page a) n (suc j) k) k) u ≡ fresh a u) q (w.there j (λ l m. omega arith) ∙ o.1.here))
          (λ l. w.here i l (omega arith)) (eq-or-lt_of_le lo);
      there = λ i no. w.there i (λ l m. no (omega arith) (omega arith)) ∙ o.1.there i (λ q. no (omega arith) (omega arith));
    }

-- ---- all of it
-- its stores are fair on f, leave every page fresh, and R blank
record Whole (a : Area) (f : List ℕ) : Type 0 where
  fair : Fair a (format_list a f) f
  here : (i : ℕ) → i < a.pages → page a (made (format_list a f) f) i ≡ fresh a i
  spare : page a (made (format_list a f) f) (R a) ≡ blanks a.words

whole : {a : Area} {f : List ℕ} → Usable a f → Whole a f
whole {a} {f} g =
    let r = shape_of g in
    let o = (turns_wipe a (R a) (page a f (R a)) (omega arith)).on f (page_in r (R a) (omega arith)) refl in
    let w = formats a.pages 0 (right_at (made (erase_r a f) f) r o.1.long) (omega arith) in
    record {
      fair = fair_append o.0 w.fair;
      here = λ i h. w.here i zero-le (omega arith);
      spare = w.there (R a) (λ lo hi. omega arith) ∙ o.1.here;
    }

pub format_fair : {a : Area} {f : List ℕ} → Usable a f → Fair a (format_list a f) f
format_fair g = (whole g).fair

-- pages written by the layout without an entry
laid_none : (a : Area) (n i : ℕ) → laid a (λ j. []) n i ≡ []
laid_none a zero i = refl
laid_none a (suc n) i = laid_none a n (suc i)

laid_fresh : {a : Area} {f : List ℕ} → Usable a f → Settled a (made (format_list a f) f) × (entries a (made (format_list a f) f) ≡ laid a (λ i. []) a.pages 0)
laid_fresh {a} {f} g = let w = whole g in laid_settled (given_made (format_list a f) g) (λ i. []) (λ i. a.words - 3) (λ i h. no_item) w.here w.spare

pub format_settled : {a : Area} {f : List ℕ} → Usable a f → Settled a (made (format_list a f) f)
format_settled g = (laid_fresh g).0

pub format_empty : {a : Area} {f : List ℕ} → Usable a f → entries a (made (format_list a f) f) ≡ []
format_empty {a} g = (laid_fresh g).1 ∙ laid_none a a.pages 0

pub format_ready : {a : Area} {f : List ℕ} → Usable a f → ready a (made (format_list a f) f) ≡ true
format_ready g = settled_ready (format_settled g) (rw (format_empty g))

-- ---- how many
length_each : (a : Area) (n j : ℕ) (f : List ℕ) → length (each (format_page a) n j f) ≡ 4 * n
length_each a zero j f = refl
length_each a (suc n) j f = let ih = length_each a n (suc j) (made (format_page a j f) f) in omega arith

pub format_length : (a : Area) (f : List ℕ) → length (format_list a f) ≡ 1 + 4 * a.pages
format_length a f = let e = length_each a a.pages 0 (made (erase_r a f) f) in omega arith
