-- What a survey says to the request that made it: the refusals, and of a ready area that it is, and each part of what was found. Laws.
-- Assumes nothing.
use Rattle.std.specs.Prelude.{◌≡◌, refl, List, [], Bool, true, false, cond, ℕ, suc, zero, ◌+◌, ◌<◌, Option, Some, None, Result, Ok, Err}
use Rattle.std.proofs.Common.{sym, ◌∙◌, arith}
use Rattle.std.proofs.Math.Path.{ap}
use Rattle.rules.specs.declared.Area.{Area}
use Rattle.rules.specs.declared.Refusal.{Refusal}
use Rattle.rules.specs.Walk.{stop}
use Rattle.rules.specs.Areas.{page, entries, find, live_words, ready}
use Rattle.rules.specs.Refusals.{checked, ready_checks}
use Rattle.rules.specs.Lists.{lowest, leaves_room, room_page, makes_room, compact_page}
use Rattle.rules.specs.Laws.{Passed, passed_checked, checked_passed, checked_append}
use Rattle.rules.specs.Places.{Right, right_of}
use Rattle.area.specs.Checks.{ready_is}
use Rattle.entries.specs.Ahead.{found_of}
use Rattle.std.proofs.lemmas.Option.{same_Some}
use Rattle.survey.specs.declared.FoundPage.{FoundPage}
use Rattle.survey.specs.declared.View.{View}
use Rattle.survey.specs.Surveying.{found_page, view_of, surveyed}
use Rattle.survey.specs.Looking.{refused_on}

never : {why : Refusal} {v : View} → Err why ≡ Ok v → ⊥
never q = let z : ◌≡◌ {A = ℕ} 0 1 = cc in omega arith

module _ {s : Result View Refusal} (a : Area) (f : List ℕ) (h n : ℕ) (e : s ≡ surveyed a f h n) where
  -- ---- what is refused is what the request refuses, whatever checks follow
  pub survey_refused : {A : Type 0} {why : Refusal} (refused : Refusal → A) (ds : List (Bool × Refusal)) (x : A) → s ≡ Err why
      → refused why ≡ checked refused (ready_checks a f ds) x
  survey_refused refused ds x q =
      refused_on Err refused (λ u v z. let y : u ≡ v = cc in y) (ready_checks a f []) ds (Ok (view_of a f h n)) x (λ u. never) (sym e ∙ q)

  -- ---- a ready area, and what was found of it
  module _ {v : View} (q : s ≡ Ok v) where
    both : Passed (ready_checks a f []) × (◌≡◌ {A = Result View Refusal} (Ok (view_of a f h n)) (Ok v))
    both = checked_passed Err (ready_checks a f []) (Ok (view_of a f h n)) (Ok v) (λ w z. never z) (sym e ∙ q)

    pub survey_passed : Passed (ready_checks a f [])
    survey_passed = both.0

    pub survey_on : {A : Type 0} (refused : Refusal → A) (ds : List (Bool × Refusal)) (x : A) → checked refused (ready_checks a f ds) x ≡ checked refused ds x
    survey_on refused ds x = checked_append refused (ready_checks a f []) ds x ∙ passed_checked refused (ready_checks a f []) (checked refused ds x) survey_passed

    pub survey_right : Right a f
    survey_right = right_of a f survey_passed.0

    pub survey_ready : ready a f ≡ true
    survey_ready = ready_is a f [] survey_passed

    pub survey_view : v ≡ view_of a f h n
    survey_view = let z = both.1 in cc

-- ---- a page that is found is one of the area's
found_none : (a : Area) (f : List ℕ) (o : Option ℕ) → found_page a f o ≡ None → o ≡ None
found_none a f None q = refl
found_none a f (Some j) q = absurd (let z : ◌≡◌ {A = ℕ} 0 1 = cc in let y : ⊥ = omega arith in y)

found_some : {p : FoundPage} (a : Area) (f : List ℕ) (o : Option ℕ) → found_page a f o ≡ Some p → (o ≡ Some p.index) × (p.stop ≡ stop (page a f p.index))
found_some a f None q = absurd (let z : ◌≡◌ {A = ℕ} 0 1 = cc in let y : ⊥ = omega arith in y)
found_some a f (Some j) q =
    let e = same_Some _ _ q in
    let y = ap (λ (p : FoundPage). p.index) e in
    (ap Some y, sym (ap (λ (p : FoundPage). p.stop) e) ∙ ap (λ (k : ℕ). stop (page a f k)) y)

lowest_below : (t : ℕ → Bool) (n j i : ℕ) → lowest t n j ≡ Some i → i < j + n
lowest_below t zero j i e = absurd (let z : ◌≡◌ {A = ℕ} 0 1 = cc in omega arith)
lowest_below t (suc n) j i e = go (t j) e (lowest_below t n (suc j) i)
  where
    go : (b : Bool) → cond b (Some j) (lowest t n (suc j)) ≡ Some i → (lowest t n (suc j) ≡ Some i → i < suc j + n) → i < j + suc n
    go true q ih = let z : j ≡ i = cc in omega arith
    go false q ih = let h = ih q in omega arith

module _ {i : ℕ} (a : Area) (f : List ℕ) (n : ℕ) where
  pub room_inside : room_page a f n ≡ Some i → i < a.pages
  unfolding room_page
  room_inside e = omega (arith, lowest_below (leaves_room a f n) a.pages 0 i e)

  pub compact_inside : compact_page a f n ≡ Some i → i < a.pages
  unfolding compact_page
  compact_inside e = omega (arith, lowest_below (makes_room a f n) a.pages 0 i e)

-- ---- each part of what was found
module _ {v : View} (a : Area) (f : List ℕ) (h n : ℕ) (e : v ≡ view_of a f h n) where
  pub view_entry : v.entry ≡ found_of (find h (entries a f))
  unfolding view_of
  view_entry = ap (λ (u : View). u.entry) e

  pub view_live : v.live ≡ live_words (entries a f)
  unfolding view_of
  view_live = ap (λ (u : View). u.live) e

  -- the page that has room, with the place where its walk stops
  view_room : v.room ≡ found_page a f (room_page a f n)
  unfolding view_of
  view_room = ap (λ (u : View). u.room) e

  pub room_none : v.room ≡ None → room_page a f n ≡ None
  room_none q = found_none a f (room_page a f n) (sym view_room ∙ q)

  module _ {p : FoundPage} (q : v.room ≡ Some p) where
    pub room_some : room_page a f n ≡ Some p.index
    room_some = (found_some a f (room_page a f n) (sym view_room ∙ q)).0

    pub room_stop : p.stop ≡ stop (page a f p.index)
    room_stop = (found_some a f (room_page a f n) (sym view_room ∙ q)).1

    pub room_below : p.index < a.pages
    room_below = room_inside a f n room_some

  -- the page whose compaction makes room
  view_compact : v.compact ≡ found_page a f (compact_page a f n)
  unfolding view_of
  view_compact = ap (λ (u : View). u.compact) e

  pub compact_none : v.compact ≡ None → compact_page a f n ≡ None
  compact_none q = found_none a f (compact_page a f n) (sym view_compact ∙ q)

  module _ {p : FoundPage} (q : v.compact ≡ Some p) where
    pub compact_some : compact_page a f n ≡ Some p.index
    compact_some = (found_some a f (compact_page a f n) (sym view_compact ∙ q)).0

    pub compact_below : p.index < a.pages
    compact_below = compact_inside a f n compact_some
