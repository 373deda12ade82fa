-- What stores make of an area that is lent for storing, and laws: one run behind another, and a loop of them. Assumes nothing.
use Rattle.std.specs.Prelude.{◌≡◌, refl, List, ℕ, ◌+◌, ◌≤◌, ◌<◌}
use Rattle.std.proofs.Common.{◌∙◌}
use Rattle.flash.specs.Stores.{Store, Step, each, Ran}
use Rattle.flash.specs.Laws.{Turn, turn_start, turn_on, turn_end}
use Rattle.area.specs.declared.held.Held.{Held}

-- The stores ss were asked for on what is held: its power and its run are as they leave them, and it is the same area in the same run.
pub record Runs (ss : List Store) (old new : Held) : Type 0 where
  pub ran : Ran ss old.power old.run.now new.power new.run.now
  pub area : new.area ≡ old.area
  pub same : new.run.ghost_name ≡ old.run.ghost_name

-- two runs, one behind the other, that come to a third
pub runs_over : {ss ts us : List Store} {x y z : Held} → Runs ss x y → Runs ts y z → Ran us x.power x.run.now z.power z.run.now → Runs us x z
runs_over p q r = record { ran = r; area = q.area ∙ p.area; same = q.same ∙ p.same }

-- A loop over the steps t 0, .., t (n - 1), begun at x, stands before step i at y.
pub record Going (t : ℕ → Step) (n : ℕ) (x : Held) (i : ℕ) (y : Held) : Type 0 where
  pub turn : Turn t n x.power x.run.now i y.power y.run.now
  pub area : y.area ≡ x.area
  pub same : y.run.ghost_name ≡ x.run.ghost_name

pub going_start : {t : ℕ → Step} {n : ℕ} {x : Held} → Going t n x 0 x
going_start = record { turn = turn_start; area = refl; same = refl }

pub going_on : {t : ℕ → Step} {n i : ℕ} {x y z : Held} → Going t n x i y → i < n → Runs (t i y.run.now) y z → Going t n x (i + 1) z
going_on g l r = record { turn = turn_on g.turn l r.ran; area = r.area ∙ g.area; same = r.same ∙ g.same }

pub going_end : {t : ℕ → Step} {n i : ℕ} {x y : Held} → Going t n x i y → n ≤ i → Runs (each t n 0 x.run.now) x y
going_end g l = record { ran = turn_end g.turn l; area = g.area; same = g.same }

-- what the proof of a function over what is held hands to search
pub ruleset goings = (going_start, going_on, going_end)
