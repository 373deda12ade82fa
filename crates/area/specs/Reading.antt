-- That a run is an area with its words, and laws. Assumes nothing.
use Rattle.std.specs.Prelude.{◌≡◌, refl, List, Bool, true, ℕ}
use Rattle.std.proofs.Common.{sym, ◌∙◌}
use Rattle.rules.specs.declared.Area.{Area}
use Rattle.rules.specs.declared.Refusal.{Refusal}
use Rattle.rules.specs.declared.Refusal.TheVariants.{Geometry}
use Rattle.rules.specs.Refusals.{wrong_geometry}
use Rattle.area.specs.declared.run.Run.{Run}

-- A run shows an area with these words.
pub record Shows (a : Area) (f : List ℕ) (r : Run) : Type 0 where
  pub area : r.area ≡ a
  pub words : r.words.now ≡ f

pub shown : {a : Area} {f : List ℕ} {r : Run} → r.area ≡ a → r.words.now ≡ f → Shows a f r
shown x y = record { area = x; words = y }

-- Words are refused as an area, for their geometry.
pub record Refuses (a : Area) (f : List ℕ) (why : Refusal) : Type 0 where
  pub wrong : wrong_geometry a f ≡ true
  pub geometry : why ≡ Geometry

pub refused : {g : Bool} {a : Area} {f : List ℕ} → g ≡ wrong_geometry a f → g ≡ true → Refuses a f Geometry
refused e q = record { wrong = sym e ∙ q; geometry = refl }

-- what the proof of a function that makes a run hands to search
pub ruleset showing = (shown, refused)
