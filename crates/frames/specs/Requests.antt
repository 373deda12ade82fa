-- What a request of the manager does to the flash that its area stands in: promise and laws. Assumes nothing.
use Rattle.std.specs.Prelude.{◌≡◌, ℕ, ◌≤◌, length, take}
use Rattle.std.proofs.Math.Path.{ap}
use Rattle.std.proofs.Common.{◌∙◌, length-take-le}
use mathlib.Core.List.{List, ◌++◌}
use Rattle.std.proofs.Math.ListN.{drop}
use Rattle.rules.specs.declared.Area.{Area}
use Rattle.rules.specs.Refusals.{outcome, Answer}
use Rattle.rules.specs.Lists.{Request, plan_of, format, recover, write, delete}
use Rattle.manager.specs.Storing.{Answers}
use Rattle.frames.specs.declared.Shape.{Shape}
use Rattle.frames.specs.declared.requests.Request.{Request as Asked}
use Rattle.frames.specs.Frames.{area_of, run_words, run_of, with_run}
use Rattle.frames.specs.Shapes.{RunEnd}

-- ---- the request of the rules that one of the console means
abbrev pub meant : Asked → Request
meant Asked.Format = format
meant Asked.Recover = recover
meant (Asked.Write h d) = write h d.now
meant (Asked.Delete h) = delete h

-- ---- the promise
-- of a request r with power for k stores on the area of a shape: what is answered, x, and the flash that is left, g, are the outcome of its plan on the run
pub record Makes (a : Shape) (r : Request) (k : ℕ) (f : List ℕ) (x : Answer) (g : List ℕ) : Type 0 where
  pub answer : x ≡ (outcome (plan_of (area_of a) r) k (run_of a f)).answer
  pub flash : g ≡ with_run a f (outcome (plan_of (area_of a) r) k (run_of a f)).flash

-- ---- a request on the run
module _ {a : Shape} {f : List ℕ} {end : ℕ} (e : RunEnd a f end) where
  pub run_inside : end ≤ length f
  run_inside = e.inside

  pub run_made : {b : Area} {r : Request} {k : ℕ} {x : Answer} {g : List ℕ} (q : Asked) → Answers b r k (take end f) x g → b ≡ area_of a → meant q ≡ r → Makes a (meant q) k f x (g ++ drop end f)
  unfolding with_run
  run_made {b} {r} {k} {x} {g} q m d z =
      let n : Answers (area_of a) r k (run_of a f) x g = rw (d, e.run) at m in
      rw z (record { answer = n.answer; flash = ap (λ (u : List ℕ). g ++ u) e.rest ∙ ap (λ (u : List ℕ). u ++ drop (run_words a) f) n.flash })

pub ruleset requests = (length-take-le, run_inside, run_made)
