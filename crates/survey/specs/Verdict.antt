-- What a look and a survey give, from what they have found: laws. Assumes nothing.
use Rattle.std.specs.Prelude.{◌≡◌, List, [], ◌∷◌, Bool, true, false, not, ◌&&◌, ℕ, ◌≤◌, Option, Some, None, Result, Ok, Err}
use Rattle.std.proofs.Math.Path.{sym, ap}
use Rattle.std.proofs.Math.Bool.{and_assoc}
use Rattle.rules.specs.declared.Area.{Area}
use Rattle.rules.specs.declared.PageSize.{PageSize}
use Rattle.rules.specs.declared.Recovery.{Recovery}
use Rattle.rules.specs.declared.Refusal.{Refusal}
use Rattle.rules.specs.declared.Refusal.TheVariants.{Damaged, Unready}
use Rattle.rules.specs.Words.{words_of, longest}
use Rattle.rules.specs.Areas.{every, recovery, is_free, is_damage, sealed_at, entries, twice, damaged, ready}
use Rattle.rules.specs.Refusals.{wrong_geometry, unready}
use Rattle.rules.specs.Places.{right_passes}
use Rattle.area.specs.declared.run.Run.{Run}
use Rattle.area.specs.Reading.{Shows, Refuses}
use Rattle.entries.specs.declared.doubles.Seen.{Seen}
use Rattle.entries.specs.Noting.{Kept}
use Rattle.survey.specs.declared.Sought.{Sought}
use Rattle.survey.specs.declared.Sight.{Sight}
use Rattle.survey.specs.Surveying.{view_of, all_sealed, sight_of, looked, surveyed}
use Rattle.survey.specs.Looking.{look_refused, unsealed_passed, unsealed_is, sealed_passed, sealed_right, sealed_is, sealed_windows, sealed_view}
use Rattle.survey.specs.Passing.{Fitting, AllPassed}

pub fitting : {a : Area} {f : List ℕ} {z : PageSize} {x : Recovery} {h n : ℕ} → words_of z ≡ a.words → x ≡ recovery a f → n ≤ longest
    → Fitting a f (record { handle = h; needed = n; size = z; recovery = x })
fitting e q l = record { size = e; recovery = q; needed = l }

-- ---- a look
-- a wrong geometry
pub shows_geometry : {why : Refusal} (a : Area) (f : List ℕ) (h n : ℕ) → Refuses a f why → Err why ≡ looked a f h n
shows_geometry a f h n x = rw (x.geometry, x.wrong)

module _ {r : Run} {x : Recovery} {d : Bool} (a : Area) (f : List ℕ) (h n : ℕ) (i : Shows a f r) (q : x ≡ recovery r.area r.words.now) (k : d ≡ is_damage x) where
  passes : wrong_geometry a f ≡ false
  passes = rw (i.area, i.words) at (right_passes r.right)

  recovery_is : x ≡ recovery a f
  recovery_is = rw (i.area, i.words) at q

  pub shows_damage : d ≡ true → Err Damaged ≡ looked a f h n
  unfolding damaged
  shows_damage u = rw (passes, ← recovery_is, ← k, u)

  module _ {o : Sought} {m : Seen} (u : d ≡ false) (w : AllPassed r.area r.words.now h n m o) where
    p : AllPassed a f h n m o
    p = rw (i.area, i.words) at w

    pub shows_unsound : not o.summary.sound ≡ true → Err Damaged ≡ looked a f h n
    unfolding damaged
    shows_unsound s = rw (passes, ← recovery_is, ← k, u, ← p.sound, s)

    module _ {b : Bool} (s : not o.summary.sound ≡ false) (y : b ≡ is_free x) where
      undamaged : damaged a f ≡ false
      unfolding damaged
      undamaged = rw (← recovery_is, ← k, u, ← p.sound, s)

      all_sealed_is : all_sealed a f ≡ b && o.summary.sealed
      unfolding all_sealed
      all_sealed_is = rw (← recovery_is, ← y, ← p.sealed)

      pub shows_unsealed : b && o.summary.sealed ≡ false → Ok None ≡ looked a f h n
      shows_unsealed v = rw (passes, undamaged, all_sealed_is, v)

      pub shows_sealed : b && o.summary.sealed ≡ true
          → Ok (Some (record { view = record { entry = o.summary.entry; live = o.summary.live; room = o.room; compact = o.summary.compact }; windows = m.windows })) ≡ looked a f h n
      unfolding sight_of
      shows_sealed v = rw (passes, undamaged, all_sealed_is, v, p.view, ap (λ (k : Kept). k.windows) p.seen)

pub ruleset looks = (fitting, shows_geometry, shows_damage, shows_unsound, shows_unsealed, shows_sealed)

-- ---- a survey
module _ {l : Result (Option Sight) Refusal} (a : Area) (f : List ℕ) (h n : ℕ) (e : l ≡ looked a f h n) where
  pub gives_refused : {why : Refusal} → l ≡ Err why → Err why ≡ surveyed a f h n
  gives_refused q = look_refused a f h n e Err ((unready a f, Unready) ∷ []) (Ok (view_of a f h n)) q

  is_ready : ready a f ≡ all_sealed a f && not (twice (entries a f))
  unfolding ready all_sealed
  is_ready = sym (and_assoc (is_free (recovery a f)) (every (sealed_at a f) a.pages 0) (not (twice (entries a f))))

  pub gives_unsealed : l ≡ Ok None → Err Unready ≡ surveyed a f h n
  unfolding unready
  gives_unsealed q = let p = unsealed_passed a f h n e q in rw (p.0, p.1.0, is_ready, unsealed_is a f h n e q)

  module _ {s : Sight} {c : Bool} (q : l ≡ Ok (Some s)) (w : c ≡ twice (entries a f)) where
    pub gives_twice : c ≡ true → Err Unready ≡ surveyed a f h n
    unfolding unready
    gives_twice z = let p = sealed_passed a f h n e q in rw (p.0, p.1.0, is_ready, sealed_is a f h n e q, ← w, z)

    pub gives_ready : c ≡ false → Ok s.view ≡ surveyed a f h n
    unfolding unready
    gives_ready z = let p = sealed_passed a f h n e q in rw (p.0, p.1.0, is_ready, sealed_is a f h n e q, ← w, z, sealed_view a f h n e q)

pub ruleset verdicts = (sealed_right, sealed_windows, gives_refused, gives_unsealed, gives_twice, gives_ready)
