-- The area of a shape, and where its run ends in a flash that may be too short for it: definition and laws. Assumes nothing.
use Rattle.std.specs.Prelude.{◌≡◌, List, ℕ, ◌+◌, ◌*◌, ◌≤◌, ◌<◌, min}
use Rattle.std.proofs.Math.Path.{sym, ap}
use Rattle.std.proofs.Common.{◌∙◌, ⊎_elim, drop_of_length-le, take_all}
use native.Mathlib.Omega.{arith}
use Rattle.std.proofs.Math.ListN.{length, take, drop}
use Rattle.std.proofs.Math.Seq.{take-length, drop-length}
use Rattle.flash.specs.Laws.{le_or_lt}
use Rattle.rules.specs.Words.{words_of}
use Rattle.frames.specs.declared.Shape.{Shape}
use Rattle.frames.specs.Frames.{run_words, run_of}

-- the run of a shape is the flash f up to a place, and behind that place is what is behind the run
pub record RunEnd (a : Shape) (f : List ℕ) (end : ℕ) : Type 0 where
  pub least : end ≡ min (run_words a) (length f)
  pub inside : end ≤ length f
  pub run : take end f ≡ run_of a f
  pub rest : drop end f ≡ drop (run_words a) f

module _ {n k : ℕ} (a : Shape) (f : List ℕ) where
  end_short : n ≡ (a.pages + 1) * words_of a.size → length f ≤ n → k ≡ length f → RunEnd a f k
  unfolding run_words run_of
  end_short e h q =
      let l : length f ≤ (a.pages + 1) * words_of a.size = omega arith in
      rw q
      (record {
        least = omega arith;
        inside = omega arith;
        run = take-length f ∙ sym (take_all ((a.pages + 1) * words_of a.size) f l);
        rest = drop-length f ∙ sym (drop_of_length-le f l);
      })

  end_run : n ≡ (a.pages + 1) * words_of a.size → n ≤ length f → k ≡ n → RunEnd a f k
  unfolding run_words run_of
  end_run e h q =
      let d = q ∙ e in
      record { least = omega arith; inside = omega arith; run = ap (λ (u : ℕ). take u f) d; rest = ap (λ (u : ℕ). drop u f) d }

  pub end_least : n ≡ (a.pages + 1) * words_of a.size → k ≡ min (length f) n → RunEnd a f k
  end_least e q =
      ⊎_elim
      (λ (h : n ≤ length f). let d : k ≡ n = omega arith in end_run e h d)
      (λ (h : length f < n). let l : length f ≤ n = omega arith in let d : k ≡ length f = omega arith in end_short e l d)
      (le_or_lt n (length f))
