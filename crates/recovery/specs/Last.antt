-- What a search for the last entry remembers of a page, if anything: the place of an entry, and how many words it has. Assumes nothing.
use Rattle.std.specs.Prelude.{◌≡◌, ◌≢◌, Option, Some, None, List, ℕ, ◌+◌}
use Rattle.std.proofs.Common.{subst}
use Rattle.pages.specs.Steps.{length_at}
use Rattle.recovery.specs.Mending.{Passing, passing_on}

abbrev pub Remembering : List ℕ → ℕ → Option (ℕ × ℕ) → ℕ → Type 0
Remembering p start None at = Passing p start start 0 at
Remembering p start (Some e) at = Passing p start e.0 e.1 at × (e.1 ≢ 0)

pub remembering_on : {p : List ℕ} {start at m : ℕ} (o : Option (ℕ × ℕ)) → Remembering p start o at → m ≡ length_at p at → m ≢ 0 → Remembering p start (Some (at, m)) (at + m)
remembering_on None s e z = (passing_on s e z, z)
remembering_on (Some _) s e z = (passing_on s.0 e z, z)

pub remembered : {p : List ℕ} {start at : ℕ} {o : Option (ℕ × ℕ)} {e : ℕ × ℕ} → Remembering p start o at → o ≡ Some e → Passing p start e.0 e.1 at × (e.1 ≢ 0)
remembered {p} {start} {at} s q = subst (λ o. Remembering p start o at) q s

pub nothing_remembered : {p : List ℕ} {start at : ℕ} {o : Option (ℕ × ℕ)} → Remembering p start o at → o ≡ None → Passing p start start 0 at
nothing_remembered {p} {start} {at} s q = subst (λ o. Remembering p start o at) q s
