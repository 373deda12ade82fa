-- Flash words, stores and power: document 01, "Words, pages, area", and demand 2's first k stores. Flash is the list of its words.
-- Definitions alone. Assumes nothing.
use Rattle.std.specs.Prelude.{◌≡◌, List, [], ◌∷◌, ◌++◌, ◌||◌, ℕ, suc, zero, ◌-◌, ◌≤◌, length, get_or, take, set, replicate, ltb}
use Rattle.std.proofs.lemmas.List.Edits.{sets}
use Rattle.std.specs.Int.Bits.{bit_and}
use Rattle.flash.specs.declared.Power.{Power}

infixr 10 ◌then◌
-- what an erase leaves in a word: the largest that 32 bits hold
abbrev pub blank : ℕ
blank = 0xFFFFFFFF

-- a list of 32-bit words
pub data Words : List ℕ → Type 0 where
  none : Words []
  more : {w : ℕ} {ws : List ℕ} → w ≤ blank → Words ws → Words (w ∷ ws)

-- a store of a word to a place, and an erase of so many words from a place on; "store" counts both
pub data Store : Type 0 where
  put : ℕ → ℕ → Store
  wipe : ℕ → ℕ → Store

-- a word store keeps only the bits set in both the old word and the stored one; outside the flash it changes nothing
unfoldable pub stored : List ℕ → ℕ → ℕ → List ℕ
stored f at w = set f at (bit_and (get_or f at 0) w)

-- an erase sets all its words blank, as far as the flash has them
unfoldable pub wiped : List ℕ → ℕ → ℕ → List ℕ
wiped f at n = sets f at (replicate n blank)

abbrev pub apply : Store → List ℕ → List ℕ
apply (put at w) f = stored f at w
apply (wipe at n) f = wiped f at n

-- all stores of a list, in order
abbrev pub made : List Store → List ℕ → List ℕ
made [] f = f
made (s ∷ ss) f = made ss (apply s f)

-- the first k stores of a list, or all of them if there are fewer
unfoldable pub made_first : ℕ → List Store → List ℕ → List ℕ
made_first k ss f = made (take k ss) f

-- words stored upward from a place
abbrev pub puts : ℕ → List ℕ → List Store
puts at [] = []
puts at (w ∷ ws) = put at w ∷ puts (suc at) ws

-- a step: the stores that it makes on the flash that it meets
abbrev pub Step : Type 0
Step = List ℕ → List Store

-- one step, then another, which reads the flash as the first left it
abbrev pub ◌then◌ : Step → Step → Step
(s then t) f = s f ++ t (made (s f) f)

-- the steps t i, t (i + 1), .., n of them, each reading the flash as the one before left it
abbrev pub each : (ℕ → Step) → ℕ → ℕ → Step
each t zero i f = []
each t (suc n) i f = t i f ++ each t n (suc i) (made (t i f) f)

-- what is left of a power when n stores have been asked for, and whether one of them went without
unfoldable pub spent : Power → ℕ → Power
spent p n = record { left = p.left - n; cut = p.cut || ltb p.left n }

-- The stores ss were asked for with the power p on the flash f: the power q is left, and the flash g.
pub record Ran (ss : List Store) (p : Power) (f : List ℕ) (q : Power) (g : List ℕ) : Type 0 where
  pub power : q ≡ spent p (length ss)
  pub words : g ≡ made_first p.left ss f
