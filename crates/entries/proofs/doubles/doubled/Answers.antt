-- `doubled` tries one window behind the other. Assumes nothing.
use Rattle.std.proofs.Common.{sym, ◌∙◌, arith}
use Rattle.std.proofs.lemmas.Option.{IfSome_then}
use Rattle.entries.specs.Sweeping.{windowed_found, windowed_below}
use Rattle.entries.proofs.doubles.doubled.Goals as goal

pub returns-then-is_some-clause-twice : goal.returns-then-is_some-clause-twice
returns-then-is_some-clause-twice c = windowed_found c.loop-window.invariant c.repeated_if-handle.ensures.twice (sym c.is_some.ensures ∙ c.if-is_some.true)

pub returns-then-is_some-clause-below : goal.returns-then-is_some-clause-below
returns-then-is_some-clause-below c = IfSome_then c.repeated_if-handle.result c.repeated_if-handle.ensures.within (λ h e. windowed_below c.loop-window.invariant (omega arith))
