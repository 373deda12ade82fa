-- `run` answers what it has read, and then what is left of it. Assumes nothing.
use Rattle.std.proofs.Common.{length, ◌≡◌, ◌≤◌}
use Rattle.console.proofs.run.Given as goal

abbrev pub invariant-loop : goal.invariant-loop
invariant-loop g l = (length l.text ≡ length l.initial.text) × (l.at ≤ l.filled) × (l.filled ≤ length l.text)
