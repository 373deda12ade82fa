-- `read_full` stays inside the buffer. Assumes nothing.
use Rattle.std.proofs.Common.{length, ◌≡◌, ◌≤◌}
use Rattle.storings.proofs.read_full.Given as goal

abbrev pub invariant-loop : goal.invariant-loop
invariant-loop g l = (length l.text ≡ length l.initial.text) × (l.filled ≤ length l.text)
