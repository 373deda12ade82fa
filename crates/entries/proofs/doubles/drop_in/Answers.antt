-- `drop_in` finds no handle that is live twice, and stores nothing; it looks for another behind one. Assumes nothing.
use Rattle.std.proofs.Common.{rules}
use Rattle.entries.specs.Doubles.{dropped}
use Rattle.entries.specs.Held.{held_once}
use Rattle.entries.proofs.doubles.drop_in.Goals as goal

pub returns-in_default : goal.returns-in_default
returns-in_default c = held_once c.as_run-run.ensures c.in_default.ensures.twice

pub doubled-other-requires : goal.doubled-other-requires
doubled-other-requires c = search (rules, dropped)
