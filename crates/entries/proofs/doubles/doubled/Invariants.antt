-- `doubled` tries one window behind the other. Assumes nothing.
use Rattle.entries.specs.Ahead.{entries_of}
use Rattle.entries.specs.Noting.{beside}
use Rattle.entries.specs.Sweeping.{Windowed}
use Rattle.entries.proofs.doubles.doubled.Given as goal

abbrev pub invariant-loop-window : goal.invariant-loop-window
invariant-loop-window l = Windowed (beside l.aside) (entries_of l.run) l.window
