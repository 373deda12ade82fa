-- `drop_doubled` looks for the handle behind the entry. Assumes nothing.
use Rattle.entries.specs.Held.{behind_stored, behind_left}
use Rattle.entries.proofs.doubles.drop_doubled.Goals as goal

pub returns-then-is_behind : goal.returns-then-is_behind
returns-then-is_behind c = behind_stored c.args.entry c.args.behind c.args.only c.as_run.ensures c.is_behind.ensures c.store.ensures c.if-is_behind.true

pub returns-else-is_behind : goal.returns-else-is_behind
returns-else-is_behind c = behind_left c.args.entry c.args.behind c.args.only c.as_run.ensures c.is_behind.ensures c.if-is_behind.false
