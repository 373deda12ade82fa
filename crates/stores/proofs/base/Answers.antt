-- `base` multiplies. Assumes nothing.
use Rattle.std.proofs.Common.{rules}
use Rattle.stores.specs.Making.{makings}
use Rattle.stores.proofs.base.Goals as goal

pub returns : goal.returns
returns c = search (rules, makings)
