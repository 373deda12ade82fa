-- `meta1` adds. Assumes nothing.
use Rattle.std.proofs.Common.{rules}
use Rattle.stores.specs.Making.{makings}
use Rattle.stores.proofs.meta1.Goals as goal

pub returns : goal.returns
returns c = search (rules, makings)
