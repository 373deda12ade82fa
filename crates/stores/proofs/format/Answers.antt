-- `format` frees R, and makes the pages empty. Assumes nothing.
use Rattle.std.proofs.Common.{rules}
use Rattle.stores.specs.Held.{held_makings}
use Rattle.stores.proofs.format.Goals as goal

pub returns : goal.returns
returns c = search (rules, held_makings)
