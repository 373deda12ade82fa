-- `put_metadata` stores two words. Assumes nothing.
use Rattle.std.proofs.Common.{rules}
use Rattle.stores.specs.Held.{held_makings}
use Rattle.stores.proofs.put_metadata.Goals as goal

pub returns : goal.returns
returns c = search (rules, held_makings)
