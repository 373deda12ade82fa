-- `bare_found` stores by what was found. Assumes nothing.
use Rattle.std.proofs.Common.{rules}
use Rattle.stores.specs.Making.{bares}
use Rattle.stores.proofs.bare_found.Goals as goal

pub returns-in-None : goal.returns-in-None
returns-in-None c = search (rules, bares)
