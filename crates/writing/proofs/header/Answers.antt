-- `header` adds the length to the handle. Assumes nothing.
use Rattle.std.proofs.Common.{rules}
use Rattle.stores.specs.Making.{places}
use Rattle.writing.specs.Appending.{appends}
use Rattle.writing.proofs.header.Goals as goal

pub returns : goal.returns
returns c = search (rules, appends, places)
