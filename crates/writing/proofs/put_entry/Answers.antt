-- `put_entry` stores the header, the data and the seal. Assumes nothing.
use Rattle.std.proofs.Common.{rules}
use Rattle.stores.specs.Making.{places}
use Rattle.writing.specs.Appending.{appends}
use Rattle.writing.proofs.put_entry.Goals as goal

pub returns : goal.returns
returns c = search (rules, appends, places)
