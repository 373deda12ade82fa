-- `live_length` counts live words. Assumes nothing.
use Rattle.std.proofs.Common.{rules}
use Rattle.stores.specs.Making.{places}
use Rattle.compaction.specs.Copying.{fills}
use Rattle.compaction.proofs.live_length.Goals as goal

pub returns : goal.returns
returns c = search (rules, fills, places)
