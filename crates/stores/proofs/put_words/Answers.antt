-- `put_words` stores word by word. Assumes nothing.
use Rattle.std.proofs.Common.{rules}
use Rattle.stores.specs.Making.{makings}
use Rattle.stores.proofs.put_words.Goals as goal

pub loop-i-init : goal.loop-i-init
loop-i-init c = search (rules, makings)

pub loop-i-preserved : goal.loop-i-preserved
loop-i-preserved c = search (rules, makings)

pub returns : goal.returns
returns c = search (rules, makings)
