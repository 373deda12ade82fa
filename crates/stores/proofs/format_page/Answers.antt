-- `format_page` erases, and stores three words. Assumes nothing.
use Rattle.std.proofs.Common.{rules}
use Rattle.stores.specs.Held.{held_makings}
use Rattle.stores.proofs.format_page.Goals as goal

pub returns : goal.returns
returns c = search (rules, held_makings)
