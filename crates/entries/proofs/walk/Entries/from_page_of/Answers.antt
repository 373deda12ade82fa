-- `from_page_of` takes the page by dividing. Assumes nothing.
use Rattle.std.proofs.Common.{refl}
use Rattle.entries.specs.Pages.{from_first, from_page}
use Rattle.entries.proofs.walk.Entries.from_page_of.Goals as goal

pub returns : goal.returns
returns c = from_page c.args.place refl refl c.if-area-index.false

pub returns-then-area-index : goal.returns-then-area-index
returns-then-area-index c = from_first c.args.place refl c.first-cursor.ensures
