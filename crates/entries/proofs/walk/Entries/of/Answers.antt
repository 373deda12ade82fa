-- `of` begins in front of the area's first entry. Assumes nothing.
use Rattle.std.proofs.Common.{refl}
use Rattle.entries.specs.Ahead.{first_over}
use Rattle.entries.proofs.walk.Entries.of.Goals as goal

pub returns : goal.returns
returns c = first_over refl refl c.first-cursor.ensures
