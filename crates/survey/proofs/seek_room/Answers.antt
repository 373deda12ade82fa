-- `seek_room` goes page by page, and on each from entry to entry as the walk does, until a seal leaves the room. Assumes nothing.
use Rattle.std.proofs.Common.{rules}
use Rattle.survey.specs.Passing.{seeks}
use Rattle.survey.proofs.seek_room.Goals as goal

pub pages-init : goal.pages-init
pages-init c = search (rules, seeks)

pub entries-init : goal.entries-init
entries-init c = search (rules, seeks)

pub summary_on-summary-requires : goal.summary_on-summary-requires
summary_on-summary-requires c = search (rules, seeks, c.in_default.ensures.none)

pub entries-preserved : goal.entries-preserved
entries-preserved c = search (rules, seeks, c.in-Some.ensures.some)

pub pages-preserved : goal.pages-preserved
pages-preserved c = search (rules, seeks, c.in_default.ensures.none)

pub returns-then-area-index : goal.returns-then-area-index
returns-then-area-index c = search (rules, seeks)

pub returns-then-stop-asked : goal.returns-then-stop-asked
returns-then-stop-asked c = search (rules, seeks, c.in_default.ensures.none)
