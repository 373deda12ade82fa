-- `seek_room` goes page by page, and on each from entry to entry as the walk does, until a seal leaves the room. Assumes nothing.
use Rattle.std.proofs.Common.{length, ◌-◌}
use Rattle.survey.specs.Passing.{Roomless, Entered}
use Rattle.survey.proofs.seek_room.Given as goal

abbrev pub invariant-entries : goal.invariant-entries
invariant-entries l = Entered l.run.area l.run.words.now l.asked l.last l.index l.initial.seen l.summary l.page l.walk l.seen

abbrev pub decreases-entries : goal.decreases-entries
decreases-entries l = length l.page - l.walk.stop

abbrev pub invariant-pages : goal.invariant-pages
invariant-pages l = Roomless l.run.area l.run.words.now l.asked l.index l.seen l.summary

abbrev pub decreases-pages : goal.decreases-pages
decreases-pages l = l.run.area.pages - l.index
