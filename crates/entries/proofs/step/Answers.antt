-- `step` looks at one entry behind the other, from the place on. Assumes nothing.
use Rattle.entries.specs.Step.{step_none_reached, step_elsewhere, stepping_there, stepping_start}
use Rattle.entries.proofs.step.Goals.{then-start-ne0+in-Some+else-entry-start, else-start-ne0}
use Rattle.entries.proofs.step.Goals as goal

pub returns-then-entry-start : goal.returns-then-entry-start
returns-then-entry-start c = step_elsewhere c.from_page_of-entries.ensures c.if-start-ne0.true c.in-Some.ensures c.args.mask c.args.pattern c.if-entry-start.true

pub returns-in_default : goal.returns-in_default
returns-in_default c = step_none_reached c.from_page_of-entries.ensures c.if-start-ne0.true c.args.mask c.args.pattern c.in_default.ensures

pub loop-entry-init : goal.loop-entry-init
loop-entry-init c =
    elim c.if-start-ne0.branch [
      | then-start-ne0+in-Some+else-entry-start w ↦ rw (c.into_iter-entry-iterator.ensures.into_iter_gives, w.entries-is)
          (w.in-Some.ensures.standing, tt, stepping_there c.from_page_of-entries.ensures w.if-start-ne0.true w.in-Some.ensures w.if-entry-start.false c.args.mask c.args.pattern)
      | else-start-ne0 w ↦ rw (c.into_iter-entry-iterator.ensures.into_iter_gives, w.entries-is)
          (c.from_page_of-entries.ensures.over.standing, tt, stepping_start c.args.mask c.args.pattern c.from_page_of-entries.ensures w.if-start-ne0.false)
    ]
