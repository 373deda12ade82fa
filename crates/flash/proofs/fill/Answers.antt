-- `fill` leaves what an erase leaves. Assumes nothing.
use Rattle.std.proofs.Common.{rules}
use Rattle.flash.specs.Laws.{wiped_part}
use Rattle.flash.proofs.fill.Goals as goal

pub returns : goal.returns
returns c = wiped_part c.args.flash.now c.args.at c.args.count c.min-start.result c.min-end.result c.fill.new.self (search rules) (search rules) (search rules)
