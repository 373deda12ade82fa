-- `carry` goes by the frame. Assumes nothing.
use Rattle.std.proofs.Common.{rules}
use Rattle.frames.specs.Carrying.{by_write, by_read, by_delete, by_list, by_recover, by_power, by_format}
use Rattle.frames.proofs.carrying.Console.carry.Goals as goal

pub returns-in-Write-clause-carries : goal.returns-in-Write-clause-carries
returns-in-Write-clause-carries c = let s = c.args.self.now in by_write s.state s.flash.now c.args.line.now c.in-Some.ensures c.in-Write.is (search rules) c.request.ensures.carries

pub returns-in-Read-clause-carries : goal.returns-in-Read-clause-carries
returns-in-Read-clause-carries c = let s = c.args.self.now in by_read s.state s.flash.now c.args.line.now c.in-Some.ensures c.in-Read.is c.read.ensures

pub returns-in-Delete-clause-carries : goal.returns-in-Delete-clause-carries
returns-in-Delete-clause-carries c = let s = c.args.self.now in by_delete s.state s.flash.now c.args.line.now c.in-Some.ensures c.in-Delete.is c.request-in-Delete.ensures.carries

pub returns-in-List-clause-carries : goal.returns-in-List-clause-carries
returns-in-List-clause-carries c = let s = c.args.self.now in by_list s.state s.flash.now c.args.line.now c.in-Some.ensures c.in-List.is c.list.ensures

pub returns-in-Recover-clause-carries : goal.returns-in-Recover-clause-carries
returns-in-Recover-clause-carries c = let s = c.args.self.now in by_recover s.state s.flash.now c.args.line.now c.in-Some.ensures c.in-Recover.is c.request-in-Recover.ensures.carries

pub returns-in-Power-clause-carries : goal.returns-in-Power-clause-carries
returns-in-Power-clause-carries c =
    let s = c.args.self.now in
    by_power s.state s.flash.now c.args.line.now c.in-Some.ensures c.in-Power.is c.plain-in-Power.ensures c.from-self.ensures

pub returns-in-Format-clause-carries : goal.returns-in-Format-clause-carries
returns-in-Format-clause-carries c = let s = c.args.self.now in by_format s.state s.flash.now c.args.line.now c.in-Some.ensures c.in-Format.is c.format.ensures.carries
