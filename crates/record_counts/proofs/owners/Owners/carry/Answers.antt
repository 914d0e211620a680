use Rattle.std.proofs.Common.{sym}
use Rattle.record_terms.specs.Message.{meaning_of}
use Rattle.record_counts.specs.Owners.{owners_at}
use Rattle.record_counts.specs.Step.{step_of}
use Rattle.record_counts.proofs.OwnerLaws.{carried, not_carried}
use Rattle.record_counts.proofs.owners.Owners.carry.Goals as goal

pub returns-in-Some : goal.returns-in-Some
returns-in-Some c h is told =
    let x = step_of c.args.entry (meaning_of c.args.about) in
    carried c.args.shape.now h x c.args.self.now told c.in-Some.inst c.put.new.self is (sym c.in-Some.ensures)
    (c.put.ensures.each (owners_at c.args.shape.now h) told.each) c.put.ensures.all

pub returns-in-None : goal.returns-in-None
returns-in-None c h is told =
    not_carried c.args.shape.now h (step_of c.args.entry (meaning_of c.args.about)) c.args.self.now told is (sym c.in-None.ensures)
