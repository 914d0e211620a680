use Rattle.std.proofs.Common.{ap, ◌∙◌, ⊎_elim}
use Rattle.record_terms.specs.Message.{meaning_of}
use Rattle.record_counts.specs.Owners.{owners_at, is_carrying}
use Rattle.record_counts.specs.Step.{step_of}
use Rattle.record_counts.proofs.OwnerLaws.{ended}
use Rattle.record_counts.proofs.owners.Owners.go_on.Goals as goal

pub returns-in-Send : goal.returns-in-Send
returns-in-Send c h told = c.carry.ensures h (⊎_elim (λ is. ap is_carrying is) (λ is. ap is_carrying is) c.in-Send.is) told

pub returns-in-End : goal.returns-in-End
returns-in-End c h told =
    ended c.args.shape.now h (step_of c.args.entry (meaning_of c.args.about)) c.args.self.now told c.put.new.self c.in-End.is
    (c.put.ensures.each (owners_at c.args.shape.now h) told.each) c.put.ensures.all

pub returns-in-Join : goal.returns-in-Join
returns-in-Join c h told = record {
  each = c.put_all.ensures.each (owners_at c.args.shape.now h) told.all told.each;
  all = c.put_all.ensures.all ∙ told.all;
}
