use Rattle.std.proofs.Common.{◌≡◌, ◌<◌, length, Some, ap, ap₂, ◌∙◌}
use Rattle.record_counts.specs.declared.owners.Owner.{Owner}
use Rattle.record_counts.specs.declared.owners.PartOwners.{PartOwners}
use Rattle.record_terms.specs.Message.{meaning_of}
use Rattle.record_counts.specs.Owners.{next_owners}
use Rattle.record_counts.specs.Step.{step_of}
use Rattle.record_counts.proofs.OwnerLaws.{put_one}
use Rattle.record_counts.proofs.owners.Owners.put.Goals as goal

pub returns-in-Some-clause-each : goal.returns-in-Some-clause-each
returns-in-Some-clause-each c f table =
    let now : PartOwners = record { front = c.next_owner-front.result; back = c.next_owner-back.result } in
    let same : c.args.inst < length c.args.self.now → now ≡ next_owners c.args.shape.now (step_of c.args.entry (meaning_of c.args.about)) c.args.inst (f c.args.inst) =
    λ within.
    let found : Some c.in-Some.owners ≡ Some (f c.args.inst) = c.in-Some.ensures ∙ rw c.self.view_is at c.get.ensures.value ∙ table c.args.inst within in
    let owners : c.in-Some.owners ≡ f c.args.inst = cc in
    ap₂ (λ (a b : Owner). let it : PartOwners = record { front = a; back = b } in it) c.next_owner-front.ensures c.next_owner-back.ensures
    ∙ ap (next_owners c.args.shape.now (step_of c.args.entry (meaning_of c.args.about)) c.args.inst) owners in
    rw (c.set.ensures, c.self.view_is)
    (put_one c.args.shape.now (step_of c.args.entry (meaning_of c.args.about)) c.args.inst f c.args.self.now now table same)
