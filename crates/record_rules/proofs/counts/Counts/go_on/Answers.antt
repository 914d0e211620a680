use Rattle.std.proofs.Common.{◌∷◌, subst}
use Rattle.record_law.specs.Message.{Message}
use Rattle.record_terms.specs.Message.{meaning_of}
use Rattle.record_counts.specs.Step.{step_of}
use Rattle.record_counts.proofs.KeptLaws.{form_kept, class_kept}
use Rattle.record_rules.specs.declared.counts.Counts.{Counts}
use Rattle.record_rules.specs.Counts.{TellsCounts}
use Rattle.record_rules.proofs.counts.Counts.go_on.Goals as goal

pub returns : goal.returns
returns c h less told kept about =
    let form = form_kept c.args.shape.now h c.args.entry kept in
    let keeps = class_kept c.args.shape.now h c.args.entry kept in
    let now : Counts = record { rings = c.go_on.new.self; looks = c.go_on-2.new.self; owners = c.go_on-3.new.self; calls = c.go_on-4.new.self; waits = c.go_on-5.new.self } in
    subst (λ (m : Message). TellsCounts c.args.shape.now (step_of c.args.entry m ∷ h) now) about
    (record {
      kept = (kept, about, told.kept);
      rings = c.go_on.ensures h (meaning_of c.args.about) less told.rings;
      looks = c.go_on-2.ensures c.args.shape.now h (meaning_of c.args.about) less told.looks;
      owners = c.go_on-3.ensures h told.owners;
      calls = c.go_on-4.ensures c.args.shape.now h (meaning_of c.args.about) form keeps told.calls;
      waits = c.go_on-5.ensures c.args.shape.now h (meaning_of c.args.about) told.waits;
    })
