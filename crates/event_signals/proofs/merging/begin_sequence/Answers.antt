use Rattle.std.proofs.Common.{subst}
use Rattle.atom_forge.specs.declared.level.Holds.TheVariants.{Events}
use Rattle.atom_forge.specs.Forged.{Puts, opening, with_container}
use Rattle.event_signals.proofs.Sequenced.{begun_by}
use Rattle.event_signals.proofs.merging.begin_sequence.Goals as goal

pub returns : goal.returns
returns c =
    begun_by c.args.into.now c.sequence.new.self c.sequence.result c.requires
    (subst (λ f. Puts f (opening 10 0 0) (with_container f Events (opening 10 0 0)) c.sequence.result c.sequence.new.self) c.clear.ensures
    c.sequence.ensures)
