use Rattle.std.proofs.Common.{sym, subst}
use Rattle.std.proofs.Math.Logic.{∥∥₁_map}
use Rattle.atom_core.specs.Value.{holding, sequence}
use Rattle.atom_core.specs.Atoms.{AreEvents, events_in}
use Rattle.stock_tank.proofs.Requesting.{some_held, nothing_spelled, sequence_spelled}
use Rattle.stock_tank.proofs.requests.events_in.Goals as goal

pub over-requires : goal.over-requires
over-requires c = ∣ nothing_spelled ∣₁

pub returns-in-Some-clause-spelled : goal.returns-in-Some-clause-spelled
returns-in-Some-clause-spelled c = ∥∥₁_map c.args.view.spelled (λ a. some_held c.in-Some.events (events_in a.0) (c.in-Some.ensures a.0 a.1))

pub returns-in-Some-clause-events : goal.returns-in-Some-clause-events
returns-in-Some-clause-events c = λ parts spells. sequence_spelled c.args.view.bytes.now c.in-Some.events parts spells c.in-Some.ensures

pub returns-in-None-clause-spelled : goal.returns-in-None-clause-spelled
returns-in-None-clause-spelled c = ∣ subst AreEvents (sym c.over.ensures) nothing_spelled ∣₁

pub returns-in-None-clause-events : goal.returns-in-None-clause-events
returns-in-None-clause-events c = λ parts spells. absurd (c.in-None.ensures (holding sequence parts) spells)
