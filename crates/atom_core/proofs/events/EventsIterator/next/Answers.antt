use Rattle.std.proofs.Common.{length, ap, sym, ◌∙◌}
use Rattle.atom_core.proofs.Timed.{takes_none}
use Rattle.atom_core.proofs.events.EventsIterator.next.Goals as goal

pub returns-in_err-event-clause-steps : goal.returns-in_err-event-clause-steps
returns-in_err-event-clause-steps c = λ parts spells.
    rw c.from_residual.ensures (takes_none c.args.self.now parts spells (sym (ap length c.self.view_is) ∙ c.in_err-event.ensures.none))
