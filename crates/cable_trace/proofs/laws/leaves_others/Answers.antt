use Rattle.std.proofs.Common.{refl}
use Rattle.cable_trace.proofs.Elsewhere.{event_sends, event_takes, pending_takes}
use Rattle.cable_trace.proofs.laws.leaves_others.Goals as goal

pub returns-clause-event_sends : goal.returns-clause-event_sends
returns-clause-event_sends g c = λ ring ticket trace action e. event_sends ring ticket trace action e

pub returns-clause-event_takes : goal.returns-clause-event_takes
returns-clause-event_takes g c = λ ring ticket trace action e none. event_takes ring ticket trace action e none

pub returns-clause-pending_sends : goal.returns-clause-pending_sends
returns-clause-pending_sends g c = λ ring trace pending. record { sends = refl; refusals = refl }

pub returns-clause-pending_takes : goal.returns-clause-pending_takes
returns-clause-pending_takes g c = λ ring trace pending e. pending_takes ring trace pending e
