use Rattle.cable_trace.specs.Beat.{stored_by, loaded_by}
use Rattle.cable_trace.proofs.Elsewhere.{told_same}
use Rattle.cable_trace.proofs.beat_laws.leaves_beat.Goals as goal

pub returns-clause-stores : goal.returns-clause-stores
returns-clause-stores g c = λ ticket trace action e. told_same (λ event. stored_by event.ticket event.action) trace.events (record { ticket = ticket; action = action }) e

pub returns-clause-loads : goal.returns-clause-loads
returns-clause-loads g c = λ ticket trace action e. told_same (λ event. loaded_by event.ticket event.action) trace.events (record { ticket = ticket; action = action }) e
