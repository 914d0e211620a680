use Rattle.cable_trace.proofs.BeatKeeps.{writer_goes, writer_draws_one}
use Rattle.cable_trace.proofs.beat_laws.writer_goes_on.Goals as goal

pub returns-clause-same : goal.returns-clause-same
returns-clause-same g c = λ writer reader new h s e. writer_goes writer reader h new s e

pub returns-clause-draws : goal.returns-clause-draws
returns-clause-draws g c = λ ticket writer reader new h s e above. writer_draws_one writer reader h new ticket s e above
