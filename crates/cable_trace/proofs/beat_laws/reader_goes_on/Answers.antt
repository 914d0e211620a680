use Rattle.cable_trace.proofs.BeatKeeps.{reader_goes, reader_draws_one}
use Rattle.cable_trace.proofs.beat_laws.reader_goes_on.Goals as goal

pub returns-clause-same : goal.returns-clause-same
returns-clause-same g c = λ writer reader new h l e. reader_goes writer reader h new l e

pub returns-clause-draws : goal.returns-clause-draws
returns-clause-draws g c = λ ticket writer reader new h l e above. reader_draws_one writer reader h new ticket l e above
