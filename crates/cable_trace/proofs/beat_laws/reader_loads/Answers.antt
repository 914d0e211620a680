use Rattle.cable_trace.proofs.BeatKeeps.{reader_loaded}
use Rattle.cable_trace.proofs.beat_laws.reader_loads.Goals as goal

pub returns : goal.returns
returns g c = λ ticket number writer reader h e above l. reader_loaded writer reader h ticket number e above l
