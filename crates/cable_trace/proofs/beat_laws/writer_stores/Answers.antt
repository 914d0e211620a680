use Rattle.cable_trace.proofs.BeatKeeps.{writer_stored}
use Rattle.cable_trace.proofs.beat_laws.writer_stores.Goals as goal

pub returns : goal.returns
returns g c = λ ticket last number writer reader h e above l higher. writer_stored writer reader h ticket last number e above l higher
