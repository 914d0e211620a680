use Rattle.worked_plays.proofs.Rows.{three_jobs}
use Rattle.worked_plays.proofs.a_job_is_answered.Goals as goal

pub returns : goal.returns
returns c = three_jobs
