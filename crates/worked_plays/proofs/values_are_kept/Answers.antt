use Rattle.worked_plays.proofs.Rows.{job_too_few, job_too_many, job_too_long, notice_too_few, notice_too_many}
use Rattle.worked_plays.proofs.values_are_kept.Goals as goal

pub returns-clause-job_too_few : goal.returns-clause-job_too_few
returns-clause-job_too_few c = job_too_few

pub returns-clause-job_too_many : goal.returns-clause-job_too_many
returns-clause-job_too_many c = job_too_many

pub returns-clause-job_too_long : goal.returns-clause-job_too_long
returns-clause-job_too_long c = job_too_long

pub returns-clause-notice_too_few : goal.returns-clause-notice_too_few
returns-clause-notice_too_few c = notice_too_few

pub returns-clause-notice_too_many : goal.returns-clause-notice_too_many
returns-clause-notice_too_many c = notice_too_many
