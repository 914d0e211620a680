use Rattle.held_bodies.proofs.Changes.{jobs_change, responses_change, local_change, replies_change, others_stay}
use Rattle.held_bodies.proofs.laws.bodies_change.Goals as goal

pub returns-clause-jobs : goal.returns-clause-jobs
returns-clause-jobs c = jobs_change

pub returns-clause-responses : goal.returns-clause-responses
returns-clause-responses c = responses_change

pub returns-clause-local : goal.returns-clause-local
returns-clause-local c = local_change

pub returns-clause-replies : goal.returns-clause-replies
returns-clause-replies c = replies_change

pub returns-clause-others : goal.returns-clause-others
returns-clause-others c = others_stay
