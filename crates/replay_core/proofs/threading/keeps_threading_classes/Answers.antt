use Rattle.replay_core.proofs.ThreadingLemmas.{IsOneAtATime-plain_record, calls_on-plain_record}
use Rattle.replay_core.proofs.threading.keeps_threading_classes.Goals as goal

pub returns-clause-one_at_a_time : goal.returns-clause-one_at_a_time
returns-clause-one_at_a_time c = IsOneAtATime-plain_record c.args.insts c.args.blocks

pub returns-clause-each_in_order : goal.returns-clause-each_in_order
returns-clause-each_in_order c = λ i h. calls_on-plain_record i c.args.insts c.args.blocks h
