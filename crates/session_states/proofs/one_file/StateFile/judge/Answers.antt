use Rattle.std.proofs.Common.{◌∙◌, arith}
use Rattle.session_states.proofs.Judging.{AreRead, passed, refused}
use Rattle.session_states.proofs.one_file.StateFile.judge.Goals as goal

pub returns-in-Ok-clause-ok : goal.returns-in-Ok-clause-ok
returns-in-Ok-clause-ok c =
    passed c.args.self.now.path.now c.args.restores.now c.args.store.now c.args.urids.now c.from_vec.result c.read.new.urids c.judge_restores.result
    (record {
      kept = c.in-Ok.ensures.kept;
      mapped = c.in-Ok.ensures.urids;
      room = omega (arith, c.held.ensures.few, c.held.ensures.value);
      states = c.from_vec.ensures ∙ c.in-Ok.ensures.states;
    })
    c.judge_restores.ensures.ok

pub returns-in-Ok-clause-err : goal.returns-in-Ok-clause-err
returns-in-Ok-clause-err c =
    refused c.args.self.now.path.now c.args.restores.now c.args.store.now c.args.urids.now c.from_vec.result c.read.new.urids c.judge_restores.result
    (record {
      kept = c.in-Ok.ensures.kept;
      mapped = c.in-Ok.ensures.urids;
      room = omega (arith, c.held.ensures.few, c.held.ensures.value);
      states = c.from_vec.ensures ∙ c.in-Ok.ensures.states;
    })
    c.judge_restores.ensures.err
