use Rattle.std.proofs.Common.{sym, ap, ◌∙◌, set}
use Rattle.step_law.specs.declared.actor.Actor.TheVariants.{Control}
use Rattle.step_law.specs.declared.call.Call.TheVariants.{Activate}
use Rattle.step_record.specs.Entry.{begin_of, end_of}
use Rattle.replay_core.specs.Run.{moment_of}
use Rattle.replay_core.proofs.RunLemmas.{steps-called, changed-at, uris-set}
use Rattle.replay_core.proofs.run.Run.activate.Goals as goal

pub returns-clause-plays : goal.returns-clause-plays
returns-clause-plays g c =
    let run = c.args.self.now in
    let i = c.args.inst in
    let front = c.index_mut.result.now in
    record {
      steps = steps-called run.steps c.push.new.self c.push-2.new.self c.begin.result c.end.result (begin_of Control Activate i) (end_of Control Activate i) c.in_ok-push.ensures.ok c.in_ok-push-2.ensures.ok c.begin.ensures c.end.ensures;
      moment = ap (λ (f : g.row.C-Front.Denot). record (moment_of run) { fronts = set run.fronts.items i f }) c.activate.ensures.value ∙ sym (changed-at g.C.Front.Front.activate_of (moment_of run) i front c.requires.there c.index_mut.ensures.value);
      running = record {
        fronts = uris-set g.C.Front.Front.uri_of c.args.session.now run.fronts.items i front _ c.requires.running.fronts c.index_mut.ensures.value c.activate.ensures.uri;
        desk = c.requires.running.desk;
      };
    }
