use Rattle.std.proofs.Common.{◌<◌, List, length, sym, ap, ◌∙◌, set, arith}
use Rattle.lv_base.specs.declared.number.Sample.{Sample}
use Rattle.step_law.specs.declared.actor.Actor.TheVariants.{Audio}
use Rattle.step_law.specs.declared.call.Call.TheVariants.{Run}
use Rattle.step_record.specs.Entry.{begin_of, end_of}
use Rattle.replay_core.specs.Play.{meaning_of}
use Rattle.replay_core.specs.Run.{moment_of}
use Rattle.replay_core.specs.Signals.{inputs_at}
use Rattle.replay_core.proofs.RunLemmas.{steps-called, ran-at, uris-set}
use Rattle.replay_core.proofs.run.Run.run.Goals as goal

pub returns-clause-plays : goal.returns-clause-plays
returns-clause-plays g c =
    let run = c.args.self.now in
    let s = c.args.session.now in
    let i = c.args.inst in
    let front = c.index_mut-front.result.now in
    let given = inputs_at s run.desk.outs.blocks i in
    let gives = g.C.Front.Front.run_of front given in
    let code = meaning_of g.C.Codes.make_of g.C.Front.Front.activate_of g.C.Front.Front.run_of g.C.Front.Front.deactivate_of in
    let there : i < length run.fronts.items = omega (arith, c.requires.made, c.requires.there) in
    let place : i < length run.desk.outs.blocks = omega (arith, c.requires.running.desk.places, c.requires.there) in
    record {
      steps = steps-called run.steps c.push.new.self c.push-2.new.self c.begin.result c.end.result (begin_of Audio Run i) (end_of Audio Run i) c.in_ok-push.ensures.ok c.in_ok-push-2.ensures.ok c.begin.ensures c.end.ensures;
      moment = ap (λ (f : g.row.C-Front.Denot). record (moment_of run) { fronts = set run.fronts.items i f; signals = c.run.new.self.outs.blocks }) c.run.ensures.front ∙ ap (λ (signals : List (List Sample)). record (moment_of run) { fronts = set run.fronts.items i gives.0; signals = signals }) c.run.ensures.signals ∙ sym (ran-at code s (moment_of run) i front there place c.index_mut-front.ensures.value);
      running = record {
        fronts = uris-set g.C.Front.Front.uri_of s run.fronts.items i front _ c.requires.running.fronts c.index_mut-front.ensures.value c.run.ensures.uri;
        desk = c.run.ensures.ready;
      };
    }
