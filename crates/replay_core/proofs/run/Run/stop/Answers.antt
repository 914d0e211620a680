use Rattle.std.proofs.Common.{◌+◌, refl}
use Rattle.step_law.specs.declared.actor.Actor.TheVariants.{Audio, Control, Worker}
use Rattle.step_law.specs.declared.ring.Ring.TheVariants.{ControlToWorker}
use Rattle.step_record.specs.Entry.{stop_of, beat_of, send_of, take_of, join}
use Rattle.replay_core.proofs.RunLemmas.{six-steps, pushed}
use Rattle.replay_core.proofs.run.Run.stop.Goals as goal

pub returns-clause-plays : goal.returns-clause-plays
returns-clause-plays g c =
    let steps = c.args.self.now.steps in
    let beat = beat_of (c.args.session.now.blocks + 1) in
    let send = send_of Control (ControlToWorker 1) in
    let take = take_of (Worker 1) (ControlToWorker 1) in
    let stop = stop_of (Worker 1) in
    record {
      steps = six-steps steps c.push.new.self c.push-2.new.self c.push-3.new.self c.push-4.new.self c.push-5.new.self c.push-6.new.self (stop_of Audio) beat send take stop join
          (pushed steps c.push.new.self c.stop.result (stop_of Audio) c.in_ok-push.ensures.ok c.stop.ensures)
          (pushed c.push.new.self c.push-2.new.self c.beat.result beat c.in_ok-push-2.ensures.ok c.beat.ensures)
          (pushed c.push-2.new.self c.push-3.new.self c.send.result send c.in_ok-push-3.ensures.ok c.send.ensures)
          (pushed c.push-3.new.self c.push-4.new.self c.take.result take c.in_ok-push-4.ensures.ok c.take.ensures)
          (pushed c.push-4.new.self c.push-5.new.self c.stop-2.result stop c.in_ok-push-5.ensures.ok c.stop-2.ensures)
          (pushed c.push-5.new.self c.push-6.new.self c.join.result join c.in_ok-push-6.ensures.ok c.join.ensures);
      moment = refl;
      running = record { fronts = c.requires.running.fronts; desk = c.requires.running.desk };
    }
