use Rattle.std.proofs.Common.{ℕ, List, [], ◌∷◌, ap, ◌++◌, ◌∙◌}
use Rattle.step_law.specs.declared.entry.Entry.{Entry}
use Rattle.audio_api.specs.Outputs.{Outputs}
use Rattle.replay_core.specs.Pcm.{block_bytes}
use Rattle.replay_core.specs.Run.{moment_of}
use Rattle.replay_core.proofs.run.Run.end_block.Goals as goal

pub returns-clause-plays : goal.returns-clause-plays
returns-clause-plays g c =
    let run = c.args.self.now in
    record {
      steps = c.in_ok-push.ensures.ok ∙ ap (λ (e : Entry). run.steps ++ e ∷ []) c.done.ensures;
      moment = ap (λ (sound : List ℕ). record (moment_of run) { sound = sound }) (c.in_ok-push_block.ensures ∙ ap (λ (outs : Outputs). run.pcm ++ block_bytes c.args.session.now outs.blocks) c.outs.ensures);
      running = record { fronts = c.requires.running.fronts; desk = c.requires.running.desk };
    }
