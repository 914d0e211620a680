-- What control does for an action: by stages while the blocks are played, or directly once they are.
use Rattle.std.specs.Prelude.{ℕ, ◌+◌, List, [], ◌∷◌}
use Rattle.step_law.specs.declared.actor.Actor.TheVariants.{Control}
use Rattle.step_law.specs.declared.call.Call.TheVariants as call
use Rattle.step_law.specs.Entry.{late_of}
use Rattle.record_law.specs.declared.shape.ActionKind.{ActionKind}
use Rattle.record_law.specs.declared.shape.ActionKind.TheVariants.{Set, Patch, Save, RestoreSafe, Restore}
use Rattle.record_law.specs.Message.Message.{nothing, input, lend, give, save, restore}
use Rattle.record_law.specs.Task.{Due, Task}
use Rattle.record_law.specs.Task.Stage.{tell, ask, hear, front, restoring}
use Rattle.record_law.specs.Task.Task.{one}
use Rattle.record_law.specs.Audio.{whole_call}

-- what control does for action k on an instance of a worker; where it ends before it gives the front back, the restore is done
abbrev pub stages_of : ActionKind → (action inst worker : ℕ) → List Due
stages_of Set k inst worker = (k, tell (input k)) ∷ []
stages_of Patch k inst worker = (k, tell (input k)) ∷ []
stages_of Save k inst worker = (k, ask worker (save k inst)) ∷ (k, hear worker) ∷ []
stages_of RestoreSafe k inst worker = (k, ask worker (restore k inst)) ∷ (k, hear worker) ∷ []
stages_of Restore k inst worker =
    (k, tell (lend inst))
    ∷ (k, front inst)
    ∷ (k, ask worker (lend inst))
    ∷ (k, hear worker)
    ∷ (k, restoring k inst)
    ∷ (k + 1, ask worker (give inst))
    ∷ (k + 1, tell (give inst))
    ∷ []

-- an action that is left unfinished is done directly
abbrev pub finish : ActionKind → (action inst : ℕ) → List Task
finish Set k inst = one (late_of k) nothing ∷ []
finish Patch k inst = one (late_of k) nothing ∷ []
finish Save k inst = whole_call Control call.Save inst (save k inst)
finish RestoreSafe k inst = whole_call Control call.Restore inst (restore k inst)
finish Restore k inst = whole_call Control call.Restore inst (restore k inst)
