-- What control has left to do at each stage of its work, and what an entry makes of that.
use Rattle.std.specs.Prelude.{ℕ, ◌+◌, ◌-◌, ◌<◌, ◌≤◌, Bool, true, false, if◌then◌else◌, List, [], ◌∷◌, ◌++◌, map, flat_map, drop, length, Option, Some, None}
use Rattle.std.specs.List.{range_with_len}
use Rattle.step_law.specs.declared.actor.Actor.TheVariants as actor
use Rattle.step_law.specs.declared.call.Call.{Call}
use Rattle.step_law.specs.declared.call.Call.TheVariants as call
use Rattle.step_law.specs.declared.ring.Ring.{Ring}
use Rattle.step_law.specs.declared.ring.Ring.TheVariants.{AudioToControl, WorkerToControl}
use Rattle.step_law.specs.Entry.{end_of, join, last}
use Rattle.record_law.specs.declared.shape.Shape.{Shape}
use Rattle.record_law.specs.Audio.{whole_call}
use Rattle.record_law.specs.Control.{stages_from, rings_left, finish_from, is_part}
use Rattle.record_law.specs.Message.{Message as Meant}
use Rattle.record_law.specs.Message.Message.{nothing, input, lend, give}
use Rattle.record_law.specs.Protocol.{Follows}
use Rattle.record_law.specs.Shape.{worker_of}
use Rattle.record_law.specs.Task.{Due, Task}
use Rattle.record_law.specs.Task.Stage.{tell, ask, hear, front, restoring}
use Rattle.record_law.specs.Task.Task.{one, acting, closing, leftovers}
use Rattle.control_order.specs.declared.control_stage.ActionStage.{ActionStage}
use Rattle.control_order.specs.declared.control_stage.ActionStage.TheVariants.{Due as IsDue, Tell, Ask, Hear, Plain}
use Rattle.control_order.specs.declared.control_stage.ClosingStage.{ClosingStage}
use Rattle.control_order.specs.declared.control_stage.ClosingStage.TheVariants.{Telling, Taking}
use Rattle.control_order.specs.declared.control_stage.ControlStage.{ControlStage}
use Rattle.control_order.specs.declared.control_stage.ControlStage.TheVariants.{Calling, Acting, Restoring, Closing, Finishing, Ending, Over}
use Rattle.control_order.specs.declared.control_stage.ControlStep.{ControlStep}
use Rattle.control_order.specs.declared.control_stage.FinishStage.{FinishStage}
use Rattle.control_order.specs.declared.control_stage.FinishStage.TheVariants.{Next, Saving, Restoring as EndRestore}
use Rattle.control_order.specs.declared.control_stage.PlainStage.{PlainStage}
use Rattle.control_order.specs.declared.control_stage.PlainStage.TheVariants.{AskFront, AwaitFront, AskBack, TakeBack, Begin, GiveBack, GiveFront}
use Rattle.control_order.specs.declared.control_stage.Round.{Round}
use Rattle.control_order.specs.declared.control_stage.Round.TheVariants.{Make, Activate, Deactivate, Cleanup}
use Rattle.record_terms.specs.declared.message.Message.{Message}
use Rattle.record_terms.specs.Message.{meaning_of}
use Rattle.order_base.specs.There.{IsThere}

-- ---- rounds of calls

abbrev pub call_of : Round → Call
call_of Make = call.Make
call_of Activate = call.Activate
call_of Deactivate = call.Deactivate
call_of Cleanup = call.Cleanup

-- the calls on the instances from one on
abbrev pub calls_left : Shape → Call → ℕ → List Task
calls_left s it inst = flat_map (λ i. whole_call actor.Control it i nothing) (range_with_len inst (length s.insts - inst))

-- what comes after a round
abbrev pub after_round : Shape → Round → List Task
after_round s Make = calls_left s call.Activate 0 ++ acting (stages_from s 0 s.actions) ∷ []
after_round s Activate = acting (stages_from s 0 s.actions) ∷ []
after_round s Deactivate = calls_left s call.Cleanup 0 ++ one last nothing ∷ []
after_round s Cleanup = one last nothing ∷ []

abbrev pub round_left : Shape → Round → ℕ → Bool → List Task
round_left s round inst true = one (end_of actor.Control (call_of round) inst) nothing ∷ (calls_left s (call_of round) (inst + 1) ++ after_round s round)
round_left s round inst false = calls_left s (call_of round) inst ++ after_round s round

-- ---- actions

-- the stages of the actions from the k-th on
abbrev pub actions_left : Shape → ℕ → List Due
actions_left s k = stages_from s k (drop k s.actions)

-- of the restore of an instance of which control asks for both parts; from the point where it gives them back, it is done
abbrev pub gives_left : Shape → (k inst : ℕ) → List Due
gives_left s k inst = (k + 1, ask (worker_of s inst) (give inst)) ∷ (k + 1, tell (give inst)) ∷ actions_left s (k + 1)

abbrev pub plain_left : Shape → (k inst : ℕ) → PlainStage → List Due
plain_left s k inst AskFront =
    (k, tell (lend inst))
    ∷ (k, front inst)
    ∷ (k, ask (worker_of s inst) (lend inst))
    ∷ (k, hear (worker_of s inst))
    ∷ (k, restoring k inst)
    ∷ gives_left s k inst
plain_left s k inst AwaitFront =
    (k, front inst) ∷ (k, ask (worker_of s inst) (lend inst)) ∷ (k, hear (worker_of s inst)) ∷ (k, restoring k inst) ∷ gives_left s k inst
plain_left s k inst AskBack = (k, ask (worker_of s inst) (lend inst)) ∷ (k, hear (worker_of s inst)) ∷ (k, restoring k inst) ∷ gives_left s k inst
plain_left s k inst TakeBack = (k, hear (worker_of s inst)) ∷ (k, restoring k inst) ∷ gives_left s k inst
plain_left s k inst Begin = (k, restoring k inst) ∷ gives_left s k inst
plain_left s k inst GiveBack = gives_left s k inst
plain_left s k inst GiveFront = (k + 1, tell (give inst)) ∷ actions_left s (k + 1)

abbrev pub stages_left : Shape → ℕ → ActionStage → List Due
stages_left s k IsDue = actions_left s k
stages_left s k Tell = (k, tell (input k)) ∷ actions_left s (k + 1)
stages_left s k (Ask inst message) = (k, ask (worker_of s inst) (meaning_of message)) ∷ (k, hear (worker_of s inst)) ∷ actions_left s (k + 1)
stages_left s k (Hear inst) = (k, hear (worker_of s inst)) ∷ actions_left s (k + 1)
stages_left s k (Plain inst plain) = plain_left s k inst plain

-- the instance whose front control waits for, where it comes
abbrev pub front_come : ActionStage → Meant → Option ℕ
front_come (Plain inst AwaitFront) taken = if is_part inst taken then Some inst else None
front_come stage taken = None

-- ---- closing

-- the actions from the k-th on are done directly, and the instances are cleaned up
abbrev pub finish_left : Shape → ℕ → List Task
finish_left s k = finish_from k (drop k s.actions) ++ (calls_left s call.Deactivate 0 ++ (calls_left s call.Cleanup 0 ++ one last nothing ∷ []))

-- the rings to control from one on
abbrev pub rings_from : Shape → Ring → List Ring
rings_from s (WorkerToControl worker) = map WorkerToControl (range_with_len worker (s.workers + 1 - worker))
rings_from s ring = rings_left s

abbrev pub taking_left : Shape → ℕ → Ring → List Task
taking_left s k ring = map leftovers (rings_from s ring) ++ finish_left s k

abbrev pub closing_left : Shape → ℕ → ClosingStage → List Task
closing_left s k (Telling worker) = map closing (range_with_len worker (s.workers + 1 - worker)) ++ one join nothing ∷ taking_left s k AudioToControl
closing_left s k (Taking ring) = taking_left s k ring

abbrev pub finishing_left : Shape → ℕ → FinishStage → List Task
finishing_left s k Next = finish_left s k
finishing_left s k (Saving inst) = one (end_of actor.Control call.Save inst) nothing ∷ finish_left s (k + 1)
finishing_left s k (EndRestore inst) = one (end_of actor.Control call.Restore inst) nothing ∷ finish_left s (k + 1)

abbrev pub control_left : Shape → ControlStage → List Task
control_left s (Calling round inst begun) = round_left s round inst begun
control_left s (Acting action stage) = acting (stages_left s action stage) ∷ []
control_left s (Restoring action inst) = one (end_of actor.Control call.Restore inst) nothing ∷ acting (gives_left s action inst) ∷ []
control_left s (Closing unfinished stage) = closing_left s unfinished stage
control_left s (Finishing action stage) = finishing_left s action stage
control_left s Ending = one last nothing ∷ []
control_left s Over = []

-- what an entry is about, and the tasks that it leaves, where control goes on to a stage
abbrev pub control_follows : Shape → Option ControlStep → Option Follows
control_follows s None = None
control_follows s (Some step) = Some (record { about = meaning_of step.about; left = control_left s step.stage })

-- an answer where the entry is the one that is wanted
abbrev pub control_goes : Bool → Message → ControlStage → Option ControlStep
control_goes true about stage = Some (record { about = about; stage = stage })
control_goes false about stage = None

-- ---- stages of a session

abbrev pub IsActionStage : Shape → ℕ → ActionStage → Type 0
IsActionStage s action IsDue = action ≤ length s.actions
IsActionStage s action Tell = action < length s.actions
IsActionStage s action (Ask inst message) = (action < length s.actions) × IsThere s message
IsActionStage s action (Hear inst) = action < length s.actions
IsActionStage s action (Plain inst plain) = (action < length s.actions) × (inst < length s.insts)

abbrev pub IsClosingStage : Shape → ClosingStage → Type 0
IsClosingStage s (Telling worker) = (1 ≤ worker) × (worker ≤ s.workers + 1)
IsClosingStage s (Taking ring) = Unit {0}

abbrev pub IsFinishStage : Shape → ℕ → FinishStage → Type 0
IsFinishStage s action Next = action ≤ length s.actions
IsFinishStage s action (Saving inst) = action < length s.actions
IsFinishStage s action (EndRestore inst) = action < length s.actions

-- each action is one of the session
abbrev pub IsControlStage : Shape → ControlStage → Type 0
IsControlStage s (Calling round inst begun) = inst < length s.insts
IsControlStage s (Acting action stage) = IsActionStage s action stage
IsControlStage s (Restoring action inst) = (action < length s.actions) × (inst < length s.insts)
IsControlStage s (Closing unfinished stage) = (unfinished ≤ length s.actions) × IsClosingStage s stage
IsControlStage s (Finishing action stage) = IsFinishStage s action stage
IsControlStage s Ending = Unit {0}
IsControlStage s Over = Unit {0}
