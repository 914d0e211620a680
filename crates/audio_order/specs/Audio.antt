-- What audio has left to do at each stage of its work, and what an entry makes of that.
use Rattle.std.specs.Prelude.{ℕ, ◌+◌, ◌-◌, ◌<◌, ◌≤◌, Bool, true, false, List, [], ◌∷◌, ◌++◌, map, drop, length, Option, Some, None}
use Rattle.std.specs.List.{range_with_len}
use Rattle.step_law.specs.declared.actor.Actor.TheVariants.{Audio}
use Rattle.step_law.specs.declared.call.Call.TheVariants.{Run, Response, EndRun}
use Rattle.step_law.specs.declared.ring.Ring.TheVariants.{ControlToAudio, Jobs}
use Rattle.step_law.specs.Entry.{done_of, end_of, stop_of}
use Rattle.record_law.specs.declared.shape.Shape.{Shape}
use Rattle.record_law.specs.Audio.{cycles, times, delivery, responding, at_most, whole_call}
use Rattle.record_law.specs.Message.Message.{nothing}
use Rattle.record_law.specs.Protocol.{Follows}
use Rattle.record_law.specs.Shape.{works, replies}
use Rattle.record_law.specs.Task.{Task}
use Rattle.record_law.specs.Task.Task.{one, take_from, attempts, look_messages, return_front, running, notices}
use Rattle.audio_order.specs.declared.audio_stage.AudioStage.{AudioStage}
use Rattle.audio_order.specs.declared.audio_stage.AudioStage.TheVariants.{Before, Looking, Taking, Returning, Running, Within, Stopped}
use Rattle.audio_order.specs.declared.audio_stage.AudioStep.{AudioStep}
use Rattle.audio_order.specs.declared.audio_stage.RunStage.{RunStage}
use Rattle.audio_order.specs.declared.audio_stage.RunStage.TheVariants.{Attempting, Noticing, Delivering, Responding, Responded, Ending}
use Rattle.audio_order.specs.declared.audio_stage.Turn.{Turn}
use Rattle.record_terms.specs.declared.message.Message.{Message}
use Rattle.record_terms.specs.Message.{meaning_of}

-- the blocks from one on, and the stop
abbrev pub blocks_left : Shape → ℕ → List Task
blocks_left s block = cycles s block (s.blocks - block) ++ one (stop_of Audio) nothing ∷ []

-- of a block, the instances from a place of the plan on
abbrev pub runs_left : Shape → (block place : ℕ) → List Task
runs_left s block place = map running (drop place s.plan) ++ one (done_of block) nothing ∷ blocks_left s (block + 1)

-- of a block, the fronts from an instance on
abbrev pub fronts_left : Shape → (block inst : ℕ) → List Task
fronts_left s block inst = map return_front (range_with_len inst (length s.insts - inst)) ++ runs_left s block 0

-- so many responses to an instance, and the end of its run
abbrev pub deliveries_left : (inst more : ℕ) → List Task
deliveries_left inst more = times more (delivery inst) ++ whole_call Audio EndRun inst nothing

-- of an instance in a block
abbrev pub turn_left : Shape → ℕ → RunStage → List Task
turn_left s inst (Attempting most) =
    attempts Audio (Jobs inst) most ∷ one (end_of Audio Run inst) nothing ∷ notices inst (at_most (replies s inst)) ∷ responding (works s inst) inst
turn_left s inst (Noticing most) = notices inst most ∷ responding (works s inst) inst
turn_left s inst (Delivering more) = deliveries_left inst more
turn_left s inst (Responding more) = whole_call Audio Response inst nothing ++ deliveries_left inst more
turn_left s inst (Responded more) = one (end_of Audio Response inst) nothing ∷ deliveries_left inst more
turn_left s inst Ending = one (end_of Audio EndRun inst) nothing ∷ []

abbrev pub audio_left : Shape → AudioStage → List Task
audio_left s (Before block) = blocks_left s block
audio_left s (Looking block) = look_messages ∷ fronts_left s block 0
audio_left s (Taking block more) = times more (take_from Audio ControlToAudio ∷ []) ++ fronts_left s block 0
audio_left s (Returning block inst) = fronts_left s block inst
audio_left s (Running block place) = runs_left s block place
audio_left s (Within turn stage) = turn_left s turn.inst stage ++ runs_left s turn.block turn.next
audio_left s Stopped = []

-- what an entry is about, and the tasks that it leaves, where audio goes on to a stage
abbrev pub audio_follows : Shape → Option AudioStep → Option Follows
audio_follows s None = None
audio_follows s (Some step) = Some (record { about = meaning_of step.about; left = audio_left s step.stage })

-- ---- stages of a session

-- an instance is there, and so is the block
pub record IsTurn (s : Shape) (turn : Turn) : Type 0 where
  pub block : turn.block < s.blocks
  pub inst : turn.inst < length s.insts
  pub next : turn.next ≤ length s.plan

abbrev pub IsStage : Shape → AudioStage → Type 0
IsStage s (Before block) = Unit {0}
IsStage s (Looking block) = block < s.blocks
IsStage s (Taking block more) = block < s.blocks
IsStage s (Returning block inst) = (block < s.blocks) × (inst ≤ length s.insts)
IsStage s (Running block place) = (block < s.blocks) × (place ≤ length s.plan)
IsStage s (Within turn stage) = IsTurn s turn
IsStage s Stopped = Unit {0}

-- an answer where the entry is the one that is wanted
abbrev pub audio_goes : Bool → Message → AudioStage → Option AudioStep
audio_goes true about stage = Some (record { about = about; stage = stage })
audio_goes false about stage = None
