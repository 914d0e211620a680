-- Who owns the parts of each instance: its front and its back.
use Rattle.std.specs.Prelude.{ℕ, nat_eq, Bool, false, ◌&&◌, ◌||◌, if◌then◌else◌, List, [], ◌∷◌, map, Option, Some, None}
use Rattle.std.specs.List.{list_all}
use Rattle.std.specs.Option.{option_map_or}
use Rattle.step_law.specs.declared.actor.Actor.{Actor}
use Rattle.step_law.specs.declared.actor.Actor.TheVariants.{Audio, Control, Worker}
use Rattle.step_law.specs.declared.call.Call.{Call}
use Rattle.step_law.specs.declared.call.Call.TheVariants.{Activate}
use Rattle.step_law.specs.declared.entry.Entry.{Entry}
use Rattle.step_law.specs.declared.entry.Kind.{Kind}
use Rattle.step_law.specs.declared.entry.Kind.TheVariants.{Take, Send, Begin, End}
use Rattle.step_law.specs.declared.ring.Ring.{Ring}
use Rattle.step_law.specs.declared.ring.Ring.TheVariants.{ControlToAudio, AudioToControl, ControlToWorker, WorkerToControl}
use Rattle.step_law.specs.Call.{call_at}
use Rattle.step_law.specs.Entry.{end_of, join}
use Rattle.step_law.specs.Form.{audio_calls, worker_calls}
use Rattle.step_law.specs.Ring.{ring_at}
use Rattle.record_law.specs.declared.shape.Shape.{Shape}
use Rattle.record_law.specs.Entries.{is_by, is_on, same_entry}
use Rattle.record_law.specs.Message.{Message, Step, History}
use Rattle.record_law.specs.Message.Message.{part, give}
use Rattle.record_law.specs.Shape.{worker_of}

pub data Part : Type 0 where
  front : (inst : ℕ) → Part
  back : (inst : ℕ) → Part

abbrev pub inst_of : Part → ℕ
inst_of (front inst) = inst
inst_of (back inst) = inst

-- who has a part while the blocks are played, and the rings by which it goes to control and comes back
abbrev pub home_of : Shape → Part → Actor
home_of s (front inst) = Audio
home_of s (back inst) = Worker (worker_of s inst)

abbrev pub ring_away : Shape → Part → Ring
ring_away s (front inst) = AudioToControl
ring_away s (back inst) = WorkerToControl (worker_of s inst)

abbrev pub ring_home : Shape → Part → Ring
ring_home s (front inst) = ControlToAudio
ring_home s (back inst) = ControlToWorker (worker_of s inst)

-- a message is a part of an instance, on its way to control or back
abbrev pub is_part_of : ℕ → Message → Bool
is_part_of inst (part other) = nat_eq other inst
is_part_of inst (give other) = nat_eq other inst
is_part_of inst about = false

-- a step sends or takes a part on a ring
abbrev pub carries : Kind → Ring → ℕ → Step → Bool
carries kind ring inst x = is_on kind ring x.entry && is_part_of inst x.about

-- what a step makes of the owner: none has a part that is on its way; at the join all parts are control's
abbrev pub owner_after : Shape → Part → Step → Option Actor → Option Actor
owner_after s it x before =
    if carries Send (ring_away s it) (inst_of it) x || carries Send (ring_home s it) (inst_of it) x then None
    else if carries Take (ring_away s it) (inst_of it) x || same_entry join x.entry then Some Control
    else if carries Take (ring_home s it) (inst_of it) x || same_entry (end_of Control Activate (inst_of it)) x.entry then Some (home_of s it) else before

-- who owns a part; control makes it
abbrev pub owner_of : Shape → Part → History → Option Actor
owner_of s it [] = Some Control
owner_of s it (x ∷ h) = owner_after s it x (owner_of s it h)

-- the actor of an entry owns a part
abbrev pub owns : Shape → History → Entry → Part → Bool
owns s h e it = option_map_or (λ owner. is_by owner e) (owner_of s it h) false

-- the parts that a call is on: of an audio call the front, of a worker's the back, of the others both
abbrev pub parts_of : Call → ℕ → List Part
parts_of call inst = if audio_calls call then front inst ∷ [] else if worker_calls call then back inst ∷ [] else front inst ∷ back inst ∷ []

-- the instance of which a message is a part
abbrev pub insts_in : Message → List ℕ
insts_in (part inst) = inst ∷ []
insts_in (give inst) = inst ∷ []
insts_in about = []

-- the parts that a message on a ring carries
abbrev pub parts_in : Ring → Message → List Part
parts_in ControlToAudio about = map front (insts_in about)
parts_in AudioToControl about = map front (insts_in about)
parts_in (ControlToWorker worker) about = map back (insts_in about)
parts_in (WorkerToControl worker) about = map back (insts_in about)
parts_in ring about = []

-- the parts that an entry needs its actor to own
abbrev pub parts_needed : Kind → (a b : ℕ) → Message → List Part
parts_needed Begin call inst about = option_map_or (λ it. parts_of it inst) (call_at call) []
parts_needed End call inst about = option_map_or (λ it. parts_of it inst) (call_at call) []
parts_needed Send ring b about = parts_in (ring_at ring) about
parts_needed kind a b about = []

abbrev pub owns_all : Shape → History → Entry → Message → Bool
owns_all s h e about = list_all (owns s h e) (parts_needed e.kind e.a e.b about)
