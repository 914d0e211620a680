-- How a line is read: word by word, each word for what it may say.
use Rattle.std.specs.Prelude.{ℕ, ◌+◌, ◌-◌, ◌*◌, ◌^◌, ◌==◌, nat_lt, if◌then◌else◌, Bool, ◌||◌, List, [], ◌∷◌, fold, Option, Some, None, codes}
use Rattle.std.specs.Option.{option_map}
use Rattle.std.specs.Str.{bytes_eq}
use Rattle.step_law.specs.declared.actor.Actor.{Actor}
use Rattle.step_law.specs.declared.actor.Actor.TheVariants.{Audio, Control, Worker}
use Rattle.step_law.specs.declared.call.Call.{Call}
use Rattle.step_law.specs.declared.call.Call.TheVariants.{Run, Response, EndRun, Work, Save, RestoreSafe, Make, Activate, Deactivate, Cleanup, Restore}
use Rattle.step_law.specs.declared.entry.Entry.{Entry}
use Rattle.step_law.specs.declared.event.Event.{Event}
use Rattle.step_law.specs.declared.event.Event.TheVariants.{Block, Look, Take, Send, Full, Long, Done, Stop, Begin, End, Beat, Join, Late}
use Rattle.step_law.specs.declared.ring.Ring.{Ring}
use Rattle.step_law.specs.declared.ring.Ring.TheVariants.{ControlToAudio, AudioToControl, ControlToWorker, WorkerToControl, Jobs, Responses, LocalJobs}
use Rattle.step_law.specs.Entry.{last}
use Rattle.step_law.specs.Event.{entry_from}
use Rattle.step_law.specs.Form.{tells}

-- a space or a line feed ends a word
abbrev pub is_end : ℕ → Bool
is_end byte = (byte == 32) || (byte == 10)

-- the first word of a text, and what follows its end
abbrev pub word : List ℕ → List ℕ
word [] = []
word (c ∷ cs) = if is_end c then [] else c ∷ word cs

abbrev pub rest : List ℕ → List ℕ
rest [] = []
rest (c ∷ cs) = if is_end c then cs else rest cs

-- what digits say
abbrev pub value_of : List ℕ → ℕ
value_of digits = fold (λ value digit. value * 10 + (digit - 48)) 0 digits

-- a number of 32 bits
abbrev pub number_in : List ℕ → Option ℕ
number_in digits = if nat_lt (value_of digits) (2 ^ 32) then Some (value_of digits) else None

-- a ring, by its letters and the number of its worker or instance
abbrev pub ring_of_control : List ℕ → Option Ring
ring_of_control [] = None
ring_of_control (c ∷ cs) = if c == 65 then Some ControlToAudio else option_map ControlToWorker (number_in cs)

abbrev pub ring_of_worker : List ℕ → Option Ring
ring_of_worker [] = None
ring_of_worker (c ∷ cs) = option_map WorkerToControl (number_in cs)

abbrev pub ring_by : ℕ → List ℕ → Option Ring
ring_by c cs =
    if c == 74 then option_map Jobs (number_in cs)
    else (if c == 82 then option_map Responses (number_in cs)
    else (if c == 76 then option_map LocalJobs (number_in cs)
    else (if c == 65 then Some AudioToControl
    else (if c == 67 then ring_of_control cs
    else ring_of_worker cs))))

abbrev pub ring_in : List ℕ → Option Ring
ring_in [] = None
ring_in (c ∷ cs) = ring_by c cs

-- an actor
abbrev pub actor_in : List ℕ → Option Actor
actor_in [] = None
actor_in (c ∷ cs) = if c == 65 then Some Audio else (if c == 87 then option_map Worker (number_in cs) else Some Control)

-- a call
abbrev pub run_call_in : List ℕ → Option Call
run_call_in name =
    if bytes_eq name (codes "run") then Some Run
    else (if bytes_eq name (codes "response") then Some Response
    else (if bytes_eq name (codes "end_run") then Some EndRun
    else (if bytes_eq name (codes "work") then Some Work
    else (if bytes_eq name (codes "save") then Some Save
    else (if bytes_eq name (codes "restore_safe") then Some RestoreSafe
    else None)))))

abbrev pub call_in : List ℕ → Option Call
call_in name =
    if bytes_eq name (codes "make") then Some Make
    else (if bytes_eq name (codes "activate") then Some Activate
    else (if bytes_eq name (codes "deactivate") then Some Deactivate
    else (if bytes_eq name (codes "cleanup") then Some Cleanup
    else (if bytes_eq name (codes "restore") then Some Restore
    else run_call_in name))))

-- a call on an instance
abbrev pub call_and_inst : Option Call → Option ℕ → Option (Call × ℕ)
call_and_inst None inst = None
call_and_inst (Some call) None = None
call_and_inst (Some call) (Some inst) = Some (call, inst)

abbrev pub called_in : (Call → ℕ → Event) → List ℕ → Option Event
called_in event more = option_map (λ (called : Call × ℕ). event called.0 called.1) (call_and_inst (call_in (word more)) (number_in (word (rest more))))

-- a look at a ring
abbrev pub look_at : Option Ring → Option ℕ → Option Event
look_at None shown = None
look_at (Some ring) None = None
look_at (Some ring) (Some shown) = Some (Look ring shown)

-- what happened, by its word and the words after it
abbrev pub numbered_in : List ℕ → List ℕ → Option Event
numbered_in verb more =
    if bytes_eq verb (codes "block") then option_map Block (number_in (word more))
    else (if bytes_eq verb (codes "done") then option_map Done (number_in (word more))
    else (if bytes_eq verb (codes "beat") then option_map Beat (number_in (word more))
    else (if bytes_eq verb (codes "late") then option_map Late (number_in (word more))
    else None)))

abbrev pub on_ring_in : List ℕ → List ℕ → Option Event
on_ring_in verb more =
    if bytes_eq verb (codes "take") then option_map Take (ring_in (word more))
    else (if bytes_eq verb (codes "send") then option_map Send (ring_in (word more))
    else (if bytes_eq verb (codes "full") then option_map Full (ring_in (word more))
    else (if bytes_eq verb (codes "long") then option_map Long (ring_in (word more))
    else numbered_in verb more)))

abbrev pub event_in : List ℕ → List ℕ → Option Event
event_in verb more =
    if bytes_eq verb (codes "begin") then called_in Begin more
    else (if bytes_eq verb (codes "end") then called_in End more
    else (if bytes_eq verb (codes "look") then look_at (ring_in (word more)) (number_in (word (rest more)))
    else (if bytes_eq verb (codes "stop") then Some Stop
    else (if bytes_eq verb (codes "join") then Some Join
    else on_ring_in verb more))))

-- the entry of an actor's event, if the actor may tell of it
abbrev pub told_entry : Option Actor → Option Event → Option Entry
told_entry None event = None
told_entry (Some actor) None = None
told_entry (Some actor) (Some event) = if tells actor event then Some (entry_from actor event) else None

-- the entry that a text may begin with the line of
abbrev pub entry_in : List ℕ → Option Entry
entry_in text =
    if bytes_eq (word text) (codes "end") then Some last
    else told_entry (actor_in (word text)) (event_in (word (rest text)) (rest (rest text)))
