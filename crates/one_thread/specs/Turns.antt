-- Whose turn it is where one thread does the work of all actors.
use Rattle.std.specs.Prelude.{ℕ, ◌+◌, ◌-◌, ◌==◌, nat_lt, Bool, true, false, not, ◌&&◌, ◌||◌, if◌then◌else◌, List, [], ◌∷◌, ◌++◌, find, length, is_none, unwrap_or, Option, Some, None}
use Rattle.std.specs.List.{list_any, range_with_len}
use Rattle.step_law.specs.declared.actor.Actor.{Actor}
use Rattle.step_law.specs.declared.actor.Actor.TheVariants.{Audio, Control, Worker}
use Rattle.step_law.specs.declared.call.Call.TheVariants as call
use Rattle.step_law.specs.declared.entry.Entry.{Entry}
use Rattle.step_law.specs.declared.entry.Kind.{Kind}
use Rattle.step_law.specs.declared.entry.Kind.TheVariants.{Look, Send, Full, Beat, Done, Stop}
use Rattle.step_law.specs.declared.ring.Ring.TheVariants.{Jobs}
use Rattle.step_law.specs.Actor.{actor_number, actor_at}
use Rattle.step_law.specs.Entry.{end_of}
use Rattle.step_law.specs.Ring.{ring_at}
use Rattle.record_law.specs.declared.shape.Shape.{Shape}
use Rattle.record_law.specs.Entries.{same_entry}
use Rattle.record_law.specs.Message.{History}
use Rattle.record_law.specs.History.{own, waiting}
use Rattle.record_law.specs.Protocol.{left_after}
use Rattle.record_law.specs.Shape.{worker_of, works}
use Rattle.record_law.specs.Waits.{is_open}
use Rattle.session_play.specs.Looking.{steps_of, doings}
use Rattle.session_play.specs.Notices.{is_notice, untold}
use Rattle.session_play.specs.Rules.{first_broken}
use Rattle.session_play.specs.Run.{Run}
use Rattle.session_play.specs.SessionShape.{shape_of}
use Rattle.session_play.specs.Value.{Play}
use Rattle.one_thread.specs.Offers.{progress_now, offers}

-- ---- who can go

-- One thread sees all: a ring takes a message exactly where fewer than its cells are used, a look shows all that was sent, and control sees how
-- far audio is.
abbrev pub sees_all : Shape → History → Kind → (a b : ℕ) → Bool
sees_all s h Send ring b = nat_lt (waiting (ring_at ring) h) s.cells
sees_all s h Full ring b = waiting (ring_at ring) h == s.cells
sees_all s h Look ring b = b == waiting (ring_at ring) h
sees_all s h Beat progress b = progress == progress_now s h
sees_all s h kind a b = true

-- an entry may come after a play
abbrev pub may_come : {F B : Type 0} → Run F B → Play F B → Entry → Bool
may_come run p e = is_none (first_broken run p e) && sees_all (shape_of run.setup) (steps_of p) e.kind e.a e.b

-- an actor can go
abbrev pub can_go : {F B : Type 0} → Run F B → Play F B → ℕ → Bool
can_go run p actor = list_any (may_come run p) (offers (shape_of run.setup) (steps_of p) (actor_at actor))

-- ---- within a block

-- the instance that audio has just run, its notices aside
abbrev pub just_ran : History → Option ℕ
just_ran [] = None
just_ran (x ∷ h) =
    let earlier = just_ran h in
    if is_notice x.about then earlier else if same_entry (end_of Audio call.Run x.entry.b) x.entry then Some x.entry.b else None

-- a worker has nothing to do but to wait for asks and jobs
abbrev pub is_waiting : Shape → History → ℕ → Bool
is_waiting s h worker = nat_lt (length (left_after s (Worker worker) (own (Worker worker) h))) 2

-- it has a job of an instance to do
abbrev pub has_job : Shape → History → ℕ → Bool
has_job s h inst = works s inst && (nat_lt 0 (waiting (Jobs inst) h) || not (is_waiting s h (worker_of s inst)))

abbrev pub worker_after : Shape → History → Option ℕ → Actor
worker_after s h None = Audio
worker_after s h (Some inst) = if has_job s h inst then Worker (worker_of s inst) else Audio

-- audio goes on; but after a run and its notices the worker of the instance does all jobs
abbrev pub turn_in_block : {F B : Type 0} → Run F B → Play F B → ℕ
turn_in_block run p =
    let s = shape_of run.setup in
    let h = steps_of p in
    if length (untold run.setup (doings Audio p)) == 0 then actor_number (worker_after s h (just_ran (own Audio h))) else actor_number Audio

-- ---- between blocks

-- control and the workers, in a round from one on
abbrev pub round_from : Shape → ℕ → List ℕ
round_from s actor = range_with_len actor (s.workers + 2 - actor) ++ range_with_len 1 (actor - 1)

-- the one that came last; control begins after audio
abbrev pub came_last : History → ℕ
came_last [] = 1
came_last (x ∷ h) = if x.entry.actor == 0 then 1 else x.entry.actor

-- the first of the round that can go, else another
abbrev pub turn_between : {F B : Type 0} → Run F B → Play F B → ℕ → ℕ
turn_between run p otherwise = unwrap_or (find (can_go run p) (round_from (shape_of run.setup) (came_last (steps_of p)))) otherwise

-- ---- all turns

-- where audio is: in a block, or before its first or after its last; between two blocks; or it has stopped
pub data Phase : Type 0 where
  in_block : Phase
  between : Phase
  stopped : Phase

abbrev pub if_last : Bool → Phase
if_last true = in_block
if_last false = between

abbrev pub phase_at : (blocks : ℕ) → Kind → ℕ → Phase
phase_at blocks Done block = if_last (block + 1 == blocks)
phase_at blocks Stop a = stopped
phase_at blocks kind a = in_block

abbrev pub phase_of : (blocks : ℕ) → History → Phase
phase_of blocks [] = if_last (blocks == 0)
phase_of blocks (x ∷ h) = phase_at blocks x.entry.kind x.entry.a

abbrev pub turn_in : {F B : Type 0} → Phase → Run F B → Play F B → ℕ
turn_in in_block run p = turn_in_block run p
turn_in between run p = turn_between run p (actor_number Audio)
turn_in stopped run p = turn_between run p (actor_number Control)

-- the actor whose turn it is: control's until all instances are active
abbrev pub turn : {F B : Type 0} → Run F B → Play F B → ℕ
turn run p =
    let s = shape_of run.setup in
    let h = steps_of p in
    if is_open s h then turn_in (phase_of s.blocks (own Audio h)) run p else actor_number Control
