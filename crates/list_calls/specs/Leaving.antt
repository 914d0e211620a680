-- What a call on an instance leaves, where its attempts go to a list of bodies that wait and its entries to a log.
use Rattle.std.specs.Prelude.{◌≡◌, ℕ, Bool, true, if◌then◌else◌, All, List, [], ◌∷◌, ◌++◌, map, take, drop}
use Rattle.interaction.specs.Attempts.{Attempt}
use Rattle.step_law.specs.declared.call.Call.{Call}
use Rattle.step_law.specs.declared.entry.Entry.{Entry}
use Rattle.step_law.specs.Actor.{actor_at, actor_number}
use Rattle.step_law.specs.Entry.{begin_of, end_of}
use Rattle.step_record.specs.Log.{Logged}
use Rattle.worker_ring.specs.Answering.{kind_by}
use Rattle.worker_ring.specs.Attempting.{on_ring}
use Rattle.play_known.specs.Calling.{is_answered}
use Rattle.play_known.specs.InCall.{sent_among}
use Rattle.list_calls.specs.declared.caller.Caller.{Caller}

-- the entries of a log, without their tickets
abbrev pub entries_of : Logged → List Entry
entries_of log = map (λ it. it.1) log.items

-- so many attempts may have an entry: none where the instance declares no worker
abbrev pub most_told : Bool → ℕ
most_told works = if works then 16 else 0

abbrev pub told_of : Caller → List Attempt → List Attempt
told_of caller attempts = take (most_told caller.works) attempts

-- the entry of an attempt, and all entries of a call that made such attempts
abbrev pub try_of : Caller → Attempt → Entry
try_of caller attempt = on_ring (actor_number (actor_at caller.actor)) caller.ring (kind_by attempt.answer attempt.body)

abbrev pub entries_by : Caller → Call → ℕ → List Attempt → List Entry
entries_by caller call inst told =
    let actor = actor_at caller.actor in begin_of actor call inst ∷ map (try_of caller) told ++ end_of actor call inst ∷ []

-- The call made these attempts. Those that have an entry are in the log between its begin and its end, and the bodies that were taken wait
-- after those that waited; all other attempts were answered 1.
pub record Leaves (caller : Caller) (call : Call) (inst : ℕ) (attempts : List Attempt) (waiting : List (List ℕ)) (log : Logged) (waiting_then : List (List ℕ)) (log_then : Logged) : Type 0 where
  pub entries : entries_of log_then ≡ entries_of log ++ entries_by caller call inst (told_of caller attempts)
  pub waits : waiting_then ≡ waiting ++ sent_among (told_of caller attempts)
  pub answered : All (λ attempt. is_answered attempt ≡ true) (told_of caller attempts)
  pub refused : All (λ (attempt : Attempt). attempt.answer ≡ 1) (drop (most_told caller.works) attempts)

-- a call that makes no attempts leaves two entries
abbrev pub LeavesCall : ℕ → Call → ℕ → Logged → Logged → Type 0
LeavesCall actor call inst log log_then =
    entries_of log_then ≡ entries_of log ++ begin_of (actor_at actor) call inst ∷ end_of (actor_at actor) call inst ∷ []
