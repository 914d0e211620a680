-- The logs of the actors, and the list that is merged of them.
use Rattle.std.specs.Prelude.{◌≡◌, ◌≢◌, ℕ, ◌+◌, ◌<◌, Bool, true, ◌==◌, List, [], filter, All, AllPairs, Contains, false, length}
use Rattle.step_law.specs.declared.entry.Entry.{Entry}
use Rattle.step_law.specs.declared.entry.Kind.TheVariants.{Look, Take, Send, Full}
use Rattle.cable_trace.specs.declared.trace.Action.{Action}
use Rattle.cable_trace.specs.declared.trace.Action.TheVariants.{Sent, Refused, Looked, Taken}
use Rattle.cable_trace.specs.declared.trace.Trace.{Trace}
use Rattle.cable_trace.specs.Trace.{drawn, sent, refused, looks, taken}
use Rattle.cable_trace.specs.Order.{below}
use Rattle.cable_trace.specs.Ring.{tickets}
use Rattle.cable_trace.specs.Merged.{is_send, is_take, is_full, is_look, is_on, tickets_in}

-- an entry is an actor's
abbrev pub is_by : ℕ → ℕ × Entry → Bool
is_by actor mark = mark.1.actor == actor

-- A log agrees on a ring with its actor's trace: each ticket was drawn, the sends and takes are those of the trace, and each refusal and
-- look is one of the trace.
pub record IsLogOf {M : Type 0} (ring : ℕ) (trace : Trace M) (log : List (ℕ × Entry)) : Type 0 where
  pub drew : All (λ mark. Contains (drawn trace) mark.0) log
  pub sends : tickets_in is_send ring log ≡ tickets (sent ring trace)
  pub takes : tickets_in is_take ring log ≡ tickets (taken ring trace)
  pub fulls : All (λ mark. is_on is_full ring mark ≡ true → (seen : ℕ) × Contains (refused ring trace) (mark.0, seen)) log
  pub seen : All (λ mark. is_on is_look ring mark ≡ true → Contains (looks ring trace) (mark.0, mark.1.b + below mark.0 (tickets (taken ring trace)))) log

-- An entry tells of a finished step; a look's says how many of those that it saw sent weren't taken yet.
abbrev pub Tells : {M : Type 0} → Trace M → Action M → Entry → Type 0
Tells trace (Sent on seen message) entry = (entry.kind ≡ Send) × (entry.a ≡ on)
Tells trace (Refused on seen) entry = (entry.kind ≡ Full) × (entry.a ≡ on)
Tells trace (Looked on count messages) entry = (entry.kind ≡ Look) × (entry.a ≡ on) × (entry.b + length (taken on trace) ≡ count)
Tells trace (Taken on message) entry = (entry.kind ≡ Take) × (entry.a ≡ on)
Tells trace action entry = (is_send entry.kind ≡ false) × (is_take entry.kind ≡ false) × (is_full entry.kind ≡ false) × (is_look entry.kind ≡ false)

-- only one actor sends on a ring, and only one looks at it and takes from it
pub record IsRingOf {M : Type 0} (ring source target : ℕ) (traces : ℕ → Trace M) : Type 0 where
  pub sent_by_one : (actor : ℕ) → actor ≢ source → sent ring (traces actor) ≡ []
  pub refused_by_one : (actor : ℕ) → actor ≢ source → refused ring (traces actor) ≡ []
  pub taken_by_one : (actor : ℕ) → actor ≢ target → taken ring (traces actor) ≡ []
  pub seen_by_one : (actor : ℕ) → actor ≢ target → looks ring (traces actor) ≡ []

-- A list is the merge of logs by ticket: its tickets rise, and the entries of each actor are its log.
pub record IsMergeOf (logs : ℕ → List (ℕ × Entry)) (marks : List (ℕ × Entry)) : Type 0 where
  pub rises : AllPairs (λ first second. first.0 < second.0) marks
  pub own : (actor : ℕ) → filter (is_by actor) marks ≡ logs actor
