-- A call between its two entries in the step record.
use Rattle.std.specs.Prelude.{◌≡◌, ℕ, List, []}
use Rattle.interaction.specs.Attempts.{Attempt}
use Rattle.step_law.specs.declared.call.Call.{Call}
use Rattle.step_law.specs.declared.entry.Entry.{Entry}
use Rattle.step_law.specs.Actor.{actor_at}
use Rattle.step_law.specs.Entry.{begin_of, end_of}

-- what can mark a call: its begin, and its end after whatever attempts it made
pub record CanCall {S : Type 0} (actor_of : S → ℕ) (can_mark : S → Type 0) (marked : S → Entry → ℕ → S → Type 0) (went : S → List Attempt → S → Type 0) (old : S) : Type 0 where
  pub now : can_mark old
  pub actor : (entry : Entry) (ticket : ℕ) (called tried : S) (attempts : List Attempt) → marked old entry ticket called
      → went called attempts tried → actor_of tried ≡ actor_of old
  pub again : (entry : Entry) (ticket : ℕ) (called tried : S) (attempts : List Attempt) → marked old entry ticket called
      → went called attempts tried → can_mark tried

-- the begin of a call on an instance was marked, then these attempts were made, then its end was marked
pub record Called {S : Type 0} (actor_of : S → ℕ) (marked : S → Entry → ℕ → S → Type 0) (went : S → List Attempt → S → Type 0) (call : Call) (inst : ℕ) (old : S) (attempts : List Attempt) (new : S) : Type 0 where
  pub first : ℕ
  pub last : ℕ
  pub called : S
  pub tried : S
  pub begins : marked old (begin_of (actor_at (actor_of old)) call inst) first called
  pub goes : went called attempts tried
  pub ends : marked tried (end_of (actor_at (actor_of old)) call inst) last new

-- what marks but makes no attempts
abbrev pub Stays : {S : Type 0} → S → List Attempt → S → Type 0
Stays old attempts new = (attempts ≡ []) × (new ≡ old)

-- a call that makes no attempts
abbrev pub CanMarkCall : {S : Type 0} → (S → ℕ) → (S → Type 0) → (S → Entry → ℕ → S → Type 0) → S → Type 0
CanMarkCall actor_of can_mark marked old = CanCall actor_of can_mark marked Stays old

abbrev pub MarksCall : {S : Type 0} → (S → ℕ) → (S → Entry → ℕ → S → Type 0) → Call → ℕ → S → S → Type 0
MarksCall actor_of marked call inst old new = Called actor_of marked Stays call inst old [] new
