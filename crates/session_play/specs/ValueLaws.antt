-- What the rule on values says, and what a call's end gives.
use Rattle.std.specs.Prelude.{◌≡◌, ℕ, List, [], ◌∷◌, ◌++◌, true, Bool, Option, None, Some}
use Rattle.interaction.specs.Interaction.{Interaction, ask}
use Rattle.interaction.specs.Answers.{result_of}
use Rattle.step_law.specs.declared.actor.Actor.{Actor}
use Rattle.step_law.specs.declared.entry.Kind.{Kind}
use Rattle.step_law.specs.declared.entry.Kind.TheVariants.{Send}
use Rattle.step_law.specs.Actor.{actor_number, actor_at}
use Rattle.record_law.specs.Message.Message.{body, notice}
use Rattle.session_play.specs.Looking.{doings, open_call}
use Rattle.session_play.specs.Notices.{untold}
use Rattle.session_play.specs.Playing.{IsPlayed}
use Rattle.session_play.specs.Run.{Run}
use Rattle.session_play.specs.Value.{Ending, Value, begun, tried, Play}
use Rattle.session_play.specs.ValueRule.{is_long, sends_so}

-- an attempt that keeps the rule is one that the call in which it stands asks for, of a body that is as long as it says
abbrev pub AttemptsAreAsked : Type 0 → Type 0 → Type 0
AttemptsAreAsked F B = (run : Run F B) (long : Bool) (own : Play F B) → sends_so run long body own ≡ true
    → (asked : List ℕ) × (next : ℕ → Interaction (Ending F B)) × (open_call own ≡ Some (ask asked next)) × (is_long asked ≡ long)

-- a notice that keeps the rule is one that the run made and that wasn't told yet
abbrev pub NoticesAreMade : Type 0 → Type 0 → Type 0
NoticesAreMade F B = (run : Run F B) (long : Bool) (inst : ℕ) (own : Play F B) → sends_so run long (notice inst) own ≡ true
    → (told : List ℕ) × (later : List (List ℕ)) × (untold run.setup own ≡ told ∷ later) × (is_long told ≡ long)

-- ---- what a call gives

-- the answer of an attempt: 0 where the ring took it
abbrev pub answer_of : Kind → ℕ
answer_of Send = 0
answer_of kind = 2

-- the call that an actor began last, in its own moments
abbrev pub begun_after : {F B : Type 0} → Value F B → Option (Interaction (Ending F B)) → Option (Interaction (Ending F B))
begun_after (begun call) before = Some call
begun_after value before = before

abbrev pub begun_call : {F B : Type 0} → Play F B → Option (Interaction (Ending F B))
begun_call [] = None
begun_call (x ∷ p) = begun_after x.value (begun_call p)

-- the answers that its attempts were given since, in order
abbrev pub answers_after : {F B : Type 0} → Value F B → Kind → List ℕ → List ℕ
answers_after (begun call) kind before = []
answers_after (tried asked rest) kind before = before ++ answer_of kind ∷ []
answers_after value kind before = before

abbrev pub answers_told : {F B : Type 0} → Play F B → List ℕ
answers_told [] = []
answers_told (x ∷ p) = answers_after x.value x.step.entry.kind (answers_told p)

-- an open call ends with what it gives under the answers that the record tells of, and 1 without end after them
abbrev pub EndsByAnswers : Type 0 → Type 0 → Type 0
EndsByAnswers F B = (run : Run F B) (actor : Actor) (p : Play F B) (rest : Interaction (Ending F B)) → actor_at (actor_number actor) ≡ actor → IsPlayed run p
    → open_call (doings actor p) ≡ Some rest
    → (call : Interaction (Ending F B)) × (begun_call (doings actor p) ≡ Some call) × (result_of rest [] ≡ result_of call (answers_told (doings actor p)))
