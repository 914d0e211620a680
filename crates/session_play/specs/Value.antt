-- The value of an entry: what a call does or gave, or the bytes that go through a ring.
use Rattle.std.specs.Prelude.{ℕ, List, [], Option, Some, None}
use Rattle.interaction.specs.Interaction.{Interaction}
use Rattle.state_store.specs.declared.prop.Prop.{Prop}
use Rattle.plug_api.specs.Inputs.{Outputs}
use Rattle.plug_api.specs.Meaning.{Making, made, refused}
use Rattle.record_law.specs.Message.{Step}

-- What a call ends with, where fronts are of type F and backs of type B: the parts that it was on as they then are, and what it gives besides.
pub data Ending (F B : Type 0) : Type 0 where
  -- make: both parts, or a refusal
  began : Making F B → Ending F B
  -- activate, response, end_run, deactivate
  changed : F → Ending F B
  -- run
  ran : F → Outputs → Ending F B
  -- work, and a restore beside the runs: a status
  worked : B → ℕ → Ending F B
  -- save: a status and properties
  saved : ℕ → List (ℕ × Prop) → Ending F B
  -- restore: a status
  restored : F → B → ℕ → Ending F B
  -- cleanup; and a call on a part that was never made
  idle : Ending F B

pub data Value (F B : Type 0) : Type 0 where
  -- an entry without a value
  blank : Value F B
  -- a call begins, which is to do this
  begun : Interaction (Ending F B) → Value F B
  -- it attempted this body, and is to do this after the answer
  tried : List ℕ → Interaction (Ending F B) → Value F B
  -- a call ended
  gave : Ending F B → Value F B
  -- a body that is taken, or a notice
  carried : List ℕ → Value F B

-- an entry with what it is about and its value
pub record Moment (F B : Type 0) : Type 0 where
  pub step : Step
  pub value : Value F B

-- what was played so far, the newest first
abbrev pub Play : Type 0 → Type 0 → Type 0
Play F B = List (Moment F B)

-- ---- the parts that a value has

abbrev pub front_made : {F B : Type 0} → Making F B → Option F
front_made (made front back urids) = Some front
front_made (refused number) = None

abbrev pub back_made : {F B : Type 0} → Making F B → Option B
back_made (made front back urids) = Some back
back_made (refused number) = None

abbrev pub urids_made : {F B : Type 0} → Making F B → Option (List (List ℕ))
urids_made (made front back urids) = Some urids
urids_made (refused number) = None

abbrev pub front_ended : {F B : Type 0} → Ending F B → Option F
front_ended (began making) = front_made making
front_ended (changed front) = Some front
front_ended (ran front outputs) = Some front
front_ended (restored front back status) = Some front
front_ended ending = None

abbrev pub back_ended : {F B : Type 0} → Ending F B → Option B
back_ended (began making) = back_made making
back_ended (worked back status) = Some back
back_ended (restored front back status) = Some back
back_ended ending = None

abbrev pub urids_ended : {F B : Type 0} → Ending F B → Option (List (List ℕ))
urids_ended (began making) = urids_made making
urids_ended ending = None

abbrev pub outputs_ended : {F B : Type 0} → Ending F B → Option Outputs
outputs_ended (ran front outputs) = Some outputs
outputs_ended ending = None

-- what a call gave, if this is the end of one
abbrev pub given_in : {F B X : Type 0} → (Ending F B → Option X) → Value F B → Option X
given_in part (gave ending) = part ending
given_in part value = None

-- the bytes that it sends or takes
abbrev pub body_in : {F B : Type 0} → Value F B → List ℕ
body_in (tried body rest) = body
body_in (carried body) = body
body_in value = []
