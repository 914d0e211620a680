-- What a plug-in's calls mean: functions of plain values, of which a call that makes attempts gives an interaction tree (LV2 core: activate,
-- run, deactivate; LV2 worker: schedule_work, work, respond, work_response, end_run; LV2 state: save, restore).
use Rattle.std.specs.Prelude.{◌≡◌, ℕ, zero, suc, Bool, List, Option, Result, Ok, Err}
use Rattle.interaction.specs.Interaction.{Interaction}
use Rattle.plugin_decl.specs.declared.declaration.Decl.{Decl}
use Rattle.plugin_decl.specs.declared.declaration.Port.{Port}
use Rattle.plugin_decl.specs.declared.options.Options.{Options}
use Rattle.state_store.specs.declared.prop.Prop.{Prop}
use Rattle.plug_api.specs.declared.fault.MakeFault.{MakeFault}
use Rattle.plug_api.specs.declared.fault.MakeFault.TheVariants.{NoCode, Refused, NoMemory}
use Rattle.plug_api.specs.Inputs.{Inputs, Outputs}

-- the part that makes sound
pub record FrontMeaning (F : Type 0) : Type 0 where
  -- it can run over these declared ports
  pub fits : F → List Port → Bool
  pub activate : F → F
  pub deactivate : F → F
  -- it attempts to schedule jobs
  pub run : F → Inputs → Interaction (F × Outputs)
  pub response : F → List ℕ → F
  pub end_run : F → F

-- the part that works; it attempts to respond, and a thread-safe restore to schedule jobs
pub record BackMeaning (B : Type 0) : Type 0 where
  pub work : B → List ℕ → Interaction (B × ℕ)
  -- a status and properties, where so many URIs have numbers
  pub save : B → ℕ → ℕ × List (ℕ × Prop)
  pub restore_safe : B → List (ℕ × Prop) → Interaction (B × ℕ)

-- what making an instance gives: both parts and the URIs that then have numbers, or the number of a refusal, 0 where there is no such code
pub data Making (F B : Type 0) : Type 0 where
  made : F → B → List (List ℕ) → Making F B
  refused : ℕ → Making F B

-- the codes
pub record CodesMeaning (F B : Type 0) : Type 0 where
  -- the declaration that comes with the code of a URI, in Turtle
  pub text : List ℕ → Option (List ℕ)
  -- at a rate, with options, where these URIs have numbers
  pub make : Decl → ℕ → Options → List (List ℕ) → Making F B
  -- both parts once they have these properties, and a status
  pub restore : F → B → List (ℕ × Prop) → F × B × ℕ

-- an answer is that of a meaning, or that there is no memory
abbrev pub IsMade : {F B : Type 0} → Making F B → Result (F × B) MakeFault → List (List ℕ) → Type 0
IsMade (made front back urids) (Ok parts) mapped = (parts ≡ (front, back)) × (mapped ≡ urids)
IsMade (made front back urids) (Err NoMemory) mapped = Unit {0}
IsMade (made front back urids) (Err NoCode) mapped = ⊥
IsMade (made front back urids) (Err (Refused number)) mapped = ⊥
IsMade (refused number) (Ok parts) mapped = ⊥
IsMade (refused number) (Err NoMemory) mapped = Unit {0}
IsMade (refused zero) (Err NoCode) mapped = Unit {0}
IsMade (refused (suc n)) (Err NoCode) mapped = ⊥
IsMade (refused zero) (Err (Refused number)) mapped = ⊥
IsMade (refused (suc n)) (Err (Refused number)) mapped = number ≡ suc n
