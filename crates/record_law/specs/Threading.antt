-- The threading classes (LV2 core, "Threading Classes"; LV2 worker), for `save` and a thread-safe `restore` by this host's own rule that
-- they may run beside calls of the audio class. These are rules of any record.
use Rattle.std.specs.Prelude.{◌≡◌, ℕ, Bool, true, false, ◌&&◌, ◌||◌, List, ◌∷◌, ◌++◌, Contains}
use Rattle.step_law.specs.declared.actor.Actor.{Actor}
use Rattle.step_law.specs.declared.actor.Actor.TheVariants.{Control}
use Rattle.step_law.specs.declared.call.Call.{Call}
use Rattle.step_law.specs.declared.call.Call.TheVariants.{Run, Activate, Deactivate}
use Rattle.step_law.specs.declared.entry.Entry.{Entry}
use Rattle.step_law.specs.Entry.{begin_of, end_of}
use Rattle.step_law.specs.Form.{audio_calls, worker_calls}

-- Two calls on one instance may overlap only where one is of the audio class and the other a worker's.
abbrev pub may_overlap : Call → Call → Bool
may_overlap call other = (audio_calls call && worker_calls other) || (worker_calls call && audio_calls other)

-- a call of an actor on an instance has begun in these entries, and its end doesn't stand after
pub record Lasts (actor : Actor) (call : Call) (inst : ℕ) (before : List Entry) : Type 0 where
  pub earlier : List Entry
  pub later : List Entry
  pub began : before ≡ earlier ++ begin_of actor call inst ∷ later
  pub goes_on : Contains later (end_of actor call inst) → ⊥

-- A record keeps the threading classes.
pub record KeepsThreadingClasses (steps : List Entry) : Type 0 where
  -- where a call begins, no call lasts on its instance but one that it may overlap
  pub apart : (before after : List Entry) (actor other : Actor) (call lasting : Call) (inst : ℕ)
      → steps ≡ before ++ begin_of actor call inst ∷ after → Lasts other lasting inst before → may_overlap call lasting ≡ true
  -- `activate` comes before a `run`, and none comes after `deactivate`
  pub active : (before after : List Entry) (actor : Actor) (inst : ℕ)
      → steps ≡ before ++ begin_of actor Run inst ∷ after
      → Contains before (end_of Control Activate inst) × (Contains before (begin_of Control Deactivate inst) → ⊥)

-- no call may overlap one of its own class
abbrev pub NoneOverlapsItsClass : Type 0
NoneOverlapsItsClass = (call other : Call) → audio_calls call ≡ audio_calls other → may_overlap call other ≡ false

-- what neither audio nor a worker calls overlaps nothing
abbrev pub InstantiationIsAlone : Type 0
InstantiationIsAlone = (call other : Call) → audio_calls call ≡ false → worker_calls call ≡ false → (may_overlap call other ≡ false) × (may_overlap other call ≡ false)
