-- The beat: one number that an actor stores, ever higher, and another loads.
use Rattle.std.specs.Prelude.{◌≡◌, ◌⊎◌, ℕ, ◌<◌, ◌≤◌, List, [], ◌∷◌, flat_map, All, Contains}
use Rattle.cable_trace.specs.declared.trace.Action.{Action}
use Rattle.cable_trace.specs.declared.trace.Action.TheVariants.{Stored, Loaded}
use Rattle.cable_trace.specs.declared.trace.Trace.{Trace}
use Rattle.cable_trace.specs.Trace.{drawn}

-- the number that an action stored or loaded, with its ticket
abbrev pub stored_by : {M : Type 0} → ℕ → Action M → List (ℕ × ℕ)
stored_by ticket (Stored number) = (ticket, number) ∷ []
stored_by ticket action = []

abbrev pub loaded_by : {M : Type 0} → ℕ → Action M → List (ℕ × ℕ)
loaded_by ticket (Loaded number) = (ticket, number) ∷ []
loaded_by ticket action = []

-- all numbers that an actor stored or loaded, in order, each with its ticket
abbrev pub stores : {M : Type 0} → Trace M → List (ℕ × ℕ)
stores trace = flat_map (λ event. stored_by event.ticket event.action) trace.events

abbrev pub loads : {M : Type 0} → Trace M → List (ℕ × ℕ)
loads trace = flat_map (λ event. loaded_by event.ticket event.action) trace.events

-- A number is the one that was stored last: the greatest, or 0 where none was stored.
pub record IsLast (number : ℕ) (stored : List (ℕ × ℕ)) : Type 0 where
  pub greatest : All (λ store. store.1 ≤ number) stored
  pub stands : (number ≡ 0) ⊎ ((ticket : ℕ) × Contains stored (ticket, number))

-- By tickets: all that the one actor drew, what it stored; all that the other drew, what it loaded.
pub record BeatInOrder (drew : List ℕ) (stored : List (ℕ × ℕ)) (asked : List ℕ) (loaded : List (ℕ × ℕ)) : Type 0 where
  -- a load gives at least each number after which the storing actor drew before the load
  pub at_least : All (λ load. All (λ ticket. ticket < load.0 → All (λ store. store.0 < ticket → store.1 ≤ load.1) stored) drew) loaded
  -- it gives 0, or a number that was stored before the loading actor drew again
  pub at_most : All (λ load. (load.1 ≡ 0) ⊎ ((ticket : ℕ) × Contains stored (ticket, load.1) × All (λ next. load.0 < next → ticket < next) asked)) loaded

-- what holds of the beat at any time, between the trace of the actor that stores it and of the one that loads it
abbrev pub BeatHolds : {M : Type 0} → Trace M → Trace M → Type 0
BeatHolds writer reader = BeatInOrder (drawn writer) (stores writer) (drawn reader) (loads reader)
