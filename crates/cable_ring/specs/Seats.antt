-- Which seat has which actor's trace.
use Rattle.std.specs.Prelude.{◌≡◌, ℕ, zero, suc, ◌+◌, ◌<◌, ◌≤◌, List, [], length}
use mathlib.Core.Option.{some}
use lib.ListN.{get_elem?}
use Rattle.cable_trace.specs.declared.trace.Trace.{Trace}
use Rattle.cable_trace.specs.Step.{fresh}
use Rattle.cable_ring.specs.declared.view.Plan.{Plan}
use Rattle.cable_ring.specs.declared.view.Acting.{Acting}
use Rattle.cable_ring.specs.declared.view.View.{View}
use Rattle.cable_ring.specs.declared.view.View.TheVariants.{Desk, Actor, Spent}

-- the actor of a seat, where it has one
abbrev pub acting_of : {M : Type 0} → View M → Acting M
acting_of (Actor acting) = acting
acting_of view = record { actor = 0; plan = record { first = 0; cells = 0; actors = 0; rings = [] }; trace = fresh }

-- the seat's actor has this trace now
abbrev pub with_trace : {M : Type 0} → Acting M → Trace M → View M
with_trace acting trace = Actor (record { actor = acting.actor; plan = acting.plan; trace = trace })

-- a view has an actor's trace
abbrev pub HasTrace : {M : Type 0} → ℕ → View M → Type 0
HasTrace actor (Actor acting) = acting.actor ≡ actor
HasTrace actor (Desk plan dealt gathered) = actor < length gathered
HasTrace actor Spent = ⊥

module _ {M : Type 0} (plan : Plan) (traces : ℕ → Trace M) (desk dealt : ℕ) (owner : ℕ → ℕ) (seat : ℕ) where
  -- what a seat knows is so: each trace that it has is the actor's, and no other seat has it
  abbrev pub Knows : View M → Type 0
  Knows (Actor acting) = (acting.actor < dealt) × (owner acting.actor ≡ seat) × (acting.plan ≡ plan) × (acting.trace ≡ traces acting.actor)
  Knows (Desk plan' dealt' gathered) = (seat ≡ desk) × (plan' ≡ plan) × (dealt' ≡ dealt)
      × ((actor : ℕ) (trace : Trace M) → get_elem? gathered actor ≡ some trace → (actor < dealt) × (owner actor ≡ desk) × (trace ≡ traces actor))
  Knows Spent = Unit {0}

-- The trace of each actor whose seat was handed out is in exactly one view; the others have done nothing.
pub record AreSeated {M : Type 0} (plan : Plan) (traces : ℕ → Trace M) (views : List (View M)) : Type 0 where
  pub desk : ℕ
  pub dealt : ℕ
  pub owner : ℕ → ℕ
  pub enough : dealt ≤ plan.actors
  pub knows : (seat : ℕ) (view : View M) → get_elem? views seat ≡ some view → Knows plan traces desk dealt owner seat view
  pub placed : (actor : ℕ) → actor < dealt → (view : View M) × (get_elem? views (owner actor) ≡ some view) × HasTrace actor view
  pub waits : (actor : ℕ) → dealt ≤ actor → traces actor ≡ fresh
