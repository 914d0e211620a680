-- The calls that last on each instance, as a table.
use Rattle.std.specs.Prelude.{◌≡◌, ℕ, List, [], ◌∷◌, length, slice_get, true, Some}
use Rattle.step_law.specs.Call.{call_number}
use Rattle.record_law.specs.declared.shape.Shape.{Shape}
use Rattle.record_law.specs.Message.{History}
use Rattle.record_law.specs.Lasting.{Lasting, lasting}
use Rattle.record_law.specs.Threading.{may_overlap}
use Rattle.record_counts.specs.declared.calls.InstCalls.{InstCalls}
use Rattle.record_counts.specs.declared.calls.InstCalls.TheVariants.{Quiet, One, Two}
use Rattle.record_counts.specs.declared.calls.OpenCall.{OpenCall}

abbrev pub lasting_of : OpenCall → Lasting
lasting_of it = (it.actor, call_number it.call)

-- the newest first
abbrev pub calls_of : InstCalls → List Lasting
calls_of Quiet = []
calls_of (One it) = lasting_of it ∷ []
calls_of (Two it other) = lasting_of it ∷ lasting_of other ∷ []

-- two that last may overlap
abbrev pub IsApart : InstCalls → Type 0
IsApart Quiet = Unit {0}
IsApart (One it) = Unit {0}
IsApart (Two it other) = may_overlap it.call other.call ≡ true

pub record TellsInst (h : History) (inst : ℕ) (calls : InstCalls) : Type 0 where
  pub same : calls_of calls ≡ lasting inst h
  pub apart : IsApart calls

pub record TellsCalls (s : Shape) (h : History) (insts : List InstCalls) : Type 0 where
  pub each : (inst : ℕ) (calls : InstCalls) → slice_get insts inst ≡ Some calls → TellsInst h inst calls
  pub all : length insts ≡ length s.insts
