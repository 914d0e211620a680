-- The threading classes as a test of one entry after a history.
use Rattle.std.specs.Prelude.{ℕ, ◌==◌, Bool, true, not, ◌&&◌, ◌||◌, if◌then◌else◌, List, [], ◌∷◌, filter}
use Rattle.std.specs.List.{list_all}
use Rattle.std.specs.Option.{option_map_or}
use Rattle.step_law.specs.declared.actor.Actor.TheVariants.{Control}
use Rattle.step_law.specs.declared.call.Call.TheVariants.{Run, Activate, Deactivate}
use Rattle.step_law.specs.declared.entry.Kind.{Kind}
use Rattle.step_law.specs.declared.entry.Kind.TheVariants.{Begin, End}
use Rattle.step_law.specs.Call.{call_number, call_at}
use Rattle.step_law.specs.Entry.{begin_of, end_of}
use Rattle.record_law.specs.Message.{History}
use Rattle.record_law.specs.History.{has}
use Rattle.record_law.specs.Threading.{may_overlap}

-- a call that lasts: the numbers of its actor and of the call
abbrev pub Lasting : Type 0
Lasting = ℕ × ℕ

abbrev pub is_other : ℕ → ℕ → Lasting → Bool
is_other actor call it = not ((it.0 == actor) && (it.1 == call))

abbrev pub lasting_after : (inst : ℕ) → Kind → (actor call on : ℕ) → List Lasting → List Lasting
lasting_after inst Begin actor call on before = if on == inst then (actor, call) ∷ before else before
lasting_after inst End actor call on before = if on == inst then filter (is_other actor call) before else before
lasting_after inst kind actor call on before = before

-- the calls that last on an instance
abbrev pub lasting : ℕ → History → List Lasting
lasting inst [] = []
lasting inst (x ∷ h) = lasting_after inst x.entry.kind x.entry.actor x.entry.a x.entry.b (lasting inst h)

abbrev pub may_overlap_at : ℕ → ℕ → Bool
may_overlap_at call other = option_map_or (λ it. option_map_or (may_overlap it) (call_at other) true) (call_at call) true

abbrev pub is_active : ℕ → History → Bool
is_active inst h = has (end_of Control Activate inst) h && not (has (begin_of Control Deactivate inst) h)

-- what begins may overlap all that lasts; a run needs an active instance
abbrev pub keeps_class : History → Kind → (a b : ℕ) → Bool
keeps_class h Begin call inst = list_all (λ (it : Lasting). may_overlap_at call it.1) (lasting inst h) && (not (call == call_number Run) || is_active inst h)
keeps_class h kind a b = true
