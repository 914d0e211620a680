-- The threading classes (LV2 core, "Threading Classes"), as a record on one thread keeps them.
use Rattle.std.specs.Prelude.{◌≡◌, ℕ, ◌==◌, Bool, true, false, if◌then◌else◌, List, [], ◌∷◌, ◌++◌, Option, None, filter_map, replicate}
use Rattle.step_law.specs.declared.actor.Actor.{Actor}
use Rattle.step_law.specs.declared.call.Call.{Call}
use Rattle.step_law.specs.declared.call.Call.TheVariants.{Run, Make, Activate, Deactivate, Cleanup}
use Rattle.step_law.specs.declared.entry.Entry.{Entry}
use Rattle.step_law.specs.declared.entry.Kind.{Kind}
use Rattle.step_law.specs.declared.entry.Kind.TheVariants.{Begin, End}
use Rattle.step_record.specs.Call.{call_at}
use Rattle.step_record.specs.Entry.{begin_of, end_of}

-- an entry is an edge of a call: its begin or its end
abbrev pub is_edge : Kind → Bool
is_edge Begin = true
is_edge End = true
is_edge _ = false

-- No call lasts while another does: the record is made of whole calls, and of entries that are no part of one.
pub data IsOneAtATime : List Entry → Type 0 where
  none : IsOneAtATime []
  event : (e : Entry) (rest : List Entry) → is_edge e.kind ≡ false → IsOneAtATime rest → IsOneAtATime (e ∷ rest)
  whole_call : (actor : Actor) (call : Call) (inst : ℕ) (rest : List Entry) → IsOneAtATime rest → IsOneAtATime (begin_of actor call inst ∷ end_of actor call inst ∷ rest)

-- the call on instance i that an entry begins, if it does
abbrev pub begun_by : Kind → ℕ → ℕ → ℕ → Option Call
begun_by Begin i a b = if b == i then call_at a else None
begun_by _ i a b = None

abbrev pub begun : ℕ → Entry → Option Call
begun i e = begun_by e.kind i e.a e.b

-- the calls on instance i, in order
abbrev pub calls_on : ℕ → List Entry → List Call
calls_on i steps = filter_map (begun i) steps

-- what is called on an instance in a whole run: `activate` before the first `run`, and none after `deactivate`
abbrev pub whole_life : ℕ → List Call
whole_life blocks = (Make ∷ Activate ∷ []) ++ replicate blocks Run ++ (Deactivate ∷ Cleanup ∷ [])
