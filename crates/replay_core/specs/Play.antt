-- The values of a record: what the fronts are and what is heard, entry by entry. Another record has another play.
use Rattle.std.specs.Prelude.{ℕ, suc, List, [], ◌∷◌, ◌++◌, length, fold, take, drop, replicate, Option, Some, None, slice_get}
use Rattle.lv_base.specs.declared.number.Sample.{Sample}
use Rattle.session_script.specs.declared.session.Session.{Session}
use Rattle.step_law.specs.declared.call.Call.{Call}
use Rattle.step_law.specs.declared.call.Call.TheVariants.{Run, Make, Activate, Deactivate}
use Rattle.step_law.specs.declared.entry.Entry.{Entry}
use Rattle.step_law.specs.declared.entry.Kind.{Kind}
use Rattle.step_law.specs.declared.entry.Kind.TheVariants.{Block, Done, End}
use Rattle.step_record.specs.Call.{call_at}
use Rattle.audio_api.specs.Inputs.{Inputs}
use Rattle.audio_api.specs.Sound.{silence}
use Rattle.replay_core.specs.Signals.{uri_at, inputs_at}
use Rattle.replay_core.specs.Pcm.{block_bytes}

-- what the calls of the codes do to a front
pub record Meaning (F : Type 0) : Type 0 where
  pub make : List ℕ → F
  pub activate : F → F
  pub run : F → Inputs → F × List Sample
  pub deactivate : F → F

abbrev pub meaning_of : {F : Type 0} → (List ℕ → F) → (F → F) → (F → Inputs → F × List Sample) → (F → F) → Meaning F
meaning_of make activate run deactivate = record { make = make; activate = activate; run = run; deactivate = deactivate }

-- the front of each instance, the signal of each in this block, and the sound so far
pub record Moment (F : Type 0) : Type 0 where
  pub fronts : List F
  pub signals : List (List Sample)
  pub sound : List ℕ

-- every instance is silent
abbrev pub silent_signals : Session → List (List Sample)
silent_signals s = replicate (length s.insts) (silence s.block)

-- before the first entry
abbrev pub start : {F : Type 0} → Session → Moment F
start s = record { fronts = []; signals = silent_signals s; sound = [] }

-- the list with x at place i
abbrev pub put : {X : Type 0} → List X → ℕ → X → List X
put xs i x = take i xs ++ x ∷ drop (suc i) xs

-- after a call that changes a front
abbrev pub changed : {F : Type 0} → (F → F) → Moment F → ℕ → Option F → Moment F
changed call m i None = m
changed call m i (Some front) = record m { fronts = put m.fronts i (call front) }

-- after a run: the front is what the code makes of it and of its inputs, and so is the signal
abbrev pub ran : {F : Type 0} → Meaning F → Session → Moment F → ℕ → Option F → Moment F
ran code s m i None = m
ran code s m i (Some front) =
    let given = code.run front (inputs_at s m.signals i) in
    record m { fronts = put m.fronts i given.0; signals = put m.signals i given.1 }

-- after the end of a call on instance i
abbrev pub after_call : {F : Type 0} → Meaning F → Session → Moment F → Option Call → ℕ → Moment F
after_call code s m (Some Make) i = record m { fronts = put m.fronts i (code.make (uri_at s i)) }
after_call code s m (Some Activate) i = changed code.activate m i (slice_get m.fronts i)
after_call code s m (Some Run) i = ran code s m i (slice_get m.fronts i)
after_call code s m (Some Deactivate) i = changed code.deactivate m i (slice_get m.fronts i)
after_call code s m _ i = m

-- after an entry: a block begins in silence, and is heard when it has ended
abbrev pub after : {F : Type 0} → Meaning F → Session → Moment F → Kind → ℕ → ℕ → Moment F
after code s m Block a b = record m { signals = silent_signals s }
after code s m Done a b = record m { sound = m.sound ++ block_bytes s m.signals }
after code s m End a b = after_call code s m (call_at a) b
after code s m _ a b = m

abbrev pub after_entry : {F : Type 0} → Meaning F → Session → Moment F → Entry → Moment F
after_entry code s m e = after code s m e.kind e.a e.b

-- the moment after entries, from a moment on
abbrev pub played_from : {F : Type 0} → Meaning F → Session → Moment F → List Entry → Moment F
played_from code s = fold (after_entry code s)

-- the play of a record
abbrev pub played : {F : Type 0} → Meaning F → Session → List Entry → Moment F
played code s = played_from code s (start s)

-- what is heard in the play of a record
abbrev pub sound_of : {F : Type 0} → Meaning F → Session → List Entry → List ℕ
sound_of code s steps = (played code s steps).sound
