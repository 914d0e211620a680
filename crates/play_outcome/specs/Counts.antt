-- Counts of a record's entries.
use Rattle.std.specs.Prelude.{ℕ, ◌+◌, ◌==◌, Bool, true, false, not, ◌&&◌, ◌||◌, List, [], ◌∷◌}
use Rattle.std.specs.List.{list_any}
use Rattle.step_law.specs.declared.call.Call.{Call}
use Rattle.step_law.specs.declared.call.Call.TheVariants.{Work}
use Rattle.step_law.specs.declared.entry.Kind.TheVariants.{Take, Full, Long, End, Last}
use Rattle.step_law.specs.declared.ring.Ring.{Ring}
use Rattle.step_law.specs.declared.ring.Ring.TheVariants.{ControlToAudio}
use Rattle.step_law.specs.Call.{call_number}
use Rattle.record_law.specs.declared.shape.ActionKind.{ActionKind}
use Rattle.record_law.specs.declared.shape.ActionKind.TheVariants.{Set, Patch, Save, RestoreSafe, Restore}
use Rattle.record_law.specs.declared.shape.ShapeAction.{ShapeAction}
use Rattle.record_law.specs.Entries.{is_kind, is_on}
use Rattle.record_law.specs.Message.{Message, Step, History}
use Rattle.record_law.specs.Message.Message.{input}
use Rattle.record_law.specs.History.{one_more, count}
use Rattle.session_play.specs.Notices.{is_notice}
use Rattle.session_play.specs.Value.{Ending, worked, Value, gave, Play}

-- how many steps pass a test
abbrev pub number_of : (Step → Bool) → History → ℕ
number_of test [] = 0
number_of test (x ∷ h) = one_more (test x) (number_of test h)

-- how often a call on an instance has ended
abbrev pub ended : Call → ℕ → History → ℕ
ended call inst h = number_of (λ x. is_kind End x.entry && (x.entry.a == call_number call) && (x.entry.b == inst)) h

-- how many messages a ring refused: it was full, or they were too long
abbrev pub refused : Ring → History → ℕ
refused ring h = count Full ring h + count Long ring h

-- how many notices were lost
abbrev pub lost : History → ℕ
lost h = number_of (λ x. (is_kind Full x.entry || is_kind Long x.entry) && is_notice x.about) h

-- how many entries there are, the end of the record not counted
abbrev pub entries : History → ℕ
entries h = number_of (λ x. not (is_kind Last x.entry)) h

-- ---- actions that were late

abbrev pub is_input_of : ℕ → Message → Bool
is_input_of action (input other) = other == action
is_input_of action message = false

-- audio took what an action sends
abbrev pub was_taken : History → ℕ → Bool
was_taken h action = list_any (λ (x : Step). is_on Take ControlToAudio x.entry && is_input_of action x.about) h

-- an action sends a value or a message
abbrev pub sends_input : ActionKind → Bool
sends_input Set = true
sends_input Patch = true
sends_input Save = false
sends_input RestoreSafe = false
sends_input Restore = false

-- how many of these actions, from a number on, audio didn't take
abbrev pub late_from : History → ℕ → List ShapeAction → ℕ
late_from h action [] = 0
late_from h action (it ∷ later) = one_more (sends_input it.kind && not (was_taken h action)) (late_from h (action + 1) later)

-- ---- works that failed

abbrev pub is_failure : {F B : Type 0} → Ending F B → Bool
is_failure (worked back status) = not (status == 0)
is_failure ending = false

abbrev pub has_failed : {F B : Type 0} → Value F B → Bool
has_failed (gave ending) = is_failure ending
has_failed value = false

-- how many works of an instance answered another status than 0
abbrev pub failures : {F B : Type 0} → ℕ → Play F B → ℕ
failures inst [] = 0
failures inst (x ∷ p) =
    one_more (is_kind End x.step.entry && (x.step.entry.a == call_number Work) && (x.step.entry.b == inst) && has_failed x.value) (failures inst p)
