-- The values of a record: one for each entry, by what was played before it.
use Rattle.std.specs.Prelude.{◌≡◌, ℕ, List, [], ◌∷◌, Option, Some, None}
use Rattle.std.specs.Option.{option_map_or}
use Rattle.interaction.specs.Interaction.{Interaction, done, ask}
use Rattle.interaction.specs.Answers.{result_of}
use Rattle.step_law.specs.declared.entry.Entry.{Entry}
use Rattle.step_law.specs.declared.entry.Kind.{Kind}
use Rattle.step_law.specs.declared.entry.Kind.TheVariants.{Take, Send, Full, Long, Begin, End}
use Rattle.step_law.specs.Call.{call_at}
use Rattle.record_law.specs.Message.{Message, Step, History}
use Rattle.record_law.specs.Message.Message.{body, notice}
use Rattle.record_law.specs.Protocol.{follow_in, about_in, history_of}
use Rattle.session_play.specs.Calls.{call_of}
use Rattle.session_play.specs.Hand.{Hand, hand_at}
use Rattle.session_play.specs.Looking.{steps_of, open_call}
use Rattle.session_play.specs.Notices.{untold}
use Rattle.session_play.specs.Run.{Run}
use Rattle.session_play.specs.SessionShape.{shape_of}
use Rattle.session_play.specs.Value.{Ending, idle, Value, blank, begun, tried, gave, carried, Play}

-- ---- the value of an entry

-- an attempt with its answer: what the call asks for next, and what it then is to do
abbrev pub attempt_by : {F B : Type 0} → (answer : ℕ) → Option (Interaction (Ending F B)) → Value F B
attempt_by answer None = blank
attempt_by answer (Some (done ending)) = tried [] (done ending)
attempt_by answer (Some (ask asked next)) = tried asked (next answer)

-- the first of the notices that are still to be told
abbrev pub first_told : {F B : Type 0} → List (List ℕ) → Value F B
first_told [] = carried []
first_told (told ∷ later) = carried told

-- a send or a refusal: an attempt of a call, with its answer, or a notice
abbrev pub sent_value : {F B : Type 0} → Run F B → (answer : ℕ) → Message → Hand F B → Value F B
sent_value run answer body hand = attempt_by answer (open_call hand.own)
sent_value run answer (notice inst) hand = first_told (untold run.setup hand.own)
sent_value run answer about hand = blank

-- a take: the body of its send
abbrev pub taken_value : {F B : Type 0} → Message → Hand F B → Value F B
taken_value body hand = carried hand.body
taken_value (notice inst) hand = carried hand.body
taken_value about hand = blank

-- a call that was still to make attempts ends as if all their answers were 1, an unknown error (LV2 worker)
abbrev pub ended_value : {F B : Type 0} → Option (Interaction (Ending F B)) → Value F B
ended_value None = gave idle
ended_value (Some call) = gave (result_of call [])

abbrev pub begun_value : {F B : Type 0} → Run F B → Step → Hand F B → Value F B
begun_value run x hand = begun (option_map_or (λ call. call_of run call x.about x.entry.b hand) (call_at x.entry.a) (done idle))

-- An attempt is answered 0 where the ring took its body, and 2, no space, where it didn't (LV2 worker, LV2_Worker_Status).
abbrev pub value_by : {F B : Type 0} → Run F B → Kind → Step → Hand F B → Value F B
value_by run Begin x hand = begun_value run x hand
value_by run End x hand = ended_value (open_call hand.own)
value_by run Send x hand = sent_value run 0 x.about hand
value_by run Full x hand = sent_value run 2 x.about hand
value_by run Long x hand = sent_value run 2 x.about hand
value_by run Take x hand = taken_value x.about hand
value_by run kind x hand = blank

-- the value of a step after a play
abbrev pub value_at : {F B : Type 0} → Run F B → Play F B → Step → Value F B
value_at run p x = value_by run x.entry.kind x (hand_at run.held p x)

-- ---- the values of a record

-- each moment has the value of its step
abbrev pub IsPlayed : {F B : Type 0} → Run F B → Play F B → Type 0
IsPlayed run [] = Unit {0}
IsPlayed run (x ∷ p) = (x.value ≡ value_at run p x.step) × IsPlayed run p

-- a history with these values
abbrev pub played : {F B : Type 0} → Run F B → History → Play F B
played run [] = []
played run (x ∷ h) = let p = played run h in record { step = x; value = value_at run p x } ∷ p

-- the step that an entry is after a play, and what was played with it
abbrev pub step_at : {F B : Type 0} → Run F B → Play F B → Entry → Step
step_at run p e = record { entry = e; about = about_in (follow_in (shape_of run.setup) (steps_of p) e) }

abbrev pub then_played : {F B : Type 0} → Run F B → Play F B → Entry → Play F B
then_played run p e = let x = step_at run p e in record { step = x; value = value_at run p x } ∷ p

-- what was played with entries, in order, after a play
abbrev pub playing : {F B : Type 0} → Run F B → Play F B → List Entry → Play F B
playing run p [] = p
playing run p (e ∷ later) = playing run (then_played run p e) later

-- the play of a record
abbrev pub play_of : {F B : Type 0} → Run F B → List Entry → Play F B
play_of run steps = playing run [] steps

-- what a record's values are: those of a play of its history
pub record IsPlayOf {F B : Type 0} (run : Run F B) (steps : List Entry) (p : Play F B) : Type 0 where
  pub of_record : steps_of p ≡ history_of (shape_of run.setup) steps
  pub played : IsPlayed run p
