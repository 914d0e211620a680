-- What is expected of the worked records.
use Rattle.std.specs.Prelude.{◌≡◌, ℕ, List, ◌++◌, flat_map, codes, Some}
use Rattle.std.specs.List.{range_with_len}
use Rattle.step_law.specs.declared.entry.Entry.{Entry}
use Rattle.record_law.specs.declared.shape.Broken.{Broken}
use Rattle.record_law.specs.Case.{Edit, edited}
use Rattle.session_play.specs.Playing.{play_of}
use Rattle.session_play.specs.Rules.{judged}
use Rattle.session_play.specs.Run.{Run}
use Rattle.play_outcome.specs.Pcm.{sound_of}
use Rattle.play_outcome.specs.Saves.{state_text}
use Rattle.play_outcome.specs.Summary.{summary_of}
use Rattle.one_thread.specs.OneThread.{IsOneThread}

-- it is the record of one thread, and its play has this sound and this summary
pub record PlaysAs {F B : Type 0} (run : Run F B) (steps : List Entry) (sound summary : List ℕ) : Type 0 where
  pub one_thread : IsOneThread run steps
  pub heard : sound_of run.setup (play_of run steps) ≡ sound
  pub told : summary_of run (codes "render") (play_of run steps) ≡ summary

-- a copy that is altered breaks this rule first, on this line
abbrev pub Breaks : {F B : Type 0} → Run F B → List Entry → Edit → ℕ → Broken → Type 0
Breaks run steps edit line broken = judged run (edited edit steps) ≡ Some (line, broken)

-- so many times the same bytes
abbrev pub times : ℕ → List ℕ → List ℕ
times count bytes = flat_map (λ place. bytes) (range_with_len 0 count)

-- what an instance did that has no worker
abbrev pub idle_part : List ℕ
idle_part = codes " jobs 0 refused 0 worked 0 responses 0 dropped 0 delivered 0 errors 0\n"

abbrev pub last_part : List ℕ
last_part = codes "saves 0\nlate 0\nlost 0\nentries "

abbrev pub amplified_summary : List ℕ
amplified_summary =
    codes "lv2fx render\nframes 8 channels 1\ninst c runs 2" ++ idle_part ++ codes "inst g runs 2" ++ idle_part ++ last_part ++ codes "36\n"

abbrev pub empty_summary : List ℕ
empty_summary =
    codes "lv2fx render\nframes 0 channels 1\ninst c runs 0" ++ idle_part ++ codes "inst g runs 0" ++ idle_part ++ last_part ++ codes "22\n"

abbrev pub fetching_summary : List ℕ
fetching_summary =
    codes "lv2fx render\nframes 6 channels 1\ninst f runs 3 jobs 3 refused 0 worked 3 responses 3 dropped 0 delivered 3 errors 0\nvalue f refused 0\n"
    ++ last_part
    ++ codes "62\n"

abbrev pub bursting_summary : List ℕ
bursting_summary =
    codes "lv2fx render\nframes 1 channels 0\ninst b runs 1 jobs 2 refused 1 worked 2 responses 2 dropped 0 delivered 2 errors 0\n"
    ++ codes "value b ok 33554432\nvalue b refused 16777216\n"
    ++ last_part
    ++ codes "39\n"

abbrev pub telling_summary : List ℕ
telling_summary =
    codes "lv2fx render\nframes 1 channels 0\ninst t runs 1" ++ idle_part ++ codes "notice t set urn:lv2fx:level fixed 4194304\n" ++ last_part ++ codes "21\n"

-- ---- sessions with actions

abbrev pub setting_summary : List ℕ
setting_summary = codes "lv2fx render\nframes 3 channels 1\ninst c runs 3" ++ idle_part ++ last_part ++ codes "34\n"

abbrev pub late_summary : List ℕ
late_summary = codes "lv2fx render\nframes 1 channels 1\ninst c runs 1" ++ idle_part ++ codes "saves 0\nlate 1\nlost 0\nentries 20\n"

abbrev pub restoring_summary : List ℕ
restoring_summary = codes "lv2fx render\nframes 8 channels 1\ninst k runs 3" ++ idle_part ++ codes "restore k 0\n" ++ last_part ++ codes "47\n"

abbrev pub restored_late_summary : List ℕ
restored_late_summary = codes "lv2fx render\nframes 8 channels 1\ninst k runs 4" ++ idle_part ++ codes "restore k 0\n" ++ last_part ++ codes "36\n"

abbrev pub saving_summary : List ℕ
saving_summary =
    codes "lv2fx render\nframes 6 channels 1\ninst t runs 3 jobs 1 refused 0 worked 1 responses 1 dropped 0 delivered 1 errors 0\n"
    ++ codes "restore t 0\nsaves 2\nlate 0\nlost 0\nentries 67\n"

abbrev pub message_summary : List ℕ
message_summary =
    codes "lv2fx render\nframes 4 channels 1\ninst t runs 2 jobs 1 refused 0 worked 1 responses 0 dropped 0 delivered 0 errors 0\n"
    ++ codes "notice t set urn:lv2fx:level fixed 4194304\nnotice t put urn:lv2fx:level fixed 4194304\n"
    ++ last_part
    ++ codes "46\n"

-- a state of an instance with a level
abbrev pub level_text : List ℕ → List ℕ → List ℕ
level_text number bytes =
    codes "\n<#save" ++ number
    ++ codes "> a fx:Saved ;\n\tfx:name \"t\" ;\n\tfx:plugin <urn:lv2fx:tank> ;\n\tstate:state [\n"
    ++ codes "\t\t<urn:lv2fx:level> [ fx:type <urn:lv2fx:Fixed> ; fx:flags 3 ; fx:bytes \"" ++ bytes
    ++ codes "\" ]\n\t] .\n"

-- two states: of level 0, and of level 0.5
abbrev pub states_text : List ℕ
states_text =
    codes "@prefix state: <http://lv2plug.in/ns/ext/state#> .\n@prefix fx: <urn:lv2fx:> .\n"
    ++ level_text (codes "0") (codes "AAAAAAAAAAA=")
    ++ level_text (codes "1") (codes "AACAAAAAAAA=")

-- the text of its states
abbrev pub Saves : {F B : Type 0} → Run F B → List Entry → List ℕ → Type 0
Saves run steps text = state_text run (play_of run steps) ≡ text
