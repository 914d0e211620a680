-- What holds of the records of one thread.
use Rattle.std.specs.Prelude.{◌≡◌, true, List, [], None}
use Rattle.step_law.specs.declared.entry.Entry.{Entry}
use Rattle.session_play.specs.Rules.{judged}
use Rattle.session_play.specs.Run.{Run}
use Rattle.one_thread.specs.OneThread.{IsOneThread, all_come}

-- a record that two tests let pass is that of one thread
abbrev pub TestsSay : Type 0 → Type 0 → Type 0
TestsSay F B = (run : Run F B) (steps : List Entry) → judged run steps ≡ None → all_come run [] steps ≡ true → IsOneThread run steps

-- and both let it pass
abbrev pub TestsAreKept : Type 0 → Type 0 → Type 0
TestsAreKept F B = (run : Run F B) (steps : List Entry) → IsOneThread run steps → (judged run steps ≡ None) × (all_come run [] steps ≡ true)
