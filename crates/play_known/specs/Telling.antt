-- The values of entries outside of calls, by what is known: the body that a take brings, and the notice that audio tells.
use Rattle.std.specs.Prelude.{◌≡◌, ℕ, Bool, true, false, not, ◌||◌, List, [], ◌∷◌, slice_index_or}
use Rattle.step_law.specs.declared.actor.Actor.TheVariants.{Audio}
use Rattle.step_law.specs.declared.entry.Kind.TheVariants.{Take, Send, Full, Long, Begin, End}
use Rattle.step_law.specs.Ring.{ring_at}
use Rattle.record_law.specs.Entries.{is_by, is_kind}
use Rattle.record_law.specs.Message.{Message, Step}
use Rattle.record_law.specs.Message.Message.{body, notice}
use Rattle.session_play.specs.Notices.{is_notice}
use Rattle.session_play.specs.Playing.{value_at, first_told}
use Rattle.session_play.specs.Run.{Run}
use Rattle.session_play.specs.Value.{Value, blank, carried, Play}
use Rattle.session_play.specs.ValueRule.{is_long, keeps_values}
use Rattle.play_known.specs.Known.{known_of}

-- a take of a job, a response or a notice brings the oldest body that waits
abbrev pub brought : {F B : Type 0} → Message → List (List ℕ) → Value F B
brought body waiting = carried (slice_index_or waiting 0 [])
brought (notice inst) waiting = carried (slice_index_or waiting 0 [])
brought about waiting = blank

abbrev pub TakesBringTheOldest : Type 0 → Type 0 → Type 0
TakesBringTheOldest F B = (run : Run F B) (names : List (List ℕ)) (p : Play F B) (x : Step) → x.entry.kind ≡ Take
    → value_at run p x ≡ brought x.about ((known_of run names p).waiting (ring_at x.entry.a))

-- audio sends a message, or can't
abbrev pub is_try : Step → Bool
is_try x = is_kind Send x.entry || is_kind Full x.entry || is_kind Long x.entry

-- a notice is the first that is still to be told, and told as long as it is
abbrev pub NoticesAreTold : Type 0 → Type 0 → Type 0
NoticesAreTold F B = (run : Run F B) (names : List (List ℕ)) (p : Play F B) (x : Step) (inst : ℕ) → is_by Audio x.entry ≡ true → is_try x ≡ true
    → x.about ≡ notice inst → value_at run p x ≡ first_told (known_of run names p).untold

abbrev pub NoticesKeepValues : Type 0 → Type 0 → Type 0
NoticesKeepValues F B = (run : Run F B) (names : List (List ℕ)) (p : Play F B) (x : Step) (inst : ℕ) (told : List ℕ) (later : List (List ℕ))
    → is_by Audio x.entry ≡ true → is_try x ≡ true → x.about ≡ notice inst → (known_of run names p).untold ≡ told ∷ later
    → is_long told ≡ is_kind Long x.entry → keeps_values run p x ≡ true

-- it belongs to no call, and carries nothing
abbrev pub is_body : Message → Bool
is_body body = true
is_body about = false

abbrev pub is_plain : Step → Bool
is_plain x = not (is_kind Begin x.entry || is_kind End x.entry || is_kind Take x.entry || is_body x.about || is_notice x.about)

abbrev pub PlainHaveNoValue : Type 0 → Type 0 → Type 0
PlainHaveNoValue F B = (run : Run F B) (p : Play F B) (x : Step) → is_plain x ≡ true → value_at run p x ≡ blank

-- audio goes on once it has told all notices; no other entry outside of calls has a rule on values
abbrev pub OthersKeepValues : Type 0 → Type 0 → Type 0
OthersKeepValues F B = (run : Run F B) (names : List (List ℕ)) (p : Play F B) (x : Step) → (is_kind Take x.entry || is_plain x) ≡ true
    → (is_by Audio x.entry ≡ true → (known_of run names p).untold ≡ []) → keeps_values run p x ≡ true
