-- A record that stands goes on by entries that break no rule, and by whole calls.
use Rattle.std.specs.Prelude.{◌≡◌, ℕ, true, List, [], ◌∷◌, ◌++◌}
use Rattle.step_law.specs.declared.entry.Entry.{Entry}
use Rattle.step_law.specs.declared.entry.Kind.TheVariants.{Take, Long}
use Rattle.step_law.specs.declared.actor.Actor.TheVariants.{Audio}
use Rattle.step_law.specs.Ring.{ring_at}
use Rattle.record_law.specs.Entries.{is_by, is_kind}
use Rattle.record_law.specs.Lawful.{KeepsRules, IsLawful}
use Rattle.record_law.specs.Message.{Step}
use Rattle.record_law.specs.Message.Message.{notice}
use Rattle.record_law.specs.Protocol.{follow_in, about_in, history_of}
use Rattle.session_play.specs.Rules.{IsLawfulRecord}
use Rattle.session_play.specs.Run.{Run}
use Rattle.session_play.specs.SessionShape.{shape_of}
use Rattle.session_play.specs.Value.{Value, blank, carried}
use Rattle.session_play.specs.ValueRule.{is_long}
use Rattle.play_known.specs.Calling.{WholeCall, steps_in, entries_in, AreTold, IsCall}
use Rattle.play_known.specs.InCall.{known_in_call}
use Rattle.play_known.specs.Known.{Known, known_of, known_after}
use Rattle.play_known.specs.Telling.{brought, is_try, is_plain}
use Rattle.play_stands.specs.Standing.{Stands}

-- the step that an entry is after others
abbrev pub IsStep : {F B : Type 0} → Run F B → List Entry → Step → Type 0
IsStep run steps x = about_in (follow_in (shape_of run.setup) (history_of (shape_of run.setup) steps) x.entry) ≡ x.about

-- with it the record breaks no rule but perhaps that on values
abbrev pub KeepsOn : {F B : Type 0} → Run F B → List Entry → Step → Type 0
KeepsOn run steps x = KeepsRules (shape_of run.setup) (steps ++ x.entry ∷ [])

-- a record with one more step of this value
abbrev pub StandsWith : {F B : Type 0} → Run F B → List (List ℕ) → List Entry → Known F B → Step → Value F B → Type 0
StandsWith run names steps k x value =
    Stands run names (steps ++ x.entry ∷ []) (known_after run.setup names (record { step = x; value = value }) k)

-- audio goes on only once it has told all notices
abbrev pub IsSilent : {F B : Type 0} → Known F B → Step → Type 0
IsSilent k x = is_by Audio x.entry ≡ true → k.untold ≡ []

-- nothing was done yet
abbrev pub NothingStands : Type 0 → Type 0 → Type 0
NothingStands F B = (run : Run F B) (names : List (List ℕ)) → Stands run names [] (known_of run names [])

-- a take brings the oldest body that waits
abbrev pub TakeStands : Type 0 → Type 0 → Type 0
TakeStands F B = (run : Run F B) (names : List (List ℕ)) (steps : List Entry) (k : Known F B) (x : Step) → Stands run names steps k
    → IsStep run steps x → KeepsOn run steps x → x.entry.kind ≡ Take → IsSilent k x
    → StandsWith run names steps k x (brought x.about (k.waiting (ring_at x.entry.a)))

-- a notice tells the first that is untold, and is long exactly if that is
abbrev pub NoticeStands : Type 0 → Type 0 → Type 0
NoticeStands F B = (run : Run F B) (names : List (List ℕ)) (steps : List Entry) (k : Known F B) (x : Step) (inst : ℕ) (told : List ℕ) (later : List (List ℕ))
    → Stands run names steps k → IsStep run steps x → KeepsOn run steps x → is_by Audio x.entry ≡ true → is_try x ≡ true → x.about ≡ notice inst
    → k.untold ≡ told ∷ later → is_long told ≡ is_kind Long x.entry → StandsWith run names steps k x (carried told)

-- any other entry outside of calls has no value
abbrev pub PlainStands : Type 0 → Type 0 → Type 0
PlainStands F B = (run : Run F B) (names : List (List ℕ)) (steps : List Entry) (k : Known F B) (x : Step) → Stands run names steps k
    → IsStep run steps x → KeepsOn run steps x → is_plain x ≡ true → IsSilent k x → StandsWith run names steps k x blank

-- a whole call changes what is known in one way
abbrev pub CallStands : Type 0 → Type 0 → Type 0
CallStands F B = (run : Run F B) (names : List (List ℕ)) (steps : List Entry) (k : Known F B) (it : WholeCall F B) → Stands run names steps k
    → IsCall run names k it → AreTold (shape_of run.setup) (history_of (shape_of run.setup) steps) (steps_in it)
    → Stands run names (steps ++ entries_in it) (known_in_call run.setup it k)

-- a record that stands is lawful if it is but for its values
abbrev pub StandingIsLawful : Type 0 → Type 0 → Type 0
StandingIsLawful F B = (run : Run F B) (names : List (List ℕ)) (steps : List Entry) (k : Known F B) → Stands run names steps k
    → IsLawful (shape_of run.setup) steps → IsLawfulRecord run steps
