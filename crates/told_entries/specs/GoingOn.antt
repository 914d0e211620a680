-- A record that stands goes on by an entry outside of calls.
use Rattle.std.specs.Prelude.{◌≡◌, ℕ, Bool, List, ◌∷◌}
use Rattle.step_law.specs.declared.entry.Entry.{Entry}
use Rattle.step_law.specs.Ring.{ring_at}
use Rattle.record_law.specs.declared.shape.Shape.{Shape}
use Rattle.record_law.specs.Message.{Step}
use Rattle.session_play.specs.Run.{Run}
use Rattle.session_play.specs.SessionShape.{shape_of}
use Rattle.session_play.specs.Value.{Value, blank, carried}
use Rattle.session_play.specs.ValueRule.{is_long}
use Rattle.play_known.specs.Known.{Known, known_after}
use Rattle.play_known.specs.Telling.{brought}
use Rattle.play_stands.specs.Laws.{IsSilent}
use Rattle.play_stands.specs.Standing.{Stands}

-- Wherever a record stands and what is known is as the step needs it, it stands with the step's entry, too, and the step, which has a value by
-- what was known, has changed what is known.
abbrev pub GoesOnWith : {F B : Type 0} → (Known F B → Type 0) → Shape → List Entry → List Entry → Step → (Known F B → Value F B) → Type 0
GoesOnWith {F} {B} needs shape before after x value = (run : Run F B) (names : List (List ℕ)) (k : Known F B) → shape ≡ shape_of run.setup
    → Stands run names before k → needs k → Stands run names after (known_after run.setup names (record { step = x; value = value k }) k)

-- one that carries nothing
abbrev pub PlainGoesOn : Type 0 → Type 0 → Shape → List Entry → List Entry → Step → Type 0
PlainGoesOn F B shape before after x = GoesOnWith {F = F} {B = B} (λ k. IsSilent k x) shape before after x (λ k. blank)

-- a take brings the oldest body that waits on its ring
abbrev pub TakeGoesOn : Type 0 → Type 0 → Shape → List Entry → List Entry → Step → Type 0
TakeGoesOn F B shape before after x =
    GoesOnWith {F = F} {B = B} (λ k. IsSilent k x) shape before after x (λ k. brought x.about (k.waiting (ring_at x.entry.a)))

-- audio tells the first notice that is untold, where it was said rightly whether that is too long
abbrev pub NoticeGoesOn : Type 0 → Type 0 → (long : Bool) → Shape → List Entry → List Entry → Step → Type 0
NoticeGoesOn F B long shape before after x = (told : List ℕ) (later : List (List ℕ)) → is_long told ≡ long
    → GoesOnWith {F = F} {B = B} (λ k. k.untold ≡ told ∷ later) shape before after x (λ k. carried told)
