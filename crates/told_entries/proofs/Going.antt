-- A record that stands goes on by an entry that was judged.
use Rattle.std.proofs.Common.{◌≡◌, ℕ, Bool, true, List, [], ◌∷◌, ◌++◌, Result, Ok, Err, IfOk, sym, subst, ◌∙◌}
use Rattle.step_law.specs.declared.actor.Actor.TheVariants.{Audio}
use Rattle.step_law.specs.declared.entry.Entry.{Entry}
use Rattle.step_law.specs.declared.entry.Kind.TheVariants.{Take, Long}
use Rattle.step_law.specs.Ring.{ring_at}
use Rattle.record_law.specs.declared.shape.Shape.{Shape}
use Rattle.record_law.specs.Entries.{is_by, is_kind}
use Rattle.record_law.specs.Lawful.{KeepsRules}
use Rattle.record_law.specs.Message.{Step}
use Rattle.record_law.specs.Message.Message.{notice}
use Rattle.record_law.specs.Protocol.{follow_in, about_in, history_of}
use Rattle.record_legal.specs.Judging.{IsAbout}
use Rattle.record_terms.specs.declared.message.Message.{Message as Told}
use Rattle.record_terms.specs.Message.{meaning_of}
use Rattle.session_play.specs.Run.{Run}
use Rattle.session_play.specs.SessionShape.{shape_of}
use Rattle.session_play.specs.Value.{Value, blank, carried}
use Rattle.judged_log.specs.declared.follower.Follower.{Follower}
use Rattle.judged_log.specs.declared.halt.Halt.{Halt}
use Rattle.judged_log.specs.Followed.{IsFollowed}
use Rattle.play_known.specs.Known.{Known, known_after}
use Rattle.play_known.specs.Telling.{brought, is_try, is_plain}
use Rattle.play_stands.specs.Laws.{IsStep, KeepsOn, StandsWith}
use Rattle.play_stands.specs.Standing.{Stands}
use Rattle.play_stands.proofs.Entries.{take_stands, notice_stands, plain_stands}
use Rattle.record_counts.specs.Step.{step_of}
use Rattle.told_entries.specs.GoingOn.{PlainGoesOn, TakeGoesOn, NoticeGoesOn}

-- an entry is about this after others, and breaks no rule with them
pub record Judged (shape : Shape) (before after : List Entry) (x : Step) : Type 0 where
  pub goes : after ≡ before ++ x.entry ∷ []
  pub keeps : KeepsRules shape after
  pub about : about_in (follow_in shape (history_of shape before) x.entry) ≡ x.about

is_step : {F B : Type 0} → (run : Run F B) (shape : Shape) (before after : List Entry) (x : Step) → shape ≡ shape_of run.setup
    → Judged shape before after x → IsStep run before x
is_step run shape before after x of judged = subst (λ s. about_in (follow_in s (history_of s before) x.entry) ≡ x.about) of judged.about

keeps_on : {F B : Type 0} → (run : Run F B) (shape : Shape) (before after : List Entry) (x : Step) → shape ≡ shape_of run.setup
    → Judged shape before after x → KeepsOn run before x
keeps_on run shape before after x of judged =
    subst (λ s. KeepsRules s (before ++ x.entry ∷ [])) of (subst (KeepsRules shape) judged.goes judged.keeps)

-- the same entries
stands_as : {F B : Type 0} → (run : Run F B) (names : List (List ℕ)) (before after : List Entry) (k : Known F B) (x : Step) (value : Value F B)
    → after ≡ before ++ x.entry ∷ [] → StandsWith run names before k x value
    → Stands run names after (known_after run.setup names (record { step = x; value = value }) k)
stands_as run names before after k x value goes stands =
    subst (λ l. Stands run names l (known_after run.setup names (record { step = x; value = value }) k)) (sym goes) stands

pub plain_goes_on : {F B : Type 0} → (shape : Shape) (before after : List Entry) (x : Step) → Judged shape before after x → is_plain x ≡ true
    → PlainGoesOn F B shape before after x
plain_goes_on shape before after x judged plain run names k of stands silent =
    stands_as run names before after k x blank judged.goes
    (plain_stands run names before k x stands (is_step run shape before after x of judged) (keeps_on run shape before after x of judged) plain silent)

pub take_goes_on : {F B : Type 0} → (shape : Shape) (before after : List Entry) (x : Step) → Judged shape before after x → x.entry.kind ≡ Take
    → TakeGoesOn F B shape before after x
take_goes_on shape before after x judged take run names k of stands silent =
    stands_as run names before after k x (brought x.about (k.waiting (ring_at x.entry.a))) judged.goes
    (take_stands run names before k x stands (is_step run shape before after x of judged) (keeps_on run shape before after x of judged) take silent)

pub take_if_ok : (F B : Type 0) → (shape : Shape) (before after : List Entry) (entry : Entry) (follower : Follower) (r : Result Told Halt)
    → entry.kind ≡ Take → IfOk r (λ about. after ≡ before ++ entry ∷ []) → IfOk r (λ about. IsFollowed shape after follower)
    → IfOk r (IsAbout shape (history_of shape before) entry) → IfOk r (λ about. TakeGoesOn F B shape before after (step_of entry (meaning_of about)))
take_if_ok F B shape before after entry follower (Ok about) take goes was is =
    take_goes_on shape before after (step_of entry (meaning_of about)) (record { goes = goes; keeps = was.keeps_rules; about = is }) take
take_if_ok F B shape before after entry follower (Err halt) take goes was is = tt

pub notice_goes_on : {F B : Type 0} → (long : Bool) (shape : Shape) (before after : List Entry) (x : Step) (inst : ℕ) → Judged shape before after x
    → is_by Audio x.entry ≡ true → is_try x ≡ true → x.about ≡ notice inst → long ≡ is_kind Long x.entry
    → NoticeGoesOn F B long shape before after x
notice_goes_on long shape before after x inst judged by_audio try about is_long told later same run names k of stands left =
    stands_as run names before after k x (carried told) judged.goes
    (notice_stands run names before k x inst told later stands (is_step run shape before after x of judged) (keeps_on run shape before after x of judged)
    by_audio try about left (same ∙ is_long))
