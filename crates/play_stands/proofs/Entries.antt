-- A record goes on with an entry.
use Rattle.std.proofs.Common.{◌≡◌, ℕ, Bool, true, false, not, ◌&&◌, ◌||◌, ◌==◌, cond, List, [], ◌∷◌, ◌++◌, find, Option, Some, None, refl, sym, ap, subst, ◌∙◌, true≢false, arith}
use Rattle.std.proofs.lemmas.Option.{none-some}
use Rattle.step_law.specs.declared.entry.Entry.{Entry}
use Rattle.step_law.specs.declared.entry.Kind.TheVariants.{Take, Last}
use Rattle.step_law.specs.Ring.{ring_at}
use Rattle.record_law.specs.declared.shape.Broken.{Broken}
use Rattle.record_law.specs.declared.shape.Broken.TheVariants as rule
use Rattle.record_law.specs.declared.shape.Shape.{Shape}
use Rattle.record_law.specs.Entries.{is_kind, kind_number}
use Rattle.record_law.specs.Message.{Step, History}
use Rattle.record_law.specs.Protocol.{follow_in, about_in, history_of}
use Rattle.record_law.specs.Room.{finds_message}
use Rattle.record_law.specs.Rules.{first_broken, keeps}
use Rattle.session_play.specs.Looking.{steps_of}
use Rattle.session_play.specs.Playing.{step_at, value_at, play_of, first_told}
use Rattle.session_play.specs.Run.{Run}
use Rattle.session_play.specs.SessionShape.{shape_of}
use Rattle.session_play.specs.Value.{Value, Moment, Play}
use Rattle.session_play.specs.ValueRule.{keeps_values}
use Rattle.session_play.proofs.Plays.{steps_on, goes_on}
use Rattle.play_known.specs.Known.{Known, known_of, known_after}
use Rattle.play_known.specs.Rings.{TakesAreSent}
use Rattle.play_known.proofs.Keeping.{values_go_on}
use Rattle.play_known.proofs.Moments.{known_goes_on}
use Rattle.play_known.proofs.Takes.{takes_stay_sent}
use Rattle.play_known.proofs.Tells.{takes_bring_the_oldest, notices_are_told, plain_have_no_value, notices_keep_values, others_keep_values}
use Rattle.play_known.specs.Telling.{brought, is_plain}
use Rattle.play_stands.specs.Standing.{Stands}
use Rattle.play_stands.specs.Laws.{IsStep, KeepsOn, StandsWith, NothingStands, TakeStands, NoticeStands, PlainStands}

pub nothing_stands : {F B : Type 0} → NothingStands F B
nothing_stands run names = record { kept = tt; sent = λ ring. omega arith; known = refl }

-- ---- an entry that breaks no rule takes only what waits

found_first : {X : Type 0} → (b : Bool) (x : X) (rest : Option X) → cond b (Some x) rest ≡ None → b ≡ false
found_first true x rest none = absurd (none-some x (sym none))
found_first false x rest none = refl

found_later : {X : Type 0} → (b : Bool) (x : X) (rest : Option X) → cond b (Some x) rest ≡ None → rest ≡ None
found_later true x rest none = absurd (none-some x (sym none))
found_later false x rest none = none

kept_by : (b : Bool) → not b ≡ false → b ≡ true
kept_by true is = refl
kept_by false is = absurd (true≢false is)

-- Ring is the third rule
keeps_ring : (s : Shape) (h : History) (e : Entry) → first_broken s h e ≡ None → finds_message h e.kind e.a ≡ true
keeps_ring s h e none =
    let f : Broken → Bool = λ broken. not (keeps s h e broken) in
    let later = rule.Full ∷ rule.Room ∷ rule.Look ∷ rule.Holder ∷ rule.Class ∷ rule.End ∷ [] in
    let after_syntax = found_later (f rule.Syntax) rule.Syntax (find f (rule.Order ∷ rule.Ring ∷ later)) none in
    let after_order = found_later (f rule.Order) rule.Order (find f (rule.Ring ∷ later)) after_syntax in
    kept_by (keeps s h e rule.Ring) (found_first (f rule.Ring) rule.Ring (find f later) after_order)

breaks_none : {F B : Type 0} → (run : Run F B) (steps : List Entry) (x : Step) → KeepsOn run steps x
    → first_broken (shape_of run.setup) (history_of (shape_of run.setup) steps) x.entry ≡ None
breaks_none run steps x keeps = by (is_kind Last x.entry) (keeps steps [] x.entry refl)
  where
    by : (b : Bool) → cond (b && false) (Some rule.Syntax) (first_broken (shape_of run.setup) (history_of (shape_of run.setup) steps) x.entry) ≡ None
        → first_broken (shape_of run.setup) (history_of (shape_of run.setup) steps) x.entry ≡ None
    by true none = none
    by false none = none

-- ---- one more entry

-- its step and its history
pub history_is : {F B : Type 0} → (run : Run F B) (steps : List Entry) → steps_of (play_of run steps) ≡ history_of (shape_of run.setup) steps
history_is run steps = steps_on run [] steps

step_is : {F B : Type 0} → (run : Run F B) (steps : List Entry) (x : Step) → IsStep run steps x → step_at run (play_of run steps) x.entry ≡ x
step_is run steps x is = λ t. record {
  entry = x.entry;
  about = (ap (λ h. about_in (follow_in (shape_of run.setup) h x.entry)) (history_is run steps) ∙ is) t;
}

with_one : {F B : Type 0} → (run : Run F B) (names : List (List ℕ)) (steps : List Entry) (k : Known F B) (x : Step) (value : Value F B)
    → Stands run names steps k → IsStep run steps x → KeepsOn run steps x → value_at run (play_of run steps) x ≡ value
    → keeps_values run (play_of run steps) x ≡ true → StandsWith run names steps k x value
with_one {F} {B} run names steps k x value stands is keeps gives values =
    let shape = shape_of run.setup in
    let p : Play F B = play_of run steps in
    let m : Moment F B = record { step = x; value = value } in
    let here : step_at run p x.entry ≡ x = step_is run steps x is in
    let played : play_of run (steps ++ x.entry ∷ []) ≡ m ∷ p =
    goes_on run [] steps (x.entry ∷ []) ∙ (λ t. record { step = here t; value = (ap (value_at run p) here ∙ gives) t } ∷ p) in
    let sent : TakesAreSent (steps_of p) = subst TakesAreSent (sym (history_is run steps)) stands.sent in
    let finds = keeps_ring shape (history_of shape steps) x.entry (breaks_none run steps x keeps) in
    record {
      kept =
          values_go_on run [] steps (x.entry ∷ []) stands.kept (subst (λ (y : Step). keeps_values run p y ≡ true) (sym here) values, tt);
      sent =
          subst TakesAreSent (ap (λ (q : Play F B). steps_of q) (sym played) ∙ history_is run (steps ++ x.entry ∷ []))
          (takes_stay_sent (steps_of p) x sent (subst (λ h. finds_message h x.entry.kind x.entry.a ≡ true) (sym (history_is run steps)) finds));
      known =
          ap (known_of run names) played ∙ known_goes_on run names m p sent ∙ ap (known_after run.setup names m) stands.known;
    }

abbrev brought_at : {F B : Type 0} → Step → Known F B → Value F B
brought_at x k = brought x.about (k.waiting (ring_at x.entry.a))

or_true : (a b : Bool) → b ≡ true → (a || b) ≡ true
or_true true b is = refl
or_true false b is = is

or_kind : (x : Step) → x.entry.kind ≡ Take → (is_kind Take x.entry || is_plain x) ≡ true
or_kind x take = ap (λ kind. (kind_number kind == kind_number Take) || is_plain x) take

or_plain : (x : Step) → is_plain x ≡ true → (is_kind Take x.entry || is_plain x) ≡ true
or_plain x plain = or_true (is_kind Take x.entry) (is_plain x) plain

pub take_stands : {F B : Type 0} → TakeStands F B
take_stands run names steps k x stands is keeps take silent =
    let p = play_of run steps in
    let untold = ap (λ (it : Known _ _). it.untold) stands.known in
    with_one run names steps k x _ stands is keeps
    (takes_bring_the_oldest run names p x take ∙ ap (λ (it : Known _ _). brought_at x it) stands.known)
    (others_keep_values run names p x (or_kind x take) (λ by_audio. untold ∙ silent by_audio))

pub notice_stands : {F B : Type 0} → NoticeStands F B
notice_stands run names steps k x inst told later stands is keeps by_audio try about left long =
    let p = play_of run steps in
    let untold = ap (λ (it : Known _ _). it.untold) stands.known ∙ left in
    with_one run names steps k x _ stands is keeps
    (notices_are_told run names p x inst by_audio try about ∙ ap first_told untold)
    (notices_keep_values run names p x inst told later by_audio try about untold long)

pub plain_stands : {F B : Type 0} → PlainStands F B
plain_stands run names steps k x stands is keeps plain silent =
    let p = play_of run steps in
    let untold = ap (λ (it : Known _ _). it.untold) stands.known in
    with_one run names steps k x _ stands is keeps (plain_have_no_value run p x plain)
    (others_keep_values run names p x (or_plain x plain) (λ by_audio. untold ∙ silent by_audio))
