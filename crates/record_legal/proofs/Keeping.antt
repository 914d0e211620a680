-- What a judge needs of an entry that has a form, and of one that breaks no rule.
use Rattle.std.proofs.Common.{ltb-true, leb-true, ◌≡◌, ◌+◌, ◌*◌, ◌&&◌, Bool, true, false, List, [], ◌∷◌, length, Option, Some, None, refl, sym, ap, subst, ◌∙◌, arith, true≢false}
use Rattle.std.proofs.lemmas.Option.{none-some}
use Rattle.std.specs.Prelude.{unwrap_or, is_some, nat_le, nat_lt, IfSome, Result, Ok, Err, IfOk}
use Rattle.std.specs.Option.{option_map}
use Rattle.std.specs.Result.{result_err}
use Rattle.step_law.specs.declared.entry.Entry.{Entry}
use Rattle.step_law.specs.declared.entry.Kind.{Kind}
use Rattle.step_law.specs.declared.entry.Kind.TheVariants.{Take, Send}
use Rattle.step_law.specs.Ring.{ring_at}
use Rattle.record_law.specs.declared.shape.Broken.{Broken}
use Rattle.record_law.specs.declared.shape.Broken.TheVariants as rule
use Rattle.record_law.specs.declared.shape.Shape.{Shape}
use Rattle.record_law.specs.History.{waiting}
use Rattle.record_law.specs.Message.{History, Message as Meant}
use Rattle.record_law.specs.Message.Message.{nothing}
use Rattle.record_law.specs.Protocol.{Follows, about_in, follow_in, done_in}
use Rattle.record_law.specs.Room.{finds_message, has_room}
use Rattle.record_law.specs.Rules.{first_broken}
use Rattle.record_law.specs.There.{has_form}
use Rattle.record_law.specs.Waits.{may_come}
use Rattle.record_terms.specs.declared.message.Message.{Message}
use Rattle.record_terms.specs.declared.message.Message.TheVariants.{Nothing}
use Rattle.record_terms.specs.Message.{meaning_of}
use Rattle.record_counts.proofs.Forms.{is_on_ring, form_ring_within}
use Rattle.record_counts.proofs.KeptLaws.{rule_kept, next_kept}
use Rattle.record_order.specs.Queues.{AreQueues, HaveRoom, NamesRing, HasRoom, FindsMessage}
use Rattle.record_order.specs.declared.tracker.Tracker.{Tracker}
use Rattle.record_order.specs.Tracked.{Says, Goes, GoesOn}
use Rattle.order_base.specs.There.{IsThere}
use Rattle.order_base.specs.Answer.{step_of}
use Rattle.record_order.specs.Waiting.{Waiting}
use Rattle.record_order.proofs.QueueTables.{waiting_is}
use Rattle.record_rules.specs.Counts.{IsFollowing}
use Rattle.record_rules.proofs.Finding.{about_is}
use Rattle.record_legal.proofs.OfKind.{is_take, is_send}

-- ---- rings

pub names_take : (s : Shape) (queues : List Waiting) (e : Entry) → has_form s e ≡ true → length queues ≡ 18 + 3 * length s.insts → NamesRing queues Take e
names_take s queues e form all is =
    let on : is_on_ring e.kind ≡ true = ap is_on_ring (is_take e.kind is) in omega (arith, form_ring_within s e form on)

pub names_send : (s : Shape) (queues : List Waiting) (e : Entry) → has_form s e ≡ true → length queues ≡ 18 + 3 * length s.insts → NamesRing queues Send e
names_send s queues e form all is =
    let on : is_on_ring e.kind ≡ true = ap is_on_ring (is_send e.kind is) in omega (arith, form_ring_within s e form on)

-- a take that breaks no rule finds a message
pub finds : (s : Shape) (h : History) (queues : List Waiting) (e : Entry) → first_broken s h e ≡ None → AreQueues queues h → FindsMessage queues e
finds s h queues e none are is it at =
    let kept : finds_message h e.kind e.a ≡ true = rule_kept s h e (rule.Syntax ∷ rule.Order ∷ []) (rule.Full ∷ rule.Room ∷ rule.Look ∷ rule.Holder ∷ rule.Class ∷ rule.End ∷ []) rule.Ring refl none in
    let some : nat_lt 0 (waiting (ring_at e.a) h) ≡ true = subst (λ (kind : Kind). finds_message h kind e.a ≡ true) (is_take e.kind is) kept in
    omega (arith, ltb-true 0 (waiting (ring_at e.a) h) some, waiting_is (ring_at e.a) it.messages h (are e.a it at))

-- a send that breaks no rule has room
pub fits : (s : Shape) (h : History) (queues : List Waiting) (e : Entry) → first_broken s h e ≡ None → AreQueues queues h → HaveRoom (s.cells + 2) queues → HasRoom queues e
fits s h queues e none are have is it at =
    let kept : has_room s h e.kind e.a ≡ true = rule_kept s h e (rule.Syntax ∷ rule.Order ∷ rule.Ring ∷ rule.Full ∷ []) (rule.Look ∷ rule.Holder ∷ rule.Class ∷ rule.End ∷ []) rule.Room refl none in
    let most : nat_le (waiting (ring_at e.a) h) (s.cells + 1) ≡ true = subst (λ (kind : Kind). has_room s h kind e.a ≡ true) (is_send e.kind is) kept in
    omega (arith, leb-true (waiting (ring_at e.a) h) (s.cells + 1) most, have e.a it at, waiting_is (ring_at e.a) it.messages h (are e.a it at))

-- ---- the order of work

-- what a tracker says of an entry
pub following : (answer : Option Message) (follows : Option Follows) → Says answer follows → option_map meaning_of answer ≡ option_map (λ (it : Follows). it.about) follows
following None follows says = ap (option_map (λ (it : Follows). it.about)) (sym says)
following (Some about) None says = absurd (true≢false (sym says.0))
following (Some about) (Some it) says = ap Some (sym says.1)

both_left : (a b : Bool) → (a && b) ≡ true → a ≡ true
both_left true b e = refl
both_left false b e = e

some_about : (follows : Option Message) (it : Option Follows) → option_map meaning_of follows ≡ option_map (λ (f : Follows). f.about) it → is_some it ≡ true
    → (about : Message) × (follows ≡ Some about)
some_about (Some about) it e some = (about, refl)
some_about None None e some = absurd (true≢false (sym some))
some_about None (Some it) e some = absurd (none-some it.about e)

-- an entry that breaks no rule is about something
pub has_about : (s : Shape) (h : History) (e : Entry) (follows : Option Message) → first_broken s h e ≡ None → IsFollowing s h e follows
    → (about : Message) × (follows ≡ Some about)
has_about s h e follows none is =
    some_about follows (follow_in s h e) is (both_left (is_some (follow_in s h e)) (may_come s h e) (next_kept s h e none))

-- what it is about
pub about_meant : (s : Shape) (h : History) (e : Entry) (follows : Option Message) (about : Message) → IsFollowing s h e follows → follows ≡ Some about
    → meaning_of about ≡ about_in (follow_in s h e)
about_meant s h e follows about is some =
    ap (λ (it : Option Message). unwrap_or (option_map meaning_of it) nothing) (sym some) ∙ ap (λ (it : Option Meant). unwrap_or it nothing) is ∙ about_is (follow_in s h e)

-- ---- what the judge keeps after an entry

-- a tracker goes on by an entry that is about something
pub goes_as : (s : Shape) (before after : Tracker) (brought : Message) (e : Entry) (answer : Option Message) (about : Message) → answer ≡ Some about
    → Goes s before after brought e answer → GoesOn s before after brought e
goes_as s before after brought e answer about is goes = subst (λ (it : Option Message). IfSome it (λ about. GoesOn s before after brought e)) is goes.stands

-- what an entry is about is there, or nothing
pub about_there : (s : Shape) (answer : Option Message) (about : Message) → IfSome answer (IsThere s) → about ≡ unwrap_or answer Nothing → IsThere s about
about_there s None about there is = subst (IsThere s) (sym is) tt
about_there s (Some it) about there is = subst (IsThere s) (sym is) there

-- what is noted of an entry is what it is about
pub meant_as : (s : Shape) (h : History) (e : Entry) (answer : Option Message) (noted about : Message) → IsFollowing s h e answer → answer ≡ Some about
    → noted ≡ unwrap_or answer Nothing → meaning_of noted ≡ about_in (follow_in s h e)
meant_as s h e answer noted about follows is same =
    ap meaning_of (same ∙ ap (λ (it : Option Message). unwrap_or it Nothing) is) ∙ about_meant s h e answer about follows is

-- and the history goes on by it
pub noted_as : (s : Shape) (h : History) (e : Entry) (answer : Option Message) (noted about : Message) → IsFollowing s h e answer → answer ≡ Some about
    → noted ≡ unwrap_or answer Nothing → step_of e noted ∷ h ≡ done_in s h e
noted_as s h e answer noted about follows is same =
    ap (λ (it : Meant). record { entry = e; about = it } ∷ h) (meant_as s h e answer noted about follows is same)

-- what holds where an entry breaks no rule
pub if_none_broken : {P : Type 0} (result : Result Message Broken) → IfOk result (λ about. P) → result_err result ≡ None → P
if_none_broken (Ok about) holds none = holds
if_none_broken (Err broken) holds none = absurd (none-some broken (sym none))
