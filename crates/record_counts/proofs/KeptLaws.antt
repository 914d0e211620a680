-- What is known of the entries of a history that broke no rule.
use Rattle.std.proofs.Common.{◌≡◌, Bool, true, false, not, cond, List, [], ◌∷◌, ◌++◌, Some, None, find, refl, sym, subst, ⊎_elim}
use Rattle.std.proofs.lemmas.Bool.{or_cases, not-false, not-true, both_ways}
use Rattle.std.proofs.lemmas.Option.{none-some}
use Rattle.step_law.specs.declared.actor.Actor.{Actor}
use Rattle.step_law.specs.declared.entry.Entry.{Entry}
use Rattle.step_law.specs.declared.entry.Kind.TheVariants.{Last}
use Rattle.record_law.specs.declared.shape.Broken.{Broken}
use Rattle.record_law.specs.declared.shape.Broken.TheVariants as rule
use Rattle.record_law.specs.declared.shape.Shape.{Shape}
use Rattle.record_law.specs.Entries.{is_by, is_kind}
use Rattle.record_law.specs.Message.{History}
use Rattle.record_law.specs.History.{own}
use Rattle.record_law.specs.There.{has_form}
use Rattle.record_law.specs.Lasting.{keeps_class}
use Rattle.record_law.specs.Rules.{is_next, keeps, rules, first_broken}
use Rattle.record_counts.specs.Kept.{IsKept}
use Rattle.record_counts.specs.Looks.{newest_of}

find_none : {X : Type 0} (p : X → Bool) (before later : List X) (x : X) → find p (before ++ x ∷ later) ≡ None → p x ≡ false
find_none p [] later x = here (p x)
  where
    here : (b : Bool) → cond b (Some x) (find p later) ≡ None → b ≡ false
    here true e = absurd (none-some x (sym e))
    here false e = refl
find_none p (y ∷ before) later x = past (p y) (find_none p before later x)
  where
    past : (b : Bool) → (find p (before ++ x ∷ later) ≡ None → p x ≡ false) → cond b (Some y) (find p (before ++ x ∷ later)) ≡ None → p x ≡ false
    past true rest e = absurd (none-some y (sym e))
    past false rest e = rest e

-- an entry that breaks no rule keeps each
pub rule_kept : (s : Shape) (h : History) (e : Entry) (before later : List Broken) (broken : Broken) → rules ≡ before ++ broken ∷ later
    → first_broken s h e ≡ None → keeps s h e broken ≡ true
rule_kept s h e before later broken split k =
    not-false (keeps s h e broken)
    (find_none (λ it. not (keeps s h e it)) before later broken (subst (λ l. find (λ it. not (keeps s h e it)) l ≡ None) split k))

pub form_kept : (s : Shape) (h : History) (e : Entry) → first_broken s h e ≡ None → has_form s e ≡ true
form_kept s h e = rule_kept s h e [] (rule.Order ∷ rule.Ring ∷ rule.Full ∷ rule.Room ∷ rule.Look ∷ rule.Holder ∷ rule.Class ∷ rule.End ∷ []) rule.Syntax refl

pub class_kept : (s : Shape) (h : History) (e : Entry) → first_broken s h e ≡ None → keeps_class h e.kind e.a e.b ≡ true
class_kept s h e =
    rule_kept s h e (rule.Syntax ∷ rule.Order ∷ rule.Ring ∷ rule.Full ∷ rule.Room ∷ rule.Look ∷ rule.Holder ∷ []) (rule.End ∷ []) rule.Class refl

pub next_kept : (s : Shape) (h : History) (e : Entry) → first_broken s h e ≡ None → is_next s h e ≡ true
next_kept s h e k =
    let order =
    rule_kept s h e (rule.Syntax ∷ []) (rule.Ring ∷ rule.Full ∷ rule.Room ∷ rule.Look ∷ rule.Holder ∷ rule.Class ∷ rule.End ∷ []) rule.Order refl k in
    let last =
    rule_kept s h e (rule.Syntax ∷ rule.Order ∷ rule.Ring ∷ rule.Full ∷ rule.Room ∷ rule.Look ∷ rule.Holder ∷ rule.Class ∷ []) [] rule.End refl k in
    ⊎_elim
    (λ is. ⊎_elim (λ other. absurd (both_ways (is_kind Last e) (not-true (is_kind Last e) other) is)) (λ next. next) (or_cases (not (is_kind Last e)) (is_next s h e) last))
    (λ next. next)
    (or_cases (is_kind Last e) (is_next s h e) order)

-- the newest entry of an actor has a form
pub newest_form : (s : Shape) (h : History) (actor : Actor) (e : Entry) → IsKept s h → newest_of (own actor h) ≡ Some e → has_form s e ≡ true
newest_form s [] actor e kept is = absurd (none-some e is)
newest_form s (x ∷ h) actor e kept is = by (is_by actor x.entry) (newest_form s h actor e kept.2) is
  where
    by : (b : Bool) → (newest_of (own actor h) ≡ Some e → has_form s e ≡ true) → newest_of (cond b (x ∷ own actor h) (own actor h)) ≡ Some e → has_form s e ≡ true
    by true older is = let same : x.entry ≡ e = cc in subst (λ (it : Entry). has_form s it ≡ true) same (form_kept s h x.entry kept.0)
    by false older is = older is
