-- A record that keeps the rules keeps the threading classes.
use Rattle.std.proofs.Common.{◌≡◌, ◌⊎◌, ℕ, ◌==◌, Bool, true, false, not, ◌&&◌, ◌||◌, cond, List, [], ◌∷◌, ◌++◌, Some, None, Contains, find, filter, refl, sym, ap, subst, ◌∙◌, inl, inr, ⊎_elim, true≢false, eq-eqb, eqb-true}
use Rattle.std.specs.List.{list_all}
use Rattle.std.specs.Option.{option_map_or}
use Rattle.std.proofs.lemmas.Bool.{and_parts, and_from, or_cases, not-true, not-false, not_from_false, cases_Bool, cond_both, both_ways}
use Rattle.std.proofs.lemmas.Option.{none-some}
use Rattle.step_law.specs.declared.actor.Actor.{Actor}
use Rattle.step_law.specs.declared.actor.Actor.TheVariants.{Control}
use Rattle.step_law.specs.declared.call.Call.{Call}
use Rattle.step_law.specs.declared.call.Call.TheVariants.{Run, Activate, Deactivate}
use Rattle.step_law.specs.declared.entry.Entry.{Entry}
use Rattle.step_law.specs.declared.entry.Kind.{Kind}
use Rattle.step_law.specs.declared.entry.Kind.TheVariants.{Begin, End}
use Rattle.step_law.specs.Actor.{actor_number}
use Rattle.step_law.specs.Call.{call_number, call_at}
use Rattle.step_law.specs.Entry.{begin_of, end_of}
use Rattle.step_law.proofs.EventLaws.{call_back}
use Rattle.record_law.specs.declared.shape.Broken.{Broken}
use Rattle.record_law.specs.declared.shape.Broken.TheVariants as rule
use Rattle.record_law.specs.declared.shape.Shape.{Shape}
use Rattle.record_law.specs.Message.{History}
use Rattle.record_law.specs.History.{has}
use Rattle.record_law.specs.Protocol.{done_in, after, history_of}
use Rattle.record_law.specs.Lasting.{Lasting, is_other, lasting_after, lasting, may_overlap_at, is_active, keeps_class}
use Rattle.record_law.specs.Threading.{may_overlap, Lasts}
use Rattle.record_law.specs.Rules.{keeps, rules}
use Rattle.record_law.specs.Lawful.{broken_at}
use Rattle.record_law.specs.Laws.{RulesKeepClasses}
use Rattle.record_law.proofs.Prefixes.{breaks_none}
use Rattle.record_law.proofs.Same.{entry, at_head, in_tail, has_means, has_all}

-- ---- a rule that isn't the first broken one, where none is

find_none : {X : Type 0} (p : X → Bool) (before later : List X) (x : X) → find p (before ++ x ∷ later) ≡ None → p x ≡ false
find_none p [] later x = here (p x)
  where
    here : (b : Bool) → cond b (Some x) (find p later) ≡ None → b ≡ false
    here true e = absurd (none-some x (sym e))
    here false e = refl
find_none p (y ∷ before) later x = past (p y) (find_none p before later x)
  where
    past : (b : Bool) → (find p (before ++ x ∷ later) ≡ None → p x ≡ false) → cond b (Some y) (find p (before ++ x ∷ later)) ≡ None → p x ≡ false
    past true rest e = absurd (none-some y (sym e))
    past false rest e = rest e

-- where an entry breaks no rule, it keeps each
pub rule_kept : (s : Shape) (h : History) (e : Entry) (later : List Entry) (before behind : List Broken) (broken : Broken) → rules ≡ before ++ broken ∷ behind
    → broken_at s h e later ≡ None → keeps s h e broken ≡ true
rule_kept s h e later before behind broken split k =
    not-false (keeps s h e broken)
    (find_none (λ it. not (keeps s h e it)) before behind broken (subst (λ l. find (λ it. not (keeps s h e it)) l ≡ None) split (breaks_none s h e later k)))

keeps_class_rule : (s : Shape) (h : History) (e : Entry) (later : List Entry) → broken_at s h e later ≡ None → keeps_class h e.kind e.a e.b ≡ true
keeps_class_rule s h e later =
    rule_kept s h e later (rule.Syntax ∷ rule.Order ∷ rule.Ring ∷ rule.Full ∷ rule.Room ∷ rule.Look ∷ rule.Holder ∷ []) (rule.End ∷ []) rule.Class refl

-- ---- a call is among some where each test that all of them pass is passed by it

abbrev Among : Lasting → List Lasting → Type 0
Among it calls = (p : Lasting → Bool) → list_all p calls ≡ true → p it ≡ true

among_head : (it : Lasting) (calls : List Lasting) → Among it (it ∷ calls)
among_head it calls p h = (and_parts (p it) (list_all p calls) h).0

among_tail : (it other : Lasting) (calls : List Lasting) → Among it calls → Among it (other ∷ calls)
among_tail it other calls k p h = k p (and_parts (p other) (list_all p calls) h).1

-- all that is kept passes a test: each passes it or isn't kept
all_kept : (q p : Lasting → Bool) (calls : List Lasting) → list_all p (filter q calls) ≡ true → list_all (λ it. not (q it) || p it) calls ≡ true
all_kept q p [] = λ h. refl
all_kept q p (x ∷ calls) = by (q x) (all_kept q p calls)
  where
    by : (b : Bool) → (list_all p (filter q calls) ≡ true → list_all (λ it. not (q it) || p it) calls ≡ true)
        → list_all p (cond b (x ∷ filter q calls) (filter q calls)) ≡ true → ((not b || p x) && list_all (λ it. not (q it) || p it) calls) ≡ true
    by true rest h =
        let both = and_parts (p x) (list_all p (filter q calls)) h in
        and_from (p x) (list_all (λ it. not (q it) || p it) calls) both.0 (rest both.1)
    by false rest h = rest h

among_kept : (it : Lasting) (q : Lasting → Bool) (calls : List Lasting) → Among it calls → q it ≡ true → Among it (filter q calls)
among_kept it q calls k passes p h =
    ⊎_elim (λ out. absurd (both_ways (q it) (not-true (q it) out) passes)) (λ passed. passed)
    (or_cases (not (q it)) (p it) (k (λ other. not (q other) || p other) (all_kept q p calls h)))

-- ---- a call that began lasts until its end

module _ (s : Shape) (inst actor call : ℕ) where
  -- the end of the call
  abbrev its_end : Entry
  its_end = entry actor End call inst

  lasts_at : (kind : Kind) (by on about : ℕ) (before : List Lasting) → Among (actor, call) before → (entry by kind about on ≡ its_end → ⊥)
      → Among (actor, call) (lasting_after inst kind by about on before)
  lasts_at Begin by on about before k goes_on =
      cond_both (on == inst) ((by, about) ∷ before) before (Among (actor, call)) (λ e. among_tail (actor, call) (by, about) before k) (λ e. k)
  lasts_at End by on about before k goes_on =
      cond_both (on == inst) (filter (is_other by about) before) before (Among (actor, call))
      (λ here. among_kept (actor, call) (is_other by about) before k (other here (cases_Bool ((actor == by) && (call == about)))))
      (λ e. k)
    where
      other : (on == inst) ≡ true → ((((actor == by) && (call == about)) ≡ true) ⊎ (((actor == by) && (call == about)) ≡ false)) → is_other by about (actor, call) ≡ true
      other here (inl same) =
          let both = and_parts (actor == by) (call == about) same in
          let a = sym (eqb-true actor by both.0) in
          let c = sym (eqb-true call about both.1) in
          let i = eqb-true on inst here in
          absurd (goes_on (λ k. entry (a k) End (c k) (i k)))
      other here (inr unlike) = not_from_false ((actor == by) && (call == about)) unlike
  lasts_at kind by on about before k goes_on = k

  lasts_through : (h : History) (later : List Entry) → Among (actor, call) (lasting inst h) → (Contains later its_end → ⊥)
      → Among (actor, call) (lasting inst (after s h later))
  lasts_through h [] k goes_on = k
  lasts_through h (x ∷ later) k goes_on =
      lasts_through (done_in s h x) later
      (lasts_at x.kind x.actor x.b x.a (lasting inst h) k (λ same. goes_on (at_head its_end x later same)))
      (λ c. goes_on (in_tail its_end x later c))

-- the histories of two lists after one another
pub after_append : (s : Shape) (h : History) (first second : List Entry) → after s h (first ++ second) ≡ after s (after s h first) second
after_append s h [] second = refl
after_append s h (x ∷ first) second = after_append s (done_in s h x) first second

-- a call that lasts in a list is among those that last in its history
lasts_in : (s : Shape) (actor : Actor) (call : Call) (inst : ℕ) (before : List Entry) → Lasts actor call inst before
    → Among (actor_number actor, call_number call) (lasting inst (history_of s before))
lasts_in s actor call inst before l =
    let begun : Entry = begin_of actor call inst in
    let h : History = history_of s l.earlier in
    let split : history_of s before ≡ after s (done_in s h begun) l.later = ap (history_of s) l.began ∙ after_append s [] l.earlier (begun ∷ l.later) in
    let it : Lasting = (actor_number actor, call_number call) in
    let here : Among it (lasting inst (done_in s h begun)) =
    cond_both (inst == inst) (it ∷ lasting inst h) (lasting inst h) (Among it) (λ e. among_head it (lasting inst h))
    (λ e. absurd (both_ways (inst == inst) e (eq-eqb inst inst refl))) in
    subst (λ x. Among it (lasting inst x)) (sym split) (lasts_through s inst (actor_number actor) (call_number call) (done_in s h begun) l.later here l.goes_on)

overlap_same : (call other : Call) → may_overlap_at (call_number call) (call_number other) ≡ may_overlap call other
overlap_same call other =
    ap (λ o. option_map_or (λ it. option_map_or (may_overlap it) (call_at (call_number other)) true) o true) (call_back call)
    ∙ ap (λ o. option_map_or (may_overlap call) o true) (call_back other)

pub rules_keep_classes : RulesKeepClasses
rules_keep_classes s steps keeps_rules = record {
  apart = λ before later actor other call lasting_call inst split lasts.
      let h : History = history_of s before in
      let kept : keeps_class h Begin (call_number call) inst ≡ true =
      keeps_class_rule s h (begin_of actor call inst) later (keeps_rules before later (begin_of actor call inst) split) in
      let may : Lasting → Bool = λ (it : Lasting). may_overlap_at (call_number call) it.1 in
      let all = (and_parts (list_all may (lasting inst h)) (not (call_number call == call_number Run) || is_active inst h) kept).0 in
      sym (overlap_same call lasting_call) ∙ lasts_in s other lasting_call inst before lasts may all;
  active = λ before later actor inst split.
      let h : History = history_of s before in
      let kept : keeps_class h Begin (call_number Run) inst ≡ true =
      keeps_class_rule s h (begin_of actor Run inst) later (keeps_rules before later (begin_of actor Run inst) split) in
      let may : Lasting → Bool = λ (it : Lasting). may_overlap_at (call_number Run) it.1 in
      let is : is_active inst h ≡ true = (and_parts (list_all may (lasting inst h)) (is_active inst h) kept).1 in
      let both = and_parts (has (end_of Control Activate inst) h) (not (has (begin_of Control Deactivate inst) h)) is in (
        ⊎_elim (λ none. absurd (true≢false (sym none))) (λ c. c) (has_means s (end_of Control Activate inst) [] before both.0),
        λ c. both_ways (has (begin_of Control Deactivate inst) h) (not-true (has (begin_of Control Deactivate inst) h) both.1)
            (has_all s (begin_of Control Deactivate inst) [] before c.0 c.1 c.2),
      );
}
