-- The list by ticket keeps the rule on looks.
use Rattle.std.proofs.Common.{◌≡◌, ◌⊎◌, ℕ, suc, ◌≤◌, ◌==◌, nat_eq, nat_le, Bool, true, false, ◌&&◌, ◌||◌, cond, List, [], ◌∷◌, ◌++◌, drop, length, filter, All, Contains, refl, sym, ap, subst, ◌∙◌, inl, inr, arith, true≢false, le-leb, eq-eqb, eqb-true}
use Rattle.std.specs.List.{list_any, list_all}
use Rattle.std.proofs.lemmas.Bool.{and_parts, and_from, or_left, or_right, cases_Bool, false_from_ne_true, both_ways}
use Rattle.std.proofs.lemmas.List.Elements.{All-nil, All-cons, All-head, All-tail, All-contains}
use Rattle.std.proofs.lemmas.List.Sums.{length-filter}
use Rattle.step_law.specs.declared.actor.Actor.{Actor}
use Rattle.step_law.specs.declared.actor.Actor.TheVariants.{Audio}
use Rattle.step_law.specs.declared.entry.Entry.{Entry}
use Rattle.step_law.specs.declared.entry.Kind.{Kind}
use Rattle.step_law.specs.declared.entry.Kind.TheVariants.{Look, Take, Send, Beat}
use Rattle.step_law.specs.declared.ring.Ring.{Ring}
use Rattle.step_law.specs.Actor.{actor_number, actor_at}
use Rattle.step_law.specs.Ring.{ring_number, ring_at}
use Rattle.step_law.proofs.EventLaws.{ring_same, actor_same}
use Rattle.cable_trace.specs.Merged.{is_send, is_take, is_look, is_on as is_marked, sends_in, takes_in}
use Rattle.cable_trace.specs.MergedBeat.{is_beat, worths_in}
use Rattle.record_law.specs.declared.shape.Shape.{Shape}
use Rattle.record_law.specs.Entries.{is_by, is_on}
use Rattle.record_law.specs.Message.{History}
use Rattle.record_law.specs.History.{one_more, count, own, settled, progress_in}
use Rattle.record_law.specs.Shape.{sender}
use Rattle.record_law.specs.Looks.{shown_by, shows_enough, shows_no_more, last_shows_no_more}
use Rattle.record_law.specs.Protocol.{done_in, after, history_of}
use Rattle.lawful.specs.Merged.{entries_in, KeepRules, LooksKeepRules}
use Rattle.lawful.proofs.Counts.{send_same, sends_before, takes_before}
use Rattle.lawful.proofs.Progress.{newest, all_first, known, IsKnown, worths_known, AreWithin, within_after}

-- ---- the last entry of an actor

-- none of these is the actor's
abbrev NoneBy : Actor → List (ℕ × Entry) → Type 0
NoneBy actor marks = All (λ mark. is_by actor mark.1 ≡ false) marks

-- the last mark of an actor, with its own steps before that
record LastOwn (s : Shape) (actor : Actor) (h : History) (marks : List (ℕ × Entry)) : Type 0 where
  first : List (ℕ × Entry)
  second : List (ℕ × Entry)
  mark : ℕ × Entry
  split : marks ≡ first ++ mark ∷ second
  by_actor : mark.1.actor ≡ actor_number actor
  no_later : NoneBy actor second
  steps : own actor (after s h (entries_in marks)) ≡ newest s (after s h (entries_in first)) mark.1 ∷ own actor (after s h (entries_in first))

-- or it has none
abbrev NoneOwn : Shape → Actor → History → List (ℕ × Entry) → Type 0
NoneOwn s actor h marks = NoneBy actor marks × (own actor (after s h (entries_in marks)) ≡ own actor h)

last_own : (s : Shape) (actor : Actor) (h : History) (marks : List (ℕ × Entry)) → NoneOwn s actor h marks ⊎ LastOwn s actor h marks
last_own s actor h [] = inl (All-nil (λ (mark : ℕ × Entry). is_by actor mark.1 ≡ false), refl)
last_own s actor h (m ∷ ms) = joined (cases_Bool (is_by actor m.1)) (last_own s actor (done_in s h m.1) ms)
  where
    joined : ((is_by actor m.1 ≡ true) ⊎ (is_by actor m.1 ≡ false)) → NoneOwn s actor (done_in s h m.1) ms ⊎ LastOwn s actor (done_in s h m.1) ms
        → NoneOwn s actor h (m ∷ ms) ⊎ LastOwn s actor h (m ∷ ms)
    joined is (inr l) = inr (record {
      first = m ∷ l.first;
      second = l.second;
      mark = l.mark;
      split = ap (λ it. m ∷ it) l.split;
      by_actor = l.by_actor;
      no_later = l.no_later;
      steps = l.steps;
    })
    joined (inl is) (inl none) = inr (record {
      first = [];
      second = ms;
      mark = m;
      split = refl;
      by_actor = eqb-true m.1.actor (actor_number actor) is;
      no_later = none.0;
      steps = none.1 ∙ ap (λ b. cond b (newest s h m.1 ∷ own actor h) (own actor h)) is;
    })
    joined (inr other) (inl none) = inl (
      All-cons (λ (mark : ℕ × Entry). is_by actor mark.1 ≡ false) m ms other none.0,
      none.1 ∙ ap (λ b. cond b (newest s h m.1 ∷ own actor h) (own actor h)) other,
    )

all_later : {X : Type 0} (P : X → Type 0) (xs ys : List X) → All P (xs ++ ys) → All P ys
all_later P [] ys all = all
all_later P (x ∷ xs) ys all = all_later P xs ys (All-tail P x (xs ++ ys) all)

-- what holds of all marks holds of one of them
at_mark : (P : ℕ × Entry → Type 0) (before later : List (ℕ × Entry)) (mark : ℕ × Entry) → All P (before ++ mark ∷ later) → P mark
at_mark P before later mark all = All-head P mark later (all_later P before (mark ∷ later) all)

-- ---- the least that a look shows

-- where one actor alone sends on a ring, all sends are among its own steps
module _ (s : Shape) (actor : Actor) (ring : Ring) where
  abbrev ByActor : ℕ × Entry → Type 0
  ByActor mark = is_on Send ring mark.1 ≡ true → mark.1.actor ≡ actor_number actor

  own_more : (h : History) (e : Entry) → (is_on Send ring e ≡ true → e.actor ≡ actor_number actor) → count Send ring (own actor h) ≡ count Send ring h
      → count Send ring (own actor (done_in s h e)) ≡ count Send ring (done_in s h e)
  own_more h e by same = at (is_by actor e) refl
    where
      at : (b : Bool) → is_by actor e ≡ b → count Send ring (cond b (newest s h e ∷ own actor h) (own actor h)) ≡ count Send ring (done_in s h e)
      at true is = ap (one_more (is_on Send ring e)) same
      at false other =
          let none : is_on Send ring e ≡ false = false_from_ne_true (is_on Send ring e) (λ send. both_ways (is_by actor e) other (eq-eqb e.actor (actor_number actor) (by send))) in
          same ∙ sym (ap (λ b. one_more b (count Send ring h)) none)

  own_sends : (h : History) (marks : List (ℕ × Entry)) → count Send ring (own actor h) ≡ count Send ring h → All ByActor marks
      → count Send ring (own actor (after s h (entries_in marks))) ≡ count Send ring (after s h (entries_in marks))
  own_sends h [] same all = same
  own_sends h (m ∷ ms) same all = own_sends (done_in s h m.1) ms (own_more h m.1 (All-head ByActor m ms all) same) (All-tail ByActor m ms all)

-- the same of a test and of a ring's number
all_by : (a actor : ℕ) (ring : Ring) (marks : List (ℕ × Entry)) → ring_number ring ≡ a
    → All (λ mark. is_marked is_send a mark ≡ true → mark.1.actor ≡ actor) marks → All (λ mark. is_on Send ring mark.1 ≡ true → mark.1.actor ≡ actor) marks
all_by a actor ring [] number all = All-nil (λ mark. is_on Send ring mark.1 ≡ true → mark.1.actor ≡ actor)
all_by a actor ring (m ∷ ms) number all =
    All-cons (λ mark. is_on Send ring mark.1 ≡ true → mark.1.actor ≡ actor) m ms
    (λ send. All-head (λ mark. is_marked is_send a mark ≡ true → mark.1.actor ≡ actor) m ms all
    (sym (λ i. send_same m.1.kind i && (m.1.a == number i)) ∙ send))
    (all_by a actor ring ms number (All-tail (λ mark. is_marked is_send a mark ≡ true → mark.1.actor ≡ actor) m ms all))

is_enough : (s : Shape) (h : History) (kind : Kind) (a b : ℕ)
    → (is_look kind ≡ true → count Send (ring_at a) (settled (sender s (ring_at a)) h) ≤ shown_by (ring_at a) h b)
    → (is_beat kind ≡ true → list_all (λ progress. nat_le progress a) (progress_in s (settled Audio h)) ≡ true) → shows_enough s h kind a b ≡ true
is_enough s h Look a b look beat = le-leb (count Send (ring_at a) (settled (sender s (ring_at a)) h)) (shown_by (ring_at a) h b) (look refl)
is_enough s h Beat a b look beat = beat refl
is_enough s h kind a b look beat = refl

module _ (s : Shape) (source target : ℕ → ℕ) (marks before later : List (ℕ × Entry)) (mark : ℕ × Entry) (run : KeepRules s source target marks) (split : marks ≡ before ++ mark ∷ later) where
  abbrev past : History
  past = history_of s (entries_in before)

  whole : (actor : Actor) (l : LastOwn s actor [] before) → marks ≡ (l.first ++ l.mark ∷ l.second) ++ mark ∷ later
  whole actor l = split ∙ ap (λ it. it ++ mark ∷ later) l.split

  -- the sends that the sender has gone on from, where it has done something
  look_enough : is_look mark.1.kind ≡ true → NoneOwn s (sender s (ring_at mark.1.a)) [] before ⊎ LastOwn s (sender s (ring_at mark.1.a)) [] before
      → count Send (ring_at mark.1.a) (settled (sender s (ring_at mark.1.a)) past) ≤ shown_by (ring_at mark.1.a) past mark.1.b
  look_enough is (inl none) =
      let nothing_sent : count Send (ring_at mark.1.a) (settled (sender s (ring_at mark.1.a)) past) ≡ 0 = ap (λ (l : History). count Send (ring_at mark.1.a) (drop 1 l)) none.1 in
      omega (arith, nothing_sent)
  look_enough is (inr l) =
      let a : ℕ = mark.1.a in
      let ring : Ring = ring_at mark.1.a in
      let actor : Actor = sender s (ring_at mark.1.a) in
      let on : is_marked is_look mark.1.a mark ≡ true = and_from (is_look mark.1.kind) (mark.1.a == mark.1.a) is (eq-eqb mark.1.a mark.1.a refl) in
      let least = (run.rings mark.1.a).at_least l.first l.second later l.mark mark (whole actor l) (l.by_actor ∙ sym (run.senders mark.1.a)) on in
      let here : All (λ mark. is_on Send ring mark.1 ≡ true → mark.1.actor ≡ source a) l.first =
      all_by a (source a) ring l.first (ring_same a)
      (all_first (λ (mark : ℕ × Entry). is_marked is_send a mark ≡ true → mark.1.actor ≡ source a) l.first (l.mark ∷ l.second)
      (all_first (λ (mark : ℕ × Entry). is_marked is_send a mark ≡ true → mark.1.actor ≡ source a) (l.first ++ l.mark ∷ l.second) (mark ∷ later)
      (subst (λ (it : List (ℕ × Entry)). All (λ mark. is_marked is_send a mark ≡ true → mark.1.actor ≡ source a) it) (whole actor l) (run.rings a).ends.sends))) in
      let mine : All (ByActor s actor ring) l.first = subst (λ (n : ℕ). All (λ mark. is_on Send ring mark.1 ≡ true → mark.1.actor ≡ n) l.first) (run.senders a) here in
      let sent = own_sends s actor ring [] l.first refl mine in
      let settled_is = ap (λ (h : History). count Send ring (drop 1 h)) l.steps in
      let sends = sends_before s a l.first in
      let takes = takes_before s a before in
      let taken : takes_in a before ≡ takes_in a (l.first ++ l.mark ∷ l.second) = ap (takes_in a) l.split in
      omega (arith, least, sent, settled_is, sends, takes, taken)

  -- the progress that audio has gone on from
  beat_enough : is_beat mark.1.kind ≡ true → NoneOwn s Audio [] before ⊎ LastOwn s Audio [] before
      → list_all (λ progress. nat_le progress mark.1.a) (progress_in s (settled Audio past)) ≡ true
  beat_enough is (inl none) = ap (λ (l : History). list_all (λ progress. nat_le progress mark.1.a) (progress_in s (drop 1 l))) none.1
  beat_enough is (inr l) =
      let least = run.beat.at_least l.first l.second later l.mark mark (whole Audio l) l.by_actor is in
      ap (λ (h : History). list_all (λ progress. nat_le progress mark.1.a) (progress_in s (drop 1 h))) l.steps ∙ within_after s mark.1.a [] l.first refl least

  enough : shows_enough s past mark.1.kind mark.1.a mark.1.b ≡ true
  enough =
      is_enough s past mark.1.kind mark.1.a mark.1.b
      (λ is. look_enough is (last_own s (sender s (ring_at mark.1.a)) [] before))
      (λ is. beat_enough is (last_own s Audio [] before))

-- ---- the most that the last look of an actor showed

is_no_more : (s : Shape) (h : History) (kind : Kind) (a b : ℕ) → (is_look kind ≡ true → shown_by (ring_at a) h b ≤ count Send (ring_at a) h)
    → (is_beat kind ≡ true → (a ≡ 0) ⊎ (IsKnown s a h)) → shows_no_more s h kind a b ≡ true
is_no_more s h Look a b look beat = le-leb (shown_by (ring_at a) h b) (count Send (ring_at a) h) (look refl)
is_no_more s h Beat a b look beat = by (beat refl)
  where
    by : (a ≡ 0) ⊎ (IsKnown s a h) → (nat_eq a 0 || list_any (nat_eq a) (progress_in s (own Audio h))) ≡ true
    by (inl zero) = or_left (nat_eq a 0) (list_any (nat_eq a) (progress_in s (own Audio h))) (eq-eqb a 0 zero)
    by (inr is) = or_right (nat_eq a 0) (list_any (nat_eq a) (progress_in s (own Audio h))) is
is_no_more s h kind a b look beat = refl

-- marks without a take change no count of takes
none_taken : (a : ℕ) (marks : List (ℕ × Entry)) → All (λ mark. is_marked is_take a mark ≡ false) marks → length (filter (is_marked is_take a) marks) ≡ 0
none_taken a [] all = refl
none_taken a (m ∷ ms) all =
    ap (λ b. length (cond b (m ∷ filter (is_marked is_take a) ms) (filter (is_marked is_take a) ms))) (All-head (λ (mark : ℕ × Entry). is_marked is_take a mark ≡ false) m ms all)
    ∙ none_taken a ms (All-tail (λ (mark : ℕ × Entry). is_marked is_take a mark ≡ false) m ms all)

same_takes : (a : ℕ) (first second : List (ℕ × Entry)) → All (λ mark. is_marked is_take a mark ≡ false) second
    → length (filter (is_marked is_take a) (first ++ second)) ≡ length (filter (is_marked is_take a) first)
same_takes a [] second all = none_taken a second all
same_takes a (m ∷ ms) second all = by (is_marked is_take a m) (same_takes a ms second all)
  where
    by : (b : Bool) → length (filter (is_marked is_take a) (ms ++ second)) ≡ length (filter (is_marked is_take a) ms)
        → length (cond b (m ∷ filter (is_marked is_take a) (ms ++ second)) (filter (is_marked is_take a) (ms ++ second)))
        ≡ length (cond b (m ∷ filter (is_marked is_take a) ms) (filter (is_marked is_take a) ms))
    by true same = ap suc same
    by false same = same

look_is_no_take : (kind : Kind) → is_look kind ≡ true → is_take kind ≡ false
look_is_no_take Take is = absurd (true≢false (sym is))
look_is_no_take kind is = refl

module _ (s : Shape) (source target : ℕ → ℕ) (marks before later : List (ℕ × Entry)) (mark : ℕ × Entry) (run : KeepRules s source target marks) (split : marks ≡ before ++ mark ∷ later) (l : LastOwn s (actor_at mark.1.actor) [] before) where
  abbrev gone : History
  gone = history_of s (entries_in before)

  all_marks : marks ≡ (l.first ++ l.mark ∷ l.second) ++ mark ∷ later
  all_marks = split ∙ ap (λ it. it ++ mark ∷ later) l.split

  same_actor : l.mark.1.actor ≡ mark.1.actor
  same_actor = l.by_actor ∙ actor_same mark.1.actor

  -- what holds of all marks holds of those before the entry, and of the last
  among_first : (P : ℕ × Entry → Type 0) → All P marks → All P (l.first ++ l.mark ∷ l.second)
  among_first P all = all_first P (l.first ++ l.mark ∷ l.second) (mark ∷ later) (subst (λ (it : List (ℕ × Entry)). All P it) all_marks all)

  of_last : (P : ℕ × Entry → Type 0) → All P marks → P l.mark
  of_last P all = at_mark P l.first l.second l.mark (among_first P all)

  -- after its last entry an actor takes nothing
  takes_none : (ms : List (ℕ × Entry)) (a : ℕ) → target a ≡ mark.1.actor → NoneBy (actor_at mark.1.actor) ms
      → All (λ m. is_marked is_take a m ≡ true → m.1.actor ≡ target a) ms → All (λ m. is_marked is_take a m ≡ false) ms
  takes_none [] a by none takes = All-nil (λ (m : ℕ × Entry). is_marked is_take a m ≡ false)
  takes_none (m ∷ ms) a by none takes =
      All-cons (λ (m : ℕ × Entry). is_marked is_take a m ≡ false) m ms
      (false_from_ne_true (is_marked is_take a m) (λ is.
      let actor : m.1.actor ≡ actor_number (actor_at mark.1.actor) =
      All-head (λ (m : ℕ × Entry). is_marked is_take a m ≡ true → m.1.actor ≡ target a) m ms takes is ∙ by ∙ sym (actor_same mark.1.actor) in
      both_ways (is_by (actor_at mark.1.actor) m.1) (All-head (λ (m : ℕ × Entry). is_by (actor_at mark.1.actor) m.1 ≡ false) m ms none)
      (eq-eqb m.1.actor (actor_number (actor_at mark.1.actor)) actor)))
      (takes_none ms a by (All-tail (λ (m : ℕ × Entry). is_by (actor_at mark.1.actor) m.1 ≡ false) m ms none)
      (All-tail (λ (m : ℕ × Entry). is_marked is_take a m ≡ true → m.1.actor ≡ target a) m ms takes))

  look_no_more : is_look l.mark.1.kind ≡ true → shown_by (ring_at l.mark.1.a) gone l.mark.1.b ≤ count Send (ring_at l.mark.1.a) gone
  look_no_more is =
      let a : ℕ = l.mark.1.a in
      let on : is_marked is_look l.mark.1.a l.mark ≡ true = and_from (is_look l.mark.1.kind) (l.mark.1.a == l.mark.1.a) is (eq-eqb l.mark.1.a l.mark.1.a refl) in
      let ends = (run.rings l.mark.1.a).ends in
      let by : mark.1.actor ≡ target l.mark.1.a =
      sym same_actor ∙ of_last (λ (m : ℕ × Entry). is_marked is_look l.mark.1.a m ≡ true → m.1.actor ≡ target l.mark.1.a) ends.looks on in
      let most = (run.rings l.mark.1.a).at_most l.first l.second later l.mark mark all_marks on by in
      let no_take : is_marked is_take l.mark.1.a l.mark ≡ false = ap (λ b. b && (l.mark.1.a == l.mark.1.a)) (look_is_no_take l.mark.1.kind is) in
      let quiet : All (λ m. is_marked is_take l.mark.1.a m ≡ false) (l.mark ∷ l.second) =
      All-cons (λ (m : ℕ × Entry). is_marked is_take l.mark.1.a m ≡ false) l.mark l.second no_take
      (takes_none l.second l.mark.1.a (sym by) l.no_later
      (All-tail (λ (m : ℕ × Entry). is_marked is_take l.mark.1.a m ≡ true → m.1.actor ≡ target l.mark.1.a) l.mark l.second
      (all_later (λ (m : ℕ × Entry). is_marked is_take l.mark.1.a m ≡ true → m.1.actor ≡ target l.mark.1.a) l.first (l.mark ∷ l.second)
      (among_first (λ (m : ℕ × Entry). is_marked is_take l.mark.1.a m ≡ true → m.1.actor ≡ target l.mark.1.a) ends.takes)))) in
      let same : takes_in l.mark.1.a (l.first ++ l.mark ∷ l.second) ≡ takes_in l.mark.1.a l.first =
      sym (length-filter (is_marked is_take l.mark.1.a) (l.first ++ l.mark ∷ l.second)) ∙ same_takes l.mark.1.a l.first (l.mark ∷ l.second) quiet
      ∙ length-filter (is_marked is_take l.mark.1.a) l.first in
      let sends = sends_before s l.mark.1.a before in
      let takes = takes_before s l.mark.1.a before in
      let sent : sends_in l.mark.1.a before ≡ sends_in l.mark.1.a (l.first ++ l.mark ∷ l.second) = ap (sends_in l.mark.1.a) l.split in
      let taken : takes_in l.mark.1.a before ≡ takes_in l.mark.1.a (l.first ++ l.mark ∷ l.second) = ap (takes_in l.mark.1.a) l.split in
      omega (arith, most, same, sends, takes, sent, taken)

  beat_no_more : is_beat l.mark.1.kind ≡ true → (l.mark.1.a ≡ 0) ⊎ (IsKnown s l.mark.1.a gone)
  beat_no_more is =
      let by = sym same_actor ∙ of_last (λ (m : ℕ × Entry). is_beat m.1.kind ≡ true → m.1.actor ≡ 1) run.beats is in
      at (run.beat.at_most l.first l.second later l.mark mark all_marks is by)
    where
      at : (l.mark.1.a ≡ 0) ⊎ ((ticket : ℕ) × Contains (worths_in s.blocks 0 (l.first ++ l.mark ∷ l.second)) (ticket, l.mark.1.a))
          → (l.mark.1.a ≡ 0) ⊎ (IsKnown s l.mark.1.a gone)
      at (inl zero) = inl zero
      at (inr some) = inr (
          All-contains (λ (worth : ℕ × ℕ). IsKnown s worth.1 gone) (worths_in s.blocks 0 before) (some.0, l.mark.1.a) (worths_known s [] before)
          (subst (λ (it : List (ℕ × Entry)). Contains (worths_in s.blocks 0 it) (some.0, l.mark.1.a)) (sym l.split) some.1)
          )

  no_more : last_shows_no_more s gone (own (actor_at mark.1.actor) gone) ≡ true
  no_more =
      ap (λ (h : History). last_shows_no_more s gone h) l.steps
      ∙ is_no_more s gone l.mark.1.kind l.mark.1.a l.mark.1.b look_no_more beat_no_more

pub looks_keep_rules : LooksKeepRules
looks_keep_rules s source target marks before later mark run split =
    and_from (shows_enough s (history_of s (entries_in before)) mark.1.kind mark.1.a mark.1.b)
    (last_shows_no_more s (history_of s (entries_in before)) (own (actor_at mark.1.actor) (history_of s (entries_in before))))
    (enough s source target marks before later mark run split)
    (at (last_own s (actor_at mark.1.actor) [] before))
  where
    at : NoneOwn s (actor_at mark.1.actor) [] before ⊎ LastOwn s (actor_at mark.1.actor) [] before
        → last_shows_no_more s (history_of s (entries_in before)) (own (actor_at mark.1.actor) (history_of s (entries_in before))) ≡ true
    at (inl none) = ap (λ (h : History). last_shows_no_more s (history_of s (entries_in before)) h) none.1
    at (inr l) = no_more s source target marks before later mark run split l
