-- The counts of rings as a history goes on.
use Rattle.std.proofs.Common.{◌≡◌, ℕ, ◌+◌, ◌<◌, ◌≤◌, ◌^◌, ◌==◌, Bool, true, false, ◌&&◌, cond, List, [], ◌∷◌, length, set, refl, sym, ap, subst, ◌∙◌, arith, eq-eqb, ne_eqb, add-one}
use Rattle.std.proofs.lemmas.Bool.{and_right, and_left}
use Rattle.std.proofs.lemmas.List.{length-set}
use Rattle.step_law.specs.declared.actor.Actor.{Actor}
use Rattle.step_law.specs.declared.entry.Entry.{Entry}
use Rattle.step_law.specs.declared.entry.Kind.{Kind}
use Rattle.step_law.specs.declared.entry.Kind.TheVariants.{Take, Send}
use Rattle.step_law.specs.Ring.{ring_number, ring_at}
use Rattle.step_law.proofs.EventLaws.{ring_same}
use Rattle.record_law.specs.declared.shape.Shape.{Shape}
use Rattle.record_law.specs.Entries.{kind_number, is_by, is_kind, is_on}
use Rattle.record_law.specs.Message.{Step, History}
use Rattle.record_law.specs.History.{one_more, count, own}
use Rattle.record_law.specs.Shape.{sender}
use Rattle.record_counts.specs.declared.rings.RingCount.{RingCount}
use Rattle.record_counts.specs.Rings.{count_at, one_sent, one_taken, IsFew, CountsRings}
use Rattle.record_counts.proofs.Tables.{table_set}

-- ---- counts are few

one_more_most : (b : Bool) (n : ℕ) → one_more b n ≤ n + 1
one_more_most true n = omega arith
one_more_most false n = omega arith

count_most : (kind : Kind) (n : ℕ) (h : History) → count kind (ring_at n) h ≤ length h
count_most kind n [] = omega arith
count_most kind n (x ∷ h) = omega (arith, one_more_most (is_on kind (ring_at n) x.entry) (count kind (ring_at n) h), count_most kind n h)

own_most : (actor : Actor) (h : History) → length (own actor h) ≤ length h
own_most actor [] = omega arith
own_most actor (x ∷ h) = by (is_by actor x.entry) (own_most actor h)
  where
    by : (b : Bool) → length (own actor h) ≤ length h → length (cond b (x ∷ own actor h) (own actor h)) ≤ length (x ∷ h)
    by true less = omega (arith, less)
    by false less = omega (arith, less)

few : (s : Shape) (h : History) (n : ℕ) → length h < 2 ^ 63 → IsFew (count_at s h n)
few s h n less = record {
  sent = omega (arith, count_most Send n h, less);
  by_sender = omega (arith, count_most Send n (own (sender s (ring_at n)) h), own_most (sender s (ring_at n)) h, less);
  taken = omega (arith, count_most Take n h, less);
}

-- ---- an entry and a ring

on_here : (kind : Kind) (e : Entry) → is_on kind (ring_at e.a) e ≡ is_kind kind e
on_here kind e = ap (λ (n : ℕ). is_kind kind e && (e.a == n)) (ring_same e.a) ∙ by (is_kind kind e) (e.a == e.a) (eq-eqb e.a e.a refl)
  where
    by : (b c : Bool) → c ≡ true → (b && c) ≡ b
    by true c is = is
    by false c is = refl

on_other : (kind : Kind) (n : ℕ) (e : Entry) → (n ≡ e.a → ⊥) → is_on kind (ring_at n) e ≡ false
on_other kind n e other =
    ap (λ (k : ℕ). is_kind kind e && (e.a == k)) (ring_same n) ∙ and_right (is_kind kind e) (e.a == n) (ne_eqb e.a n (λ same. other (sym same)))

on_none : (kind : Kind) (n : ℕ) (e : Entry) → is_kind kind e ≡ false → is_on kind (ring_at n) e ≡ false
on_none kind n e none = and_left (is_kind kind e) (e.a == ring_number (ring_at n)) none

-- a count of an actor's own steps
own_count : (kind : Kind) (n : ℕ) (actor : Actor) (x : Step) (h : History) (on : Bool) → is_on kind (ring_at n) x.entry ≡ on
    → count kind (ring_at n) (own actor (x ∷ h)) ≡ one_more (on && is_by actor x.entry) (count kind (ring_at n) (own actor h))
own_count kind n actor x h on is = by (is_by actor x.entry) on is
  where
    by : (mine on : Bool) → is_on kind (ring_at n) x.entry ≡ on
        → count kind (ring_at n) (cond mine (x ∷ own actor h) (own actor h)) ≡ one_more (on && mine) (count kind (ring_at n) (own actor h))
    by true true is = ap (λ (b : Bool). one_more b (count kind (ring_at n) (own actor h))) is
    by true false is = ap (λ (b : Bool). one_more b (count kind (ring_at n) (own actor h))) is
    by false true is = refl
    by false false is = refl

abbrev counts : ℕ → ℕ → ℕ → RingCount
counts sent by_sender taken = record { sent = sent; by_sender = by_sender; taken = taken }

-- what an entry makes of the counts of a ring
at_entry : (s : Shape) (h : History) (x : Step) (n : ℕ) (send take : Bool) → is_on Send (ring_at n) x.entry ≡ send → is_on Take (ring_at n) x.entry ≡ take
    → count_at s (x ∷ h) n
    ≡ counts (one_more send (count_at s h n).sent) (one_more (send && is_by (sender s (ring_at n)) x.entry) (count_at s h n).by_sender) (one_more take (count_at s h n).taken)
at_entry s h x n send take sends takes =
    let sent = ap (λ (b : Bool). one_more b (count Send (ring_at n) h)) sends in
    let mine = own_count Send n (sender s (ring_at n)) x h send sends in
    let taken = ap (λ (b : Bool). one_more b (count Take (ring_at n) h)) takes in
    λ i. counts (sent i) (mine i) (taken i)

at_other : (s : Shape) (h : History) (x : Step) (n : ℕ) → is_on Send (ring_at n) x.entry ≡ false → is_on Take (ring_at n) x.entry ≡ false
    → count_at s h n ≡ count_at s (x ∷ h) n
at_other s h x n sends takes = sym (at_entry s h x n false false sends takes)

elsewhere : (s : Shape) (h : History) (x : Step) (n : ℕ) → (n ≡ x.entry.a → ⊥) → count_at s h n ≡ count_at s (x ∷ h) n
elsewhere s h x n other = at_other s h x n (on_other Send n x.entry other) (on_other Take n x.entry other)

-- ---- the table goes on

module _ (s : Shape) (h : History) (x : Step) (counted : List RingCount) (told : CountsRings s h counted) where
  goes_on : (now : RingCount) → (x.entry.a < length counted → now ≡ count_at s (x ∷ h) x.entry.a) → CountsRings s (x ∷ h) (set counted x.entry.a now)
  goes_on now here = record {
    each = table_set (count_at s h) (count_at s (x ∷ h)) counted x.entry.a now told.each here (λ n other. elsewhere s h x n other);
    all = length-set counted x.entry.a now ∙ told.all;
  }

  pub after_send : (before now : RingCount) → x.entry.kind ≡ Send → length h < 2 ^ 63 → (x.entry.a < length counted → before ≡ count_at s h x.entry.a)
      → (IsFew before → now ≡ one_sent (is_by (sender s (ring_at x.entry.a)) x.entry) before) → CountsRings s (x ∷ h) (set counted x.entry.a now)
  after_send before now is less here then_now =
      let sends : is_kind Send x.entry ≡ true = ap (λ (k : Kind). kind_number k == kind_number Send) is in
      let no_take : is_kind Take x.entry ≡ false = ap (λ (k : Kind). kind_number k == kind_number Take) is in
      let by : Bool = is_by (sender s (ring_at x.entry.a)) x.entry in
      let same : one_sent by (count_at s h x.entry.a) ≡ count_at s (x ∷ h) x.entry.a =
      ap (λ (n : ℕ). counts n (one_more by (count_at s h x.entry.a).by_sender) (count_at s h x.entry.a).taken) (add-one (count_at s h x.entry.a).sent)
      ∙ sym (at_entry s h x x.entry.a true false (on_here Send x.entry ∙ sends) (on_here Take x.entry ∙ no_take)) in
      goes_on now (λ within.
      then_now (subst IsFew (sym (here within)) (few s h x.entry.a less)) ∙ ap (one_sent by) (here within) ∙ same)

  pub after_take : (before now : RingCount) → x.entry.kind ≡ Take → length h < 2 ^ 63 → (x.entry.a < length counted → before ≡ count_at s h x.entry.a)
      → (IsFew before → now ≡ one_taken before) → CountsRings s (x ∷ h) (set counted x.entry.a now)
  after_take before now is less here then_now =
      let no_send : is_kind Send x.entry ≡ false = ap (λ (k : Kind). kind_number k == kind_number Send) is in
      let takes : is_kind Take x.entry ≡ true = ap (λ (k : Kind). kind_number k == kind_number Take) is in
      let same : one_taken (count_at s h x.entry.a) ≡ count_at s (x ∷ h) x.entry.a =
      ap (λ (n : ℕ). counts (count_at s h x.entry.a).sent (count_at s h x.entry.a).by_sender n) (add-one (count_at s h x.entry.a).taken)
      ∙ sym (at_entry s h x x.entry.a false true (on_here Send x.entry ∙ no_send) (on_here Take x.entry ∙ takes)) in
      goes_on now (λ within.
      then_now (subst IsFew (sym (here within)) (few s h x.entry.a less)) ∙ ap one_taken (here within) ∙ same)
