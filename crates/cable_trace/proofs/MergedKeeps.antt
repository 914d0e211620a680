-- The list of all entries by ticket keeps the rules of a ring.
use Rattle.std.proofs.Common.{◌≡◌, ℕ, ◌+◌, ◌<◌, ◌≤◌, Bool, true, List, ◌∷◌, ◌++◌, map, sym, ap, subst, ◌∙◌, append_assoc, arith}
use Rattle.std.specs.List.{All, Contains, filter}
use Rattle.std.proofs.lemmas.List.Elements.{All-contains}
use Rattle.step_law.specs.declared.entry.Entry.{Entry}
use Rattle.cable_trace.specs.declared.trace.Trace.{Trace}
use Rattle.cable_trace.specs.Trace.{drawn, sent, refused, looks, taken}
use Rattle.cable_trace.specs.Order.{below}
use Rattle.cable_trace.specs.Ring.{tickets, RingHolds}
use Rattle.cable_trace.specs.Merged.{is_send, is_take, is_full, is_look, is_on, sends_in, takes_in, IsMerged, KeepsRing}
use Rattle.cable_trace.proofs.Above.{all_sent}
use Rattle.cable_trace.proofs.Counted.{all_middle, kept_middle, firsts_all, before_lower, count_before}
use Rattle.cable_trace.proofs.Tells.{all_firsts}

module _ {M : Type 0} (cells ring source target : ℕ) (sender taker : Trace M) (marks : List (ℕ × Entry)) (h : RingHolds cells ring sender taker) (m : IsMerged ring source target sender taker marks) where
  module _ (before after : List (ℕ × Entry)) (mark : ℕ × Entry) (e : marks ≡ before ++ mark ∷ after) where
    -- counts before a place, by the actors' tickets
    sends_before : below mark.0 (tickets (sent ring sender)) ≡ sends_in ring before
    sends_before = ap (below mark.0) (sym m.sends) ∙ count_before marks before after mark m.rises e (is_on is_send ring)

    takes_before : below mark.0 (tickets (taken ring taker)) ≡ takes_in ring before
    takes_before = ap (below mark.0) (sym m.takes) ∙ count_before marks before after mark m.rises e (is_on is_take ring)

    -- what the list says of an entry in it
    at_mark : (P : ℕ × Entry → Type 0) → All P marks → P mark
    at_mark P k = all_middle P before after mark (subst (All P) e k)

    -- what holds of all tickets of a kind
    at_kind : (P : ℕ → Type 0) (p : ℕ × Entry → Bool) → p mark ≡ true → All P (map (λ x. x.0) (filter p marks)) → P mark.0
    at_kind P p is k = kept_middle (λ x. P x.0) p before after mark is (subst (λ l. All (λ x. P x.0) (filter p l)) e (firsts_all P (filter p marks) k))

    pub take_paired : is_on is_take ring mark ≡ true → takes_in ring before < sends_in ring before
    take_paired is =
        let P : ℕ → Type 0 = λ t. below t (tickets (taken ring taker)) < below t (tickets (sent ring sender)) in
        let here : P mark.0 = at_kind P (is_on is_take ring) is (subst (All P) (sym m.takes) h.order.paired) in
        omega (arith, here, sends_before, takes_before)

    pub send_roomy : is_on is_send ring mark ≡ true → sends_in ring before ≤ takes_in ring before + cells + 1
    send_roomy is =
        let P : ℕ → Type 0 = λ t. below t (tickets (sent ring sender)) ≤ below t (tickets (taken ring taker)) + cells + 1 in
        let each : All P (tickets (sent ring sender)) = all_firsts P (sent ring sender) (all_sent ring 0 P sender h.order.roomy) in
        let here : P mark.0 = at_kind P (is_on is_send ring) is (subst (All P) (sym m.sends) each) in
        omega (arith, here, sends_before, takes_before)

    pub refusal_full : is_on is_full ring mark ≡ true → takes_in ring before + cells ≤ sends_in ring before
    refusal_full is =
        let found = at_mark (λ x. is_on is_full ring x ≡ true → (seen : ℕ) × Contains (refused ring sender) (x.0, seen)) m.fulls is in
        let pair : ℕ × ℕ = (mark.0, found.0) in
        let P : ℕ × ℕ → Type 0 = λ x. (below x.0 (tickets (taken ring taker)) ≤ x.1) × (below x.0 (tickets (sent ring sender)) ≡ x.1 + cells) in
        let here : P pair = All-contains P (refused ring sender) pair h.order.full found.1 in
        omega (arith, here.0, here.1, sends_before, takes_before)

    -- what a look's entry says of the sends before a ticket
    pub look_seen : is_on is_look ring mark ≡ true → Contains (looks ring taker) (mark.0, mark.1.b + below mark.0 (tickets (taken ring taker)))
    look_seen is = at_mark (λ x. is_on is_look ring x ≡ true → Contains (looks ring taker) (x.0, x.1.b + below x.0 (tickets (taken ring taker)))) m.seen is

    pub look_at_least : is_on is_look ring mark ≡ true → (t : ℕ) → Contains (drawn sender) t → t < mark.0
        → below t (tickets (sent ring sender)) ≤ mark.1.b + takes_in ring before
    look_at_least is t drew lower =
        let pair : ℕ × ℕ = (mark.0, mark.1.b + below mark.0 (tickets (taken ring taker))) in
        let all : All (λ x. x < mark.0 → below x (tickets (sent ring sender)) ≤ pair.1) (drawn sender) =
        All-contains (λ look. All (λ x. x < look.0 → below x (tickets (sent ring sender)) ≤ look.1) (drawn sender)) (looks ring taker) pair h.order.at_least (look_seen is) in
        omega (arith, All-contains (λ x. x < mark.0 → below x (tickets (sent ring sender)) ≤ pair.1) (drawn sender) t all drew lower, takes_before)

    pub look_at_most : is_on is_look ring mark ≡ true → (t : ℕ) → Contains (drawn taker) t → mark.0 < t
        → mark.1.b + takes_in ring before ≤ below t (tickets (sent ring sender))
    look_at_most is t drew higher =
        let pair : ℕ × ℕ = (mark.0, mark.1.b + below mark.0 (tickets (taken ring taker))) in
        let all : All (λ x. mark.0 < x → pair.1 ≤ below x (tickets (sent ring sender))) (drawn taker) =
        All-contains (λ look. All (λ x. look.0 < x → look.1 ≤ below x (tickets (sent ring sender))) (drawn taker)) (looks ring taker) pair h.order.at_most (look_seen is) in
        omega (arith, All-contains (λ x. mark.0 < x → pair.1 ≤ below x (tickets (sent ring sender))) (drawn taker) t all drew higher, takes_before)

  pub merged_keeps : KeepsRing cells ring source target marks
  merged_keeps = record {
    ends = m.ends;
    paired = λ before after take e is. take_paired before after take e is;
    roomy = λ before after send e is. send_roomy before after send e is;
    full = λ before after refusal e is. refusal_full before after refusal e is;
    at_least = λ before between after mark look e by is.
        let inner : marks ≡ before ++ mark ∷ (between ++ look ∷ after) = e ∙ append_assoc before (mark ∷ between) (look ∷ after) in
        let drew : Contains (drawn sender) mark.0 = at_mark before (between ++ look ∷ after) mark inner (λ x. x.1.actor ≡ source → Contains (drawn sender) x.0) m.by_sender by in
        let lower : mark.0 < look.0 = all_middle (λ x. x.0 < look.0) before between mark (before_lower marks (before ++ mark ∷ between) after look m.rises e) in
        subst (λ n. n ≤ look.1.b + takes_in ring (before ++ mark ∷ between)) (sends_before before (between ++ look ∷ after) mark inner)
        (look_at_least (before ++ mark ∷ between) after look e is mark.0 drew lower);
    at_most = λ before between after look mark e is by.
        let inner : marks ≡ before ++ look ∷ (between ++ mark ∷ after) = e ∙ append_assoc before (look ∷ between) (mark ∷ after) in
        let drew : Contains (drawn taker) mark.0 = at_mark (before ++ look ∷ between) after mark e (λ x. x.1.actor ≡ target → Contains (drawn taker) x.0) m.by_taker by in
        let lower : look.0 < mark.0 = all_middle (λ x. x.0 < mark.0) before between look (before_lower marks (before ++ look ∷ between) after mark m.rises e) in
        subst (λ n. look.1.b + takes_in ring before ≤ n) (sends_before (before ++ look ∷ between) after mark e)
        (look_at_most before (between ++ mark ∷ after) look inner is mark.0 drew lower);
  }
