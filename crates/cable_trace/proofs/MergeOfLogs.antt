-- The merge of logs that agree with their actors' traces agrees with those of a ring's two actors.
use Rattle.std.proofs.Common.{◌≡◌, ◌≢◌, ℕ, ◌+◌, Bool, true, false, ◌==◌, List, [], map, length, get_or, refl, sym, ap, subst, ◌∙◌, eqb-true, eq-eqb, arith}
use Rattle.std.specs.List.{All, Contains}
use Rattle.std.proofs.lemmas.Bool.{eqb-false}
use Rattle.step_law.specs.declared.entry.Entry.{Entry}
use Rattle.step_law.specs.declared.entry.Kind.{Kind}
use Rattle.cable_trace.specs.declared.trace.Trace.{Trace}
use Rattle.cable_trace.specs.Trace.{drawn, refused, looks, taken}
use Rattle.cable_trace.specs.Order.{below}
use Rattle.cable_trace.specs.Ring.{tickets}
use Rattle.cable_trace.specs.Merged.{is_send, is_take, is_full, is_look, is_on, tickets_in, IsMerged}
use Rattle.cable_trace.specs.Logs.{is_by, IsLogOf, IsRingOf, IsMergeOf}
use Rattle.cable_trace.proofs.Filtered.{of_kept, none_kept, kept_within}

-- nothing is in an empty list
none_in : {X : Type 0} (xs : List X) (x : X) → xs ≡ [] → Contains xs x → ⊥
none_in xs x e c = let empty : length xs ≡ 0 = ap length e in absurd (omega (arith, c.1, empty))

module _ (logs : ℕ → List (ℕ × Entry)) (marks : List (ℕ × Entry)) (m : IsMergeOf logs marks) where
  -- what each log says of its entries
  all_marks : (Q : ℕ → ℕ × Entry → Type 0) → ((actor : ℕ) → All (Q actor) (logs actor)) → All (λ mark. Q mark.1.actor mark) marks
  all_marks Q h k d lt =
      let mark : ℕ × Entry = get_or marks k d in
      let actor : ℕ = mark.1.actor in
      of_kept (Q actor) (is_by actor) marks (subst (All (Q actor)) (sym (m.own actor)) (h actor)) k d lt (eq-eqb actor actor refl)

  -- a kind of entries that one actor alone makes are those of its log
  one_log : (is_kind : Kind → Bool) (ring one : ℕ) → ((actor : ℕ) → actor ≢ one → tickets_in is_kind ring (logs actor) ≡ [])
      → tickets_in is_kind ring marks ≡ tickets_in is_kind ring (logs one)
  one_log is_kind ring one none =
      ap (map (λ x. x.0)) (sym (kept_within (is_on is_kind ring) (is_by one) marks (all_marks (λ actor x. is_on is_kind ring x ≡ true → (actor == one) ≡ true) each)))
      ∙ ap (λ l. tickets_in is_kind ring l) (m.own one)
    where
      by : (actor : ℕ) (b : Bool) → (actor == one) ≡ b → All (λ x. is_on is_kind ring x ≡ true → (actor == one) ≡ true) (logs actor)
      by actor true e = λ k d lt is. e
      by actor false e =
          let no : All (λ x. is_on is_kind ring x ≡ true → ⊥) (logs actor) =
          none_kept (λ (x : ℕ × Entry). x.0) (is_on is_kind ring) (logs actor) (none actor (eqb-false actor one e)) in
          λ k d lt is. absurd (no k d lt is)

      each : (actor : ℕ) → All (λ x. is_on is_kind ring x ≡ true → (actor == one) ≡ true) (logs actor)
      each actor = by actor (actor == one) refl

  module _ {M : Type 0} (ring source target : ℕ) (traces : ℕ → Trace M) (r : IsRingOf ring source target traces) (h : (actor : ℕ) → IsLogOf ring (traces actor) (logs actor)) where
    drew_as : (one : ℕ) → All (λ mark. mark.1.actor ≡ one → Contains (drawn (traces one)) mark.0) marks
    drew_as one = all_marks (λ actor mark. actor ≡ one → Contains (drawn (traces one)) mark.0) (λ actor k d lt e. subst (λ a. Contains (drawn (traces a)) (get_or (logs actor) k d).0) e ((h actor).drew k d lt))

    full_as : (actor : ℕ) (b : Bool) → (actor == source) ≡ b → All (λ mark. is_on is_full ring mark ≡ true → (seen : ℕ) × Contains (refused ring (traces source)) (mark.0, seen)) (logs actor)
    full_as actor true e = subst (λ a. All (λ mark. is_on is_full ring mark ≡ true → (seen : ℕ) × Contains (refused ring (traces a)) (mark.0, seen)) (logs actor)) (eqb-true actor source e) (h actor).fulls
    full_as actor false e = λ k d lt is.
        let found = (h actor).fulls k d lt is in
        let pair : ℕ × ℕ = ((get_or (logs actor) k d).0, found.0) in
        absurd (none_in (refused ring (traces actor)) pair (r.refused_by_one actor (eqb-false actor source e)) found.1)

    -- a kind of entries that one actor alone makes are that actor's
    made_by : (is_kind : Kind → Bool) (one : ℕ) → ((actor : ℕ) → actor ≢ one → tickets_in is_kind ring (logs actor) ≡ []) → All (λ mark. is_on is_kind ring mark ≡ true → mark.1.actor ≡ one) marks
    made_by is_kind one none = all_marks (λ actor mark. is_on is_kind ring mark ≡ true → actor ≡ one) (λ actor. by actor (actor == one) refl)
      where
        by : (actor : ℕ) (b : Bool) → (actor == one) ≡ b → All (λ mark. is_on is_kind ring mark ≡ true → actor ≡ one) (logs actor)
        by actor true e = λ k d lt is. eqb-true actor one e
        by actor false e =
            let other : All (λ x. is_on is_kind ring x ≡ true → ⊥) (logs actor) =
            none_kept (λ (x : ℕ × Entry). x.0) (is_on is_kind ring) (logs actor) (none actor (eqb-false actor one e)) in
            λ k d lt is. absurd (other k d lt is)

    looks_by : (actor : ℕ) (b : Bool) → (actor == target) ≡ b → All (λ mark. is_on is_look ring mark ≡ true → actor ≡ target) (logs actor)
    looks_by actor true e = λ k d lt is. eqb-true actor target e
    looks_by actor false e = λ k d lt is.
        let mark : ℕ × Entry = get_or (logs actor) k d in
        let pair : ℕ × ℕ = (mark.0, mark.1.b + below mark.0 (tickets (taken ring (traces actor)))) in
        absurd (none_in (looks ring (traces actor)) pair (r.seen_by_one actor (eqb-false actor target e)) ((h actor).seen k d lt is))

    look_as : (actor : ℕ) (b : Bool) → (actor == target) ≡ b
        → All (λ mark. is_on is_look ring mark ≡ true → Contains (looks ring (traces target)) (mark.0, mark.1.b + below mark.0 (tickets (taken ring (traces target))))) (logs actor)
    look_as actor true e =
        subst (λ a. All (λ mark. is_on is_look ring mark ≡ true → Contains (looks ring (traces a)) (mark.0, mark.1.b + below mark.0 (tickets (taken ring (traces a))))) (logs actor))
        (eqb-true actor target e) (h actor).seen
    look_as actor false e = λ k d lt is.
        let mark : ℕ × Entry = get_or (logs actor) k d in
        let pair : ℕ × ℕ = (mark.0, mark.1.b + below mark.0 (tickets (taken ring (traces actor)))) in
        absurd (none_in (looks ring (traces actor)) pair (r.seen_by_one actor (eqb-false actor target e)) ((h actor).seen k d lt is))

    pub merge_of_logs : IsMerged ring source target (traces source) (traces target) marks
    merge_of_logs = record {
      rises = m.rises;
      sends = one_log is_send ring source (λ actor other. (h actor).sends ∙ ap tickets (r.sent_by_one actor other)) ∙ (h source).sends;
      takes = one_log is_take ring target (λ actor other. (h actor).takes ∙ ap tickets (r.taken_by_one actor other)) ∙ (h target).takes;
      fulls = all_marks (λ actor mark. is_on is_full ring mark ≡ true → (seen : ℕ) × Contains (refused ring (traces source)) (mark.0, seen)) (λ actor. full_as actor (actor == source) refl);
      seen = all_marks (λ actor mark. is_on is_look ring mark ≡ true → Contains (looks ring (traces target)) (mark.0, mark.1.b + below mark.0 (tickets (taken ring (traces target)))))
          (λ actor. look_as actor (actor == target) refl);
      ends = record {
        sends = made_by is_send source (λ actor other. (h actor).sends ∙ ap tickets (r.sent_by_one actor other));
        looks = all_marks (λ actor mark. is_on is_look ring mark ≡ true → actor ≡ target) (λ actor. looks_by actor (actor == target) refl);
        takes = made_by is_take target (λ actor other. (h actor).takes ∙ ap tickets (r.taken_by_one actor other));
      };
      by_sender = drew_as source;
      by_taker = drew_as target;
    }
