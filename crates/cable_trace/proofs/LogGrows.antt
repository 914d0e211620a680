-- A log agrees with its actor's trace after one more entry, too.
use Rattle.std.proofs.Common.{◌≡◌, ℕ, zero, ◌+◌, ◌<◌, ◌≤◌, Bool, true, false, ◌&&◌, ◌==◌, if◌then◌else◌, cond, List, [], ◌∷◌, ◌++◌, map, length, get_or, refl, sym, ap, subst, ◌∙◌, true≢false, arith}
use Rattle.std.specs.List.{All, Contains, filter}
use Rattle.std.proofs.lemmas.List.{length-append, length-map, map-append, get_or_append_left, get_or-append-add}
use Rattle.std.proofs.lemmas.List.Elements.{All-nil, All-push, All-contains, filter-append}
use Rattle.std.proofs.lemmas.Bool.{eqb-true}
use Rattle.step_law.specs.declared.entry.Entry.{Entry}
use Rattle.step_law.specs.declared.entry.Kind.{Kind}
use Rattle.cable_trace.specs.declared.trace.Action.{Action}
use Rattle.cable_trace.specs.declared.trace.Action.TheVariants.{Marked, Sent, Refused, Looked, Taken, Stored, Loaded}
use Rattle.cable_trace.specs.declared.trace.Trace.{Trace}
use Rattle.cable_trace.specs.Trace.{pending_ticket, drawn, sent_by, sent, refused_by, refused, looked_by, looks, taken_by, taken}
use Rattle.cable_trace.specs.Step.{fresh, with_event, IsAbove}
use Rattle.cable_trace.specs.Order.{below}
use Rattle.cable_trace.specs.Ring.{Begins, tickets}
use Rattle.cable_trace.specs.Merged.{is_send, is_take, is_full, is_look, is_on, tickets_in}
use Rattle.cable_trace.specs.Logs.{IsLogOf, Tells}
use Rattle.cable_trace.proofs.Above.{above_takes}
use Rattle.cable_trace.proofs.Below.{below-all, below-append, below-none}
use Rattle.cable_trace.proofs.Tells.{told_more, all_firsts, all_if, drawn_same, drawn_more, drawn-le, drawn-lower}

-- what one of two parts contains both contain
contains_left : {X : Type 0} (xs ys : List X) (x : X) → Contains xs x → Contains (xs ++ ys) x
contains_left xs ys x c = (c.0, omega (arith, c.1, length-append xs ys), get_or_append_left xs ys x c.0 c.1 ∙ c.2)

contains_right : {X : Type 0} (xs ys : List X) (x : X) → Contains ys x → Contains (xs ++ ys) x
contains_right xs ys x c = (length xs + c.0, omega (arith, c.1, length-append xs ys), get_or-append-add xs ys c.0 x ∙ c.2)

contains_one : {X : Type 0} (b : Bool) (x : X) → b ≡ true → Contains (if b then x ∷ [] else []) x
contains_one b x e = subst (λ c. Contains (if c then x ∷ [] else []) x) (sym e) (zero, omega arith, refl)

-- the ticket of one entry, where it passes or not
none_passes : (p : ℕ × Entry → Bool) (mark : ℕ × Entry) → p mark ≡ false → map (λ x. x.0) (filter p (mark ∷ [])) ≡ []
none_passes p mark e = ap (λ b. map (λ (x : ℕ × Entry). x.0) (cond b (mark ∷ []) [])) e

one_passes : {Y : Type 0} (p : ℕ × Entry → Bool) (mark : ℕ × Entry) (y : Y) (b : Bool) → p mark ≡ b
    → map (λ (x : ℕ × Entry). x.0) (filter p (mark ∷ [])) ≡ map (λ (x : ℕ × Y). x.0) (if b then (mark.0, y) ∷ [] else [])
one_passes {Y} p mark y b e = ap (λ c. map (λ (x : ℕ × Entry). x.0) (cond c (mark ∷ []) [])) e ∙ by b
  where
    by : (c : Bool) → map (λ (x : ℕ × Entry). x.0) (cond c (mark ∷ []) []) ≡ map (λ (x : ℕ × Y). x.0) (if c then (mark.0, y) ∷ [] else [])
    by true = refl
    by false = refl

module _ {M : Type 0} (ring ticket : ℕ) (trace : Trace M) (entry : Entry) where
  abbrev mark : ℕ × Entry
  mark = (ticket, entry)

  -- an entry is of a kind on a ring where its ring is that one, and no entry of another kind is
  kind_on : (is_kind : Kind → Bool) (kind : Kind) (on : ℕ) → entry.kind ≡ kind → entry.a ≡ on → is_kind kind ≡ true → is_on is_kind ring mark ≡ (on == ring)
  kind_on is_kind kind on k a e = ap (λ x. x && (entry.a == ring)) (ap is_kind k ∙ e) ∙ ap (λ x. x == ring) a

  kind_off : (is_kind : Kind → Bool) → is_kind entry.kind ≡ false → is_on is_kind ring mark ≡ false
  kind_off is_kind e = ap (λ x. x && (entry.a == ring)) e

  told_sent : (action : Action M) → Tells trace action entry → tickets_in is_send ring (mark ∷ []) ≡ tickets (sent_by ring ticket action)
  told_sent (Sent on seen message) t = one_passes (is_on is_send ring) mark message (on == ring) (kind_on is_send _ on t.0 t.1 refl)
  told_sent (Refused on seen) t = none_passes (is_on is_send ring) mark (kind_off is_send (ap is_send t.0))
  told_sent (Looked on count messages) t = none_passes (is_on is_send ring) mark (kind_off is_send (ap is_send t.0))
  told_sent (Taken on message) t = none_passes (is_on is_send ring) mark (kind_off is_send (ap is_send t.0))
  told_sent Marked t = none_passes (is_on is_send ring) mark (kind_off is_send t.0)
  told_sent (Stored number) t = none_passes (is_on is_send ring) mark (kind_off is_send t.0)
  told_sent (Loaded number) t = none_passes (is_on is_send ring) mark (kind_off is_send t.0)

  told_taken : (action : Action M) → Tells trace action entry → tickets_in is_take ring (mark ∷ []) ≡ tickets (taken_by ring ticket action)
  told_taken (Taken on message) t = one_passes (is_on is_take ring) mark message (on == ring) (kind_on is_take _ on t.0 t.1 refl)
  told_taken (Sent on seen message) t = none_passes (is_on is_take ring) mark (kind_off is_take (ap is_take t.0))
  told_taken (Refused on seen) t = none_passes (is_on is_take ring) mark (kind_off is_take (ap is_take t.0))
  told_taken (Looked on count messages) t = none_passes (is_on is_take ring) mark (kind_off is_take (ap is_take t.0))
  told_taken Marked t = none_passes (is_on is_take ring) mark (kind_off is_take t.1)
  told_taken (Stored number) t = none_passes (is_on is_take ring) mark (kind_off is_take t.1)
  told_taken (Loaded number) t = none_passes (is_on is_take ring) mark (kind_off is_take t.1)

  no_full : {X : Type 0} → is_full entry.kind ≡ false → is_on is_full ring mark ≡ true → X
  no_full e is = absurd (true≢false (sym is ∙ kind_off is_full e))

  told_full : (action : Action M) → Tells trace action entry → is_on is_full ring mark ≡ true → (seen : ℕ) × Contains (refused_by ring ticket action) (ticket, seen)
  told_full (Refused on seen) t is =
      let pair : ℕ × ℕ = (ticket, seen) in
      (seen, contains_one (on == ring) pair (sym (kind_on is_full _ on t.0 t.1 refl) ∙ is))
  told_full (Sent on seen message) t is = no_full (ap is_full t.0) is
  told_full (Looked on count messages) t is = no_full (ap is_full t.0) is
  told_full (Taken on message) t is = no_full (ap is_full t.0) is
  told_full Marked t is = no_full t.2 is
  told_full (Stored number) t is = no_full t.2 is
  told_full (Loaded number) t is = no_full t.2 is

  no_look : {X : Type 0} → is_look entry.kind ≡ false → is_on is_look ring mark ≡ true → X
  no_look e is = absurd (true≢false (sym is ∙ kind_off is_look e))

  told_seen : (action : Action M) → Tells trace action entry → is_on is_look ring mark ≡ true → Contains (looked_by ring ticket action) (ticket, entry.b + length (taken ring trace))
  told_seen (Looked on count messages) t is =
      let here : (on == ring) ≡ true = sym (kind_on is_look _ on t.0 t.1 refl) ∙ is in
      let at : ℕ × ℕ = (ticket, count) in
      let same : entry.b + length (taken ring trace) ≡ count = subst (λ r. entry.b + length (taken r trace) ≡ count) (eqb-true on ring here) t.2 in
      let looked : Action M = Looked on count messages in
      subst (λ n. Contains (looked_by ring ticket looked) (ticket, n)) (sym same) (contains_one (on == ring) at here)
  told_seen (Sent on seen message) t is = no_look (ap is_look t.0) is
  told_seen (Refused on seen) t is = no_look (ap is_look t.0) is
  told_seen (Taken on message) t is = no_look (ap is_look t.0) is
  told_seen Marked t is = no_look t.3 is
  told_seen (Stored number) t is = no_look t.3 is
  told_seen (Loaded number) t is = no_look t.3 is

  late_taken : (least : ℕ) → least ≤ ticket → (action : Action M) → All (λ t. least ≤ t) (tickets (taken_by ring ticket action))
  late_taken least h action = all_firsts (λ t. least ≤ t) (taken_by ring ticket action) (by action)
    where
      by : (act : Action M) → All (λ pair. least ≤ pair.0) (taken_by ring ticket act)
      by (Taken on message) = let pair : ℕ × M = (ticket, message) in all_if (λ x. least ≤ x.0) (on == ring) pair h
      by act = All-nil (λ pair. least ≤ pair.0)

  module _ (action : Action M) (log : List (ℕ × Entry)) (h : IsLogOf ring trace log) (above : IsAbove ticket trace) (t : Tells trace action entry)
      (drew_all : All (λ x. x ≤ ticket) (drawn trace)) (keeps : (x : ℕ) → Contains (drawn trace) x → Contains (drawn (with_event trace ticket action)) x) (has : Contains (drawn (with_event trace ticket action)) ticket) where
    new_taken : taken ring (with_event trace ticket action) ≡ taken ring trace ++ taken_by ring ticket action
    new_taken = told_more (λ event. taken_by ring event.ticket event.action) trace.events (record { ticket = ticket; action = action })

    below_taken : (least : ℕ) → least ≤ ticket → below least (tickets (taken ring (with_event trace ticket action))) ≡ below least (tickets (taken ring trace))
    below_taken least le =
        ap (λ l. below least (tickets l)) new_taken
        ∙ ap (below least) (map-append (λ (x : ℕ × M). x.0) (taken ring trace) (taken_by ring ticket action))
        ∙ below-append least (tickets (taken ring trace)) (tickets (taken_by ring ticket action))
        ∙ omega (arith, below-none least (tickets (taken_by ring ticket action)) (late_taken least le action))

    in_more : (is_kind : Kind → Bool) → tickets_in is_kind ring (log ++ mark ∷ []) ≡ tickets_in is_kind ring log ++ tickets_in is_kind ring (mark ∷ [])
    in_more is_kind = ap (map (λ x. x.0)) (filter-append (is_on is_kind ring) log (mark ∷ [])) ∙ map-append (λ (x : ℕ × Entry). x.0) (filter (is_on is_kind ring) log) (filter (is_on is_kind ring) (mark ∷ []))

    pub log_grown : IsLogOf ring (with_event trace ticket action) (log ++ mark ∷ [])
    log_grown = record {
      drew = All-push (λ x. Contains (drawn (with_event trace ticket action)) x.0) log mark (λ k d lt. keeps (get_or log k d).0 (h.drew k d lt)) has;
      sends = in_more is_send ∙ ap (λ l. l ++ tickets_in is_send ring (mark ∷ [])) h.sends ∙ ap (λ l. tickets (sent ring trace) ++ l) (told_sent action t)
          ∙ sym (map-append (λ (x : ℕ × M). x.0) (sent ring trace) (sent_by ring ticket action))
          ∙ ap tickets (sym (told_more (λ event. sent_by ring event.ticket event.action) trace.events (record { ticket = ticket; action = action })));
      takes = in_more is_take ∙ ap (λ l. l ++ tickets_in is_take ring (mark ∷ [])) h.takes ∙ ap (λ l. tickets (taken ring trace) ++ l) (told_taken action t)
          ∙ sym (map-append (λ (x : ℕ × M). x.0) (taken ring trace) (taken_by ring ticket action)) ∙ ap tickets (sym new_taken);
      fulls =
          let more : refused ring (with_event trace ticket action) ≡ refused ring trace ++ refused_by ring ticket action =
          told_more (λ event. refused_by ring event.ticket event.action) trace.events (record { ticket = ticket; action = action }) in
          subst (λ l. All (λ x. is_on is_full ring x ≡ true → (seen : ℕ) × Contains l (x.0, seen)) (log ++ mark ∷ [])) (sym more)
          (All-push (λ x. is_on is_full ring x ≡ true → (seen : ℕ) × Contains (refused ring trace ++ refused_by ring ticket action) (x.0, seen)) log mark
          (λ k d lt is. let found = h.fulls k d lt is in (found.0, contains_left (refused ring trace) (refused_by ring ticket action) ((get_or log k d).0, found.0) found.1))
          (λ is. let found = told_full action t is in (found.0, contains_right (refused ring trace) (refused_by ring ticket action) (ticket, found.0) found.1)));
      seen =
          let more : looks ring (with_event trace ticket action) ≡ looks ring trace ++ looked_by ring ticket action =
          told_more (λ event. looked_by ring event.ticket event.action) trace.events (record { ticket = ticket; action = action }) in
          let all_below : below ticket (tickets (taken ring trace)) ≡ length (taken ring trace) =
          below-all ticket (tickets (taken ring trace)) (all_firsts (λ x. x < ticket) (taken ring trace) (above_takes ring ticket trace above).takes) ∙ length-map (taken ring trace) (λ (x : ℕ × M). x.0) in
          subst (λ l. All (λ x. is_on is_look ring x ≡ true → Contains l (x.0, x.1.b + below x.0 (tickets (taken ring (with_event trace ticket action))))) (log ++ mark ∷ [])) (sym more)
          (All-push (λ x. is_on is_look ring x ≡ true → Contains (looks ring trace ++ looked_by ring ticket action) (x.0, x.1.b + below x.0 (tickets (taken ring (with_event trace ticket action))))) log mark
          (λ k d lt is.
          let x : ℕ × Entry = get_or log k d in
          let le : x.0 ≤ ticket = All-contains (λ y. y ≤ ticket) (drawn trace) x.0 drew_all (h.drew k d lt) in
          subst (λ n. Contains (looks ring trace ++ looked_by ring ticket action) (x.0, x.1.b + n)) (sym (below_taken x.0 le))
          (contains_left (looks ring trace) (looked_by ring ticket action) (x.0, x.1.b + below x.0 (tickets (taken ring trace))) (h.seen k d lt is)))
          (λ is.
          subst (λ n. Contains (looks ring trace ++ looked_by ring ticket action) (ticket, entry.b + n)) (sym (below_taken ticket (omega arith) ∙ all_below))
          (contains_right (looks ring trace) (looked_by ring ticket action) (ticket, entry.b + length (taken ring trace)) (told_seen action t is))));
    }

  -- with the ticket that was pending, or with a new one
  pub log_uses : (action : Action M) (log : List (ℕ × Entry)) → IsLogOf ring trace log → IsAbove ticket trace → Tells trace action entry
      → pending_ticket trace.pending ≡ ticket ∷ [] → IsLogOf ring (with_event trace ticket action) (log ++ (ticket, entry) ∷ [])
  log_uses action log h above t e =
      log_grown action log h above t (drawn-le trace ticket e above)
      (λ x c. subst (λ l. Contains l x) (sym (drawn_same trace ticket action e)) c)
      (subst (λ l. Contains l ticket) (sym (drawn_same trace ticket action e))
      (subst (λ l. Contains (map (λ event. event.ticket) trace.events ++ l) ticket) (sym e) (contains_right (map (λ event. event.ticket) trace.events) (ticket ∷ []) ticket (zero, omega arith, refl))))

  pub log_draws : (action : Action M) (log : List (ℕ × Entry)) → IsLogOf ring trace log → IsAbove ticket trace → Tells trace action entry
      → pending_ticket trace.pending ≡ [] → IsLogOf ring (with_event trace ticket action) (log ++ (ticket, entry) ∷ [])
  log_draws action log h above t e =
      log_grown action log h above t
      (λ k d lt. omega (arith, all_lower k d lt))
      (λ x c. subst (λ l. Contains l x) (sym (drawn_more trace ticket action e)) (contains_left (drawn trace) (ticket ∷ []) x c))
      (subst (λ l. Contains l ticket) (sym (drawn_more trace ticket action e)) (contains_right (drawn trace) (ticket ∷ []) ticket (zero, omega arith, refl)))
    where
      all_lower : All (λ x. x < ticket) (drawn trace)
      all_lower = drawn-lower trace ticket e above

-- a log without entries agrees with a trace without events
pub log_fresh : {M : Type 0} (ring : ℕ) → IsLogOf {M = M} ring fresh []
log_fresh {M} ring = record {
  drew = All-nil (λ mark. Contains (drawn {M = M} fresh) mark.0);
  sends = refl;
  takes = refl;
  fulls = All-nil (λ mark. is_on is_full ring mark ≡ true → (seen : ℕ) × Contains (refused {M = M} ring fresh) (mark.0, seen));
  seen = All-nil (λ mark. is_on is_look ring mark ≡ true → Contains (looks {M = M} ring fresh) (mark.0, mark.1.b + below mark.0 (tickets (taken {M = M} ring fresh))));
}

-- what the beginning of a list contains the list contains
contains_longer : {X : Type 0} (first whole : List X) (x : X) → Begins first whole → Contains first x → Contains whole x
contains_longer first whole x b c = subst (λ l. Contains l x) (sym b.is) (contains_left first b.rest x c)

-- a step without an entry
pub log_stays : {M : Type 0} (ring : ℕ) (trace new : Trace M) (log : List (ℕ × Entry)) → IsLogOf ring trace log → Begins (drawn trace) (drawn new)
    → sent ring new ≡ sent ring trace → taken ring new ≡ taken ring trace → Begins (refused ring trace) (refused ring new) → Begins (looks ring trace) (looks ring new) → IsLogOf ring new log
log_stays ring trace new log h d s t r l = record {
  drew = λ k x lt. contains_longer (drawn trace) (drawn new) (get_or log k x).0 d (h.drew k x lt);
  sends = h.sends ∙ ap tickets (sym s);
  takes = h.takes ∙ ap tickets (sym t);
  fulls = λ k x lt is. let found = h.fulls k x lt is in (found.0, contains_longer (refused ring trace) (refused ring new) ((get_or log k x).0, found.0) r found.1);
  seen = λ k x lt is.
      let mark : ℕ × Entry = get_or log k x in
      subst (λ taken_now. Contains (looks ring new) (mark.0, mark.1.b + below mark.0 (tickets taken_now))) (sym t)
      (contains_longer (looks ring trace) (looks ring new) (mark.0, mark.1.b + below mark.0 (tickets (taken ring trace))) l (h.seen k x lt is));
}
