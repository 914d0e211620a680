-- Each step keeps what holds of the beat.
use Rattle.std.proofs.Common.{◌≡◌, ◌⊎◌, inl, inr, ℕ, ◌<◌, ◌≤◌, List, [], ◌∷◌, ◌++◌, length, get_or, refl, sym, ap, subst, ◌∙◌, arith}
use Rattle.std.specs.List.{All, Contains}
use Rattle.std.proofs.Math.Seq.{get_or-append_seam}
use Rattle.std.proofs.lemmas.List.{length_push, get_or_append_left}
use Rattle.std.proofs.lemmas.List.Elements.{All-nil, All-cons, All-push, All-contains}
use Rattle.cable_trace.specs.declared.trace.Action.{Action}
use Rattle.cable_trace.specs.declared.trace.Action.TheVariants.{Stored, Loaded}
use Rattle.cable_trace.specs.declared.trace.Pending.TheVariants.{Drew}
use Rattle.cable_trace.specs.declared.trace.Trace.{Trace}
use Rattle.cable_trace.specs.Trace.{pending_ticket, drawn}
use Rattle.cable_trace.specs.Step.{with_event, IsAbove}
use Rattle.cable_trace.specs.Beat.{stored_by, loaded_by, stores, loads, IsLast, BeatInOrder, BeatHolds}
use Rattle.cable_trace.proofs.Tells.{told_more, told_all, drawn_same, drawn-le}

-- a load has 0, or a number that was stored before the next tickets
abbrev Stands : List (ℕ × ℕ) → List ℕ → ℕ × ℕ → Type 0
Stands stored asked load = (load.1 ≡ 0) ⊎ ((ticket : ℕ) × Contains stored (ticket, load.1) × All (λ next. load.0 < next → ticket < next) asked)

-- a load has each number that was stored before a ticket
abbrev Sees : List (ℕ × ℕ) → ℕ × ℕ → ℕ → Type 0
Sees stored load ticket = ticket < load.0 → All (λ store. store.0 < ticket → store.1 ≤ load.1) stored

-- what a list contains it contains with one more, and that one too
contains_more : (xs : List (ℕ × ℕ)) (x y : ℕ × ℕ) → Contains xs x → Contains (xs ++ y ∷ []) x
contains_more xs x y c = (c.0, omega (arith, c.1, length_push xs y), get_or_append_left xs (y ∷ []) x c.0 c.1 ∙ c.2)

contains_last : (xs : List (ℕ × ℕ)) (x : ℕ × ℕ) → Contains (xs ++ x ∷ []) x
contains_last xs x = (length xs, omega (arith, length_push xs x), get_or-append_seam xs x [] x)

pub beat_fresh : BeatInOrder [] [] [] []
beat_fresh = record {
  at_least = All-nil (λ load. All (Sees [] load) []);
  at_most = All-nil (Stands [] []);
}

pub last_fresh : IsLast 0 []
last_fresh = record { greatest = All-nil (λ store. store.1 ≤ 0); stands = inl refl }

-- the last number, after one more store
last_more : (last number ticket : ℕ) (stored : List (ℕ × ℕ)) → IsLast last stored → last < number → IsLast number (stored ++ (ticket, number) ∷ [])
last_more last number ticket stored l higher =
    let store : ℕ × ℕ = (ticket, number) in
    record {
      greatest = All-push (λ x. x.1 ≤ number) stored store (λ k d lt. omega (arith, l.greatest k d lt)) (omega arith);
      stands = inr (ticket, contains_last stored store);
    }

module _ (drew : List ℕ) (stored : List (ℕ × ℕ)) (asked : List ℕ) (loaded : List (ℕ × ℕ)) (o : BeatInOrder drew stored asked loaded) where
  beat_writer_draws : (ticket : ℕ) → All (λ load. load.0 < ticket) loaded → BeatInOrder (drew ++ ticket ∷ []) stored asked loaded
  beat_writer_draws ticket l = record {
    at_least = λ k d lt. All-push (Sees stored (get_or loaded k d)) drew ticket (o.at_least k d lt) (λ h. absurd (omega (arith, l k d lt)));
    at_most = o.at_most;
  }

  beat_writer_stores : (ticket number : ℕ) → All (λ t. t ≤ ticket) drew → BeatInOrder drew (stored ++ (ticket, number) ∷ []) asked loaded
  beat_writer_stores ticket number last =
      let store : ℕ × ℕ = (ticket, number) in
      record {
        at_least = λ k d lt i e in_drew h.
            All-push (λ x. x.0 < get_or drew i e → x.1 ≤ (get_or loaded k d).1) stored store (o.at_least k d lt i e in_drew h) (λ g. absurd (omega (arith, last i e in_drew)));
        at_most = λ k d lt. more store (get_or loaded k d) (o.at_most k d lt);
      }
    where
      more : (store load : ℕ × ℕ) → Stands stored asked load → Stands (stored ++ store ∷ []) asked load
      more store load (inl z) = inl z
      more store load (inr s) = inr (s.0, contains_more stored (s.0, load.1) store s.1, s.2)

  beat_reader_draws : (ticket : ℕ) → All (λ store. store.0 < ticket) stored → BeatInOrder drew stored (asked ++ ticket ∷ []) loaded
  beat_reader_draws ticket s = record {
    at_least = o.at_least;
    at_most = λ k d lt. more (get_or loaded k d) (o.at_most k d lt);
  }
    where
      more : (load : ℕ × ℕ) → Stands stored asked load → Stands stored (asked ++ ticket ∷ []) load
      more load (inl z) = inl z
      more load (inr x) =
          let store : ℕ × ℕ = (x.0, load.1) in
          inr (x.0, x.1, All-push (λ next. load.0 < next → x.0 < next) asked ticket x.2 (λ h. All-contains (λ y. y.0 < ticket) stored store s x.1))

  beat_reader_loads : (ticket number : ℕ) → All (λ t. t ≤ ticket) asked → IsLast number stored → BeatInOrder drew stored asked (loaded ++ (ticket, number) ∷ [])
  beat_reader_loads ticket number last l =
      let load : ℕ × ℕ = (ticket, number) in
      record {
        at_least = All-push (λ x. All (Sees stored x) drew) loaded load o.at_least (λ k d lt h i e in_stored g. l.greatest i e in_stored);
        at_most = All-push (Stands stored asked) loaded load o.at_most (by l.stands);
      }
    where
      by : (number ≡ 0) ⊎ ((t : ℕ) × Contains stored (t, number)) → Stands stored asked (ticket, number)
      by (inl z) = inl z
      by (inr x) = inr (x.0, x.1, λ k d lt h. absurd (omega (arith, last k d lt)))

module _ {M : Type 0} where
  pub above_stores : (ticket : ℕ) (trace : Trace M) → IsAbove ticket trace → All (λ store. store.0 < ticket) (stores trace)
  above_stores ticket trace above =
      told_all (λ event. event.ticket < ticket) (λ pair. pair.0 < ticket) (λ event. stored_by event.ticket event.action) (λ event h. one event.ticket event.action h) trace.events above
    where
      one : (t : ℕ) (action : Action M) → t < ticket → All (λ pair. pair.0 < ticket) (stored_by t action)
      one t (Stored number) h = let pair : ℕ × ℕ = (t, number) in All-cons (λ x. x.0 < ticket) pair [] h (All-nil (λ x. x.0 < ticket))
      one t action h = All-nil (λ x. x.0 < ticket)

  pub above_loads : (ticket : ℕ) (trace : Trace M) → IsAbove ticket trace → All (λ load. load.0 < ticket) (loads trace)
  above_loads ticket trace above =
      told_all (λ event. event.ticket < ticket) (λ pair. pair.0 < ticket) (λ event. loaded_by event.ticket event.action) (λ event h. one event.ticket event.action h) trace.events above
    where
      one : (t : ℕ) (action : Action M) → t < ticket → All (λ pair. pair.0 < ticket) (loaded_by t action)
      one t (Loaded number) h = let pair : ℕ × ℕ = (t, number) in All-cons (λ x. x.0 < ticket) pair [] h (All-nil (λ x. x.0 < ticket))
      one t action h = All-nil (λ x. x.0 < ticket)

  module _ (writer reader : Trace M) (h : BeatHolds writer reader) where
    pub writer_goes : (new : Trace M) → stores new ≡ stores writer → drawn new ≡ drawn writer → BeatHolds new reader
    writer_goes new s e =
        subst (λ l. BeatInOrder l (stores new) (drawn reader) (loads reader)) (sym e)
        (subst (λ l. BeatInOrder (drawn writer) l (drawn reader) (loads reader)) (sym s) h)

    pub writer_draws_one : (new : Trace M) (ticket : ℕ) → stores new ≡ stores writer → drawn new ≡ drawn writer ++ ticket ∷ []
        → All (λ load. load.0 < ticket) (loads reader) → BeatHolds new reader
    writer_draws_one new ticket s e above =
        subst (λ l. BeatInOrder l (stores new) (drawn reader) (loads reader)) (sym e)
        (subst (λ l. BeatInOrder (drawn writer ++ ticket ∷ []) l (drawn reader) (loads reader)) (sym s)
        (beat_writer_draws (drawn writer) (stores writer) (drawn reader) (loads reader) h ticket above))

    pub reader_goes : (new : Trace M) → loads new ≡ loads reader → drawn new ≡ drawn reader → BeatHolds writer new
    reader_goes new l e =
        subst (λ x. BeatInOrder (drawn writer) (stores writer) x (loads new)) (sym e)
        (subst (λ x. BeatInOrder (drawn writer) (stores writer) (drawn reader) x) (sym l) h)

    pub reader_draws_one : (new : Trace M) (ticket : ℕ) → loads new ≡ loads reader → drawn new ≡ drawn reader ++ ticket ∷ []
        → All (λ store. store.0 < ticket) (stores writer) → BeatHolds writer new
    reader_draws_one new ticket l e above =
        subst (λ x. BeatInOrder (drawn writer) (stores writer) x (loads new)) (sym e)
        (subst (λ x. BeatInOrder (drawn writer) (stores writer) (drawn reader ++ ticket ∷ []) x) (sym l)
        (beat_reader_draws (drawn writer) (stores writer) (drawn reader) (loads reader) h ticket above))

    pub writer_stored : (ticket last number : ℕ) → writer.pending ≡ Drew ticket → IsAbove ticket writer → IsLast last (stores writer) → last < number
        → BeatHolds (with_event writer ticket (Stored number)) reader × IsLast number (stores (with_event writer ticket (Stored number)))
    writer_stored ticket last number e above l higher =
        let new : Trace M = with_event writer ticket (Stored number) in
        let s : stores new ≡ stores writer ++ (ticket, number) ∷ [] =
        told_more (λ event. stored_by event.ticket event.action) writer.events (record { ticket = ticket; action = Stored number }) in (
          subst (λ x. BeatInOrder x (stores new) (drawn reader) (loads reader)) (sym (drawn_same writer ticket (Stored number) (ap pending_ticket e)))
              (subst (λ x. BeatInOrder (drawn writer) x (drawn reader) (loads reader)) (sym s)
              (beat_writer_stores (drawn writer) (stores writer) (drawn reader) (loads reader) h ticket number (drawn-le writer ticket (ap pending_ticket e) above))),
          subst (IsLast number) (sym s) (last_more last number ticket (stores writer) l higher),
        )

    pub reader_loaded : (ticket number : ℕ) → reader.pending ≡ Drew ticket → IsAbove ticket reader → IsLast number (stores writer)
        → BeatHolds writer (with_event reader ticket (Loaded number))
    reader_loaded ticket number e above l =
        let new : Trace M = with_event reader ticket (Loaded number) in
        let s : loads new ≡ loads reader ++ (ticket, number) ∷ [] =
        told_more (λ event. loaded_by event.ticket event.action) reader.events (record { ticket = ticket; action = Loaded number }) in
        subst (λ x. BeatInOrder (drawn writer) (stores writer) x (loads new)) (sym (drawn_same reader ticket (Loaded number) (ap pending_ticket e)))
        (subst (λ x. BeatInOrder (drawn writer) (stores writer) (drawn reader) x) (sym s)
        (beat_reader_loads (drawn writer) (stores writer) (drawn reader) (loads reader) h ticket number (drawn-le reader ticket (ap pending_ticket e) above) l))
