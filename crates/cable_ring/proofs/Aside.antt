-- What an actor's step leaves as it was on the rings that the step isn't about.
use Rattle.std.proofs.Common.{◌≡◌, ◌≢◌, ℕ, ◌+◌, ◌<◌, Bool, false, ◌==◌, if◌then◌else◌, List, [], ◌∷◌, ◌++◌, map, Option, refl, sym, ap, subst, ◌∙◌, ne_eqb}
use mathlib.Core.Option as maybe
use Rattle.std.specs.List.{All}
use Rattle.cable_trace.specs.declared.trace.Action.{Action}
use Rattle.cable_trace.specs.declared.trace.Pending.{Pending}
use Rattle.cable_trace.specs.declared.trace.Pending.TheVariants.{Took}
use Rattle.cable_trace.specs.declared.trace.Trace.{Trace}
use Rattle.cable_trace.specs.Trace.{taken_before_ticket, drawn, sent, refused}
use Rattle.cable_trace.specs.Step.{with_pending, with_event, IsAbove, IsAboveSends, IsAboveTakes, SendsNothing, TakesNothing, sends_on, takes_on}
use Rattle.cable_trace.specs.Beat.{stored_by, loaded_by, stores, loads, IsLast}
use Rattle.cable_trace.specs.declared.trace.Action.TheVariants.{Taken}
use Rattle.cable_trace.proofs.Elsewhere.{told_same, event_sends, event_takes, pending_takes}
use Rattle.cable_trace.proofs.SenderKeeps.{sender_goes, sender_draws_one}
use Rattle.cable_trace.proofs.TakerKeeps.{taker_goes, taker_draws_one}
use Rattle.cable_trace.proofs.BeatKeeps.{writer_goes, writer_draws_one, reader_goes, reader_draws_one}
use Rattle.cable_ring.specs.Cells.{putting, fetching}
use Rattle.cable_ring.specs.Rule.{IsRing, IsBeat}
use Rattle.cable_ring.proofs.Put.{put, sides}
use Rattle.cable_ring.proofs.RingSteps.{sender_stays, taker_stays, taker_is_done}

-- a step does nothing on a ring
pub record IsAside {M : Type 0} (ring : ℕ) (old new : Trace M) : Type 0 where
  pub sends : SendsNothing ring old new
  pub takes : TakesNothing ring old new
  pub puts : putting ring new.pending ≡ putting ring old.pending
  pub fetches : fetching ring new.pending ≡ fetching ring old.pending

-- a step does nothing to the beat
pub record IsOffBeat {M : Type 0} (old new : Trace M) : Type 0 where
  pub stored : stores new ≡ stores old
  pub loaded : loads new ≡ loads old

-- what another ring's number gives
pub other_ring : {X : Type 0} (one two : ℕ) (here there : X) → one ≢ two → (if one == two then here else there) ≡ there
other_ring one two here there ne = ap (λ b. if b then here else there) (ne_eqb one two ne)

module _ {M : Type 0} where
  -- another event
  pub event_aside : (ring ticket : ℕ) (old : Trace M) (action : Action M) → sends_on ring action ≡ false → takes_on ring action ≡ false → taken_before_ticket ring old.pending ≡ []
      → putting ring old.pending ≡ [] → fetching ring old.pending ≡ [] → IsAside ring old (with_event old ticket action)
  event_aside ring ticket old action s t late p f = record {
    sends = event_sends ring ticket old action s;
    takes = event_takes ring ticket old action t late;
    puts = sym p;
    fetches = sym f;
  }

  -- another state
  pub pending_aside : (ring : ℕ) (old : Trace M) (pending : Pending M) → taken_before_ticket ring pending ≡ taken_before_ticket ring old.pending → putting ring pending ≡ putting ring old.pending
      → fetching ring pending ≡ fetching ring old.pending → IsAside ring old (with_pending old pending)
  pending_aside ring old pending late p f = record { sends = record { sends = refl; refusals = refl }; takes = pending_takes ring old pending late; puts = p; fetches = f }

  pub event_off_beat : (ticket : ℕ) (old : Trace M) (action : Action M) → stored_by ticket action ≡ [] → loaded_by ticket action ≡ [] → IsOffBeat old (with_event old ticket action)
  event_off_beat ticket old action s l = record {
    stored = told_same (λ event. stored_by event.ticket event.action) old.events (record { ticket = ticket; action = action }) s;
    loaded = told_same (λ event. loaded_by event.ticket event.action) old.events (record { ticket = ticket; action = action }) l;
  }

  pub pending_off_beat : (old : Trace M) (pending : Pending M) → IsOffBeat old (with_pending old pending)
  pending_off_beat old pending = record { stored = refl; loaded = refl }

  module _ (cells ring head tail : ℕ) (homes : List (maybe.Option (Option M))) (traces : ℕ → Trace M) (actor from to : ℕ) (new : Trace M) where
    abbrev Ring : Trace M → Trace M → Type 0
    Ring s t = IsRing cells ring head tail homes s t

    -- without a ticket
    pub ring_aside : IsAside ring (traces actor) new → drawn new ≡ drawn (traces actor) → Ring (traces from) (traces to) → Ring (put traces actor new from) (put traces actor new to)
    ring_aside aside same h = sides Ring Ring Ring traces actor new from to
        (λ e t r. sender_stays cells ring head tail homes (traces actor) t r new (sender_goes cells ring (traces actor) t r.holds new aside.sends same) aside.sends aside.puts)
        (λ ne s t r. r)
        (λ e s r. taker_stays cells ring head tail homes s (traces actor) r new (taker_goes cells ring s (traces actor) r.holds new aside.takes same) aside.takes aside.fetches)
        (λ ne s t r. r) h

    abbrev RingBelow : ℕ → Trace M → Trace M → Type 0
    RingBelow ticket s t = Ring s t × IsAboveSends ring ticket s × IsAboveTakes ring ticket t

    drawing : (ticket : ℕ) → SendsNothing ring (traces actor) new → putting ring new.pending ≡ putting ring (traces actor).pending → drawn new ≡ drawn (traces actor) ++ ticket ∷ []
        → (t : Trace M) → RingBelow ticket (traces actor) t → RingBelow ticket new t
    drawing ticket sends puts more t r = (
      sender_stays cells ring head tail homes (traces actor) t r.0 new (sender_draws_one cells ring (traces actor) t r.0.holds new ticket sends more r.2) sends puts,
      record { sends = subst (All (λ send. send.0 < ticket)) (sym sends.sends) r.1.sends; refusals = subst (All (λ refusal. refusal.0 < ticket)) (sym sends.refusals) r.1.refusals },
      r.2,
    )

    -- with a new ticket
    pub ring_draws : (ticket : ℕ) → IsAside ring (traces actor) new → drawn new ≡ drawn (traces actor) ++ ticket ∷ [] → RingBelow ticket (traces from) (traces to)
        → Ring (put traces actor new from) (put traces actor new to)
    ring_draws ticket aside more h = sides (RingBelow ticket) (RingBelow ticket) Ring traces actor new from to
        (λ e t r. drawing ticket aside.sends aside.puts more t r) (λ ne s t r. r)
        (λ e s r. taker_stays cells ring head tail homes s (traces actor) r.0 new (taker_draws_one cells ring s (traces actor) r.0.holds new ticket aside.takes more r.1) aside.takes aside.fetches)
        (λ ne s t r. r.0) h

  -- with a new ticket for a take
  pub ring_takes : (cells ring head tail : ℕ) (homes : List (maybe.Option (Option M))) (traces : ℕ → Trace M) (actor from to ticket : ℕ) (message : M) → to ≡ actor
      → (traces actor).pending ≡ Took ring message → IsAbove ticket (traces actor) → drawn (with_event (traces actor) ticket (Taken ring message)) ≡ drawn (traces actor) ++ ticket ∷ []
      → RingBelow cells ring head tail homes traces actor from to (with_event (traces actor) ticket (Taken ring message)) ticket (traces from) (traces to)
      → IsRing cells ring head tail homes (put traces actor (with_event (traces actor) ticket (Taken ring message)) from) (put traces actor (with_event (traces actor) ticket (Taken ring message)) to)
  ring_takes cells ring head tail homes traces actor from to ticket message its e above more h =
      let new : Trace M = with_event (traces actor) ticket (Taken ring message) in
      let below : Trace M → Trace M → Type 0 = RingBelow cells ring head tail homes traces actor from to new ticket in
      sides below below (IsRing cells ring head tail homes) traces actor new from to
      (λ i t r. drawing cells ring head tail homes traces actor from to new ticket (event_sends ring ticket (traces actor) (Taken ring message) refl) (sym (ap (putting ring) e)) more t r)
      (λ ne s t r. r) (λ i s r. taker_is_done cells ring head tail homes s (traces actor) r.0 ticket message e r.1 above) (λ ne s t r. absurd (ne its)) h

  module _ (number : ℕ) (traces : ℕ → Trace M) (actor : ℕ) (new : Trace M) (off : IsOffBeat (traces actor) new) where
    writer_stays : (reader : Trace M) → IsBeat number (traces actor) reader → drawn new ≡ drawn (traces actor) → IsBeat number new reader
    writer_stays reader b same = record { holds = writer_goes (traces actor) reader b.holds new off.stored same; last = subst (IsLast number) (sym off.stored) b.last }

    -- the beat without a ticket
    pub beat_aside : drawn new ≡ drawn (traces actor) → IsBeat number (traces 0) (traces 1) → IsBeat number (put traces actor new 0) (put traces actor new 1)
    beat_aside same h = sides (IsBeat number) (IsBeat number) (IsBeat number) traces actor new 0 1
        (λ e t b. writer_stays t b same) (λ ne s t b. b)
        (λ e s b. record { holds = reader_goes s (traces actor) b.holds new off.loaded same; last = b.last }) (λ ne s t b. b) h

    abbrev BeatBelow : ℕ → Trace M → Trace M → Type 0
    BeatBelow ticket writer reader = IsBeat number writer reader × All (λ store. store.0 < ticket) (stores writer) × All (λ load. load.0 < ticket) (loads reader)

    -- and with one
    pub beat_draws : (ticket : ℕ) → drawn new ≡ drawn (traces actor) ++ ticket ∷ [] → BeatBelow ticket (traces 0) (traces 1) → IsBeat number (put traces actor new 0) (put traces actor new 1)
    beat_draws ticket more h = sides (BeatBelow ticket) (BeatBelow ticket) (IsBeat number) traces actor new 0 1
        (λ e t b. (
          record { holds = writer_draws_one (traces actor) t b.0.holds new ticket off.stored more b.2; last = subst (IsLast number) (sym off.stored) b.0.last },
          subst (All (λ store. store.0 < ticket)) (sym off.stored) b.1,
          b.2,
        ))
        (λ ne s t b. b)
        (λ e s b. record { holds = reader_draws_one s (traces actor) b.0.holds new ticket off.loaded more b.1; last = b.0.last })
        (λ ne s t b. b.0) h
