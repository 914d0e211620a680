-- An answer that is written, or that has no room.
use Rattle.std.proofs.Common.{◌≡◌, ◌<◌, ◌≤◌, cond, nat_le, true, false, length, length-append, refl, arith}
use Rattle.std.proofs.lemmas.Bool.{le-leb, lt-leb}
use Rattle.atom_core.specs.Value.{timed}
use Rattle.atom_core.specs.Spelling.{lead_bytes, atom_of, with_padding, part_of}
use Rattle.atom_forge.specs.Forged.{Forged, left, with_piece}
use Rattle.atom_sequence.specs.Event.{Event, size_of}
use Rattle.atom_sequence.specs.Views.{AwaitsEvent}
use Rattle.stock_tank.specs.Playing.{with_event}

pub event_fits : (old : Forged) (e : Event) → size_of e ≤ left old → with_event old e ≡ with_piece old (part_of (timed e.time) e.value) false
event_fits old e fits = rw (le-leb (size_of e) (left old) fits) refl

pub event_full : (old : Forged) (e : Event) → left old < size_of e → with_event old e ≡ old
event_full old e full = rw (lt-leb (size_of e) (left old) full) refl

-- there is no room where there is none for the time
pub time_full : (old : Forged) (e : Event) → left old < length (lead_bytes (timed e.time)) → left old < size_of e
time_full old e full = omega (arith, full, length-append (lead_bytes (timed e.time)) (with_padding (atom_of e.value)))

-- a sequence is still open
pub awaits_still : (old : Forged) (e : Event) → AwaitsEvent old → AwaitsEvent (with_event old e)
awaits_still old e awaits =
    elim (nat_le (size_of e) (left old)) as (λ fits. AwaitsEvent (cond fits (with_piece old (part_of (timed e.time) e.value) false) old)) [
      | true ↦ record { level = awaits.level; still = refl }
      | false ↦ awaits
    ]
