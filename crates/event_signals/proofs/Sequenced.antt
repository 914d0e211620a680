-- A forge with the merge of some lists.
use Rattle.std.proofs.Common.{◌≡◌, ℕ, ◌+◌, ◌-◌, ◌^◌, ◌<◌, ◌≤◌, false, List, [], Result, Ok, Err, length, map, replicate, refl, sym, ap, ◌∙◌, arith}
use Rattle.std.specs.Borrow.{Bor}
use Rattle.std.proofs.Math.Logic.{∥∥₁_elim, ∥∥₁_map}
use Rattle.std.proofs.Props.{props}
use Rattle.std.proofs.lemmas.List.{length-append}
use Rattle.atom_core.specs.Form.{form_of}
use Rattle.atom_core.specs.Value.{sequence, holding}
use Rattle.atom_core.specs.Spelling.{u32, atom_of, body_of}
use Rattle.atom_forge.specs.declared.level.Holds.TheVariants as Holds
use Rattle.atom_forge.specs.declared.room.NoRoom.{NoRoom}
use Rattle.atom_forge.specs.Forged.{Forged, Puts, opening, left, with_container, with_piece, closed}
use Rattle.atom_forge.proofs.Pieces.{opening-length}
use Rattle.atom_forge.proofs.Containers.{container_is_atom}
use Rattle.atom_sequence.specs.Event.{Event, as_parts}
use Rattle.atom_sequence.specs.Lists.{HoldLists}
use Rattle.atom_sequence.specs.Merge.{merged, in_order, joined}
use Rattle.atom_sequence.specs.Cursors.{EachNeverFalls}
use Rattle.atom_sequence.specs.Views.{with_events}
use Rattle.plug_api.specs.Buffers.{begun_forge, empty_forge, event_bytes}
use Rattle.plug_api.specs.Sequences.{IsSequence}
use Rattle.session_play.specs.EventBytes.{bytes_of}
use Rattle.event_signals.specs.Merging.{events_of, AreTimed, sequence_of}
use Rattle.event_signals.proofs.AsRead.{lists_read, merged_read, bytes_read}
use Rattle.event_signals.proofs.Orders.{some_held, order_merged, fit_merged, cut_within}

-- a sequence that was opened in an empty forge with room for one
pub begun_by : (old new : Forged) (result : Result (Unit {0}) NoRoom) → 16 ≤ old.room
    → Puts (empty_forge old.room) (opening 10 0 0) (with_container (empty_forge old.room) Holds.Events (opening 10 0 0)) result new → new ≡ begun_forge old.room
begun_by old new (Ok unit) space put = put.1
begun_by old new (Err fault) space put = absurd (omega (arith, put.0, opening-length 10 0 0, space))

-- a finished sequence is the atom of its events
pub sequence_is : (room : ℕ) (events : List Event)
    → sequence_of room events ≡ record { room = room; bytes = atom_of (holding sequence (as_parts events)); levels = []; waits = false }
sequence_is room events = container_is_atom.sequence_is (empty_forge room) (as_parts events)

-- its events stand after its first 16 bytes
pub sequence_bytes : (room : ℕ) (events : List Event) → event_bytes (sequence_of room events) ≡ bytes_of events
unfolding u32
sequence_bytes room events = ap event_bytes (sequence_is room events)

pub left_begun : (room : ℕ) → left (begun_forge room) ≡ room - 16
unfolding u32
left_begun room = refl

-- forges are told apart
pub forged_set : IsSet Forged
forged_set = hlevel props

pub merged_is : (room : ℕ) (lists : List (Bor (List ℕ))) (frames : ℕ) (forge : Forged) → AreTimed frames lists
    → ((all : List (List Event)) → HoldLists lists all → EachNeverFalls all → forge ≡ with_events (begun_forge room) (merged (left (begun_forge room)) all))
    → closed forge ≡ sequence_of room (merged (room - 16) (map events_of lists))
merged_is room lists frames forge are is =
    ∥∥₁_elim (some_held frames lists are) (forged_set _ _) (λ held.
    ap closed (is held.all held.hold held.fall)
    ∙ ap (λ n. sequence_of room (merged n held.all)) (left_begun room)
    ∙ ap (λ bytes. closed (with_piece (begun_forge room) bytes false))
    (sym (bytes_read (merged (room - 16) held.all)) ∙ ap bytes_of (sym (merged_read (room - 16) held.all) ∙ ap (merged (room - 16)) (sym (lists_read lists held.all held.hold)))))

body-length : (events : List Event) → length (body_of (holding sequence (as_parts events))) ≡ 8 + length (bytes_of events)
body-length events = length-append (replicate 8 0) (bytes_of events)

pub merged_sequence : (room : ℕ) (lists : List (Bor (List ℕ))) (frames : ℕ) → AreTimed frames lists → 16 ≤ room → room < 2 ^ 32
    → IsSequence frames (sequence_of room (merged (room - 16) (map events_of lists)))
unfolding form_of
merged_sequence room lists frames are space small = record {
  closed = ap (λ (f : Forged). f.levels) (sequence_is room (merged (room - 16) (map events_of lists)));
  spelled = ∥∥₁_map (some_held frames lists are) (λ held.
      let events = merged (room - 16) held.all in
      let long = cut_within (room - 16) (in_order (joined held.all)) in
      let same : bytes_of events ≡ bytes_of (merged (room - 16) (map events_of lists)) =
      sym (bytes_read events) ∙ ap bytes_of (sym (merged_read (room - 16) held.all) ∙ ap (merged (room - 16)) (sym (lists_read lists held.all held.hold))) in
      let whole : sequence_of room events ≡ sequence_of room (merged (room - 16) (map events_of lists)) =
      ap (λ bytes. closed (with_piece (begun_forge room) bytes false)) same in (
        as_parts events,
        record {
          fits = (tt, omega (arith, body-length events, long, small, space), fit_merged frames (room - 16) held.all held.each);
          bytes_are = ap (λ (f : Forged). f.bytes) (sym whole ∙ sequence_is room events);
        },
        order_merged frames (room - 16) held.all held.each,
      ));
}
