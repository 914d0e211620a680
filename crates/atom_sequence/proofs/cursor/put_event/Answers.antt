use Rattle.std.proofs.Common.{◌≡◌, ◌-◌, ◌<◌, ◌≤◌, false, ℕ, length, sym, ap, ◌∙◌, subst, to_z, of_z, arith}
use Rattle.std.specs.Int.{w64}
use Rattle.std.proofs.lemmas.Int.{to_z-of_z}
use Rattle.std.proofs.Math.Bridge.{le_prop}
use Rattle.std.proofs.Math.Logic.{∥∥₁_elim, ∥∥₁_map, ∥∥₁_prop}
use Rattle.atom_core.specs.Value.{timed, Value}
use Rattle.atom_core.specs.Spelling.{framed, part_of}
use Rattle.atom_core.specs.Fits.{Fits}
use Rattle.atom_core.specs.Answer.{most_containers}
use Rattle.atom_forge.specs.Forged.{Forged, IsForged, left, with_piece, up_to}
use Rattle.atom_forge.specs.Laws.{IsMarkOf}
use Rattle.atom_sequence.specs.Event.{Event, size_of}
use Rattle.atom_sequence.specs.Cursors.{IsAtomOf}
use Rattle.atom_sequence.proofs.Putting.{TimePut, EventPut, spells_of, text_of, atom_full, both_put, time_back, event_less, at_time_of}
use Rattle.atom_sequence.proofs.cursor.put_event.Goals as goal

pub raw-requires-clause-body : goal.raw-requires-clause-body
raw-requires-clause-body c =
    let one : length c.event.new.self.levels ≡ 1 = ap (λ (f : Forged). length f.levels) c.in_ok-event.ensures.1 ∙ ap length c.requires.awaits.level in
    let deep : 15 ≡ most_containers - length c.event.new.self.levels = omega (arith, one) in
    ∥∥₁_map c.requires.atom (λ a.
    let spells = spells_of c.args.atom.bytes.now a.0 a.1 in
    (a.0, sym (c.kind.ensures.value a.0 spells), sym (c.body.ensures.value a.0 spells), subst (λ (n : ℕ). Fits n a.0) deep (a.1.0)))

pub back-requires : goal.back-requires
back-requires c =
    ∥∥₁_elim c.requires.atom ∥∥₁_prop (λ a.
    let e : Event = record { time = to_z w64 (of_z w64 c.args.time); value = a.0 } in
    let put : TimePut c.args.into.now c.event.new.self e _ = record { one = c.requires.awaits.level; room = c.in_ok-event.ensures.0; new_is = c.in_ok-event.ensures.1 } in
    let mark : IsMarkOf c.mark-mark.result c.args.into.now = record { len = c.mark-mark.ensures.len; levels = c.mark-mark.ensures.levels; waits = c.mark-mark.ensures.waits } in
    subst IsForged (sym (ap (up_to c.mark-mark.result) c.in-Err.ensures.1 ∙ time_back c.args.into.now c.event.new.self e _ c.mark-mark.result put mark))
    c.mark-mark.ensures.forged)

pub returns-in-Err-clause-event : goal.returns-in-Err-clause-event
returns-in-Err-clause-event c = λ value is.
    let time = to_z w64 (of_z w64 c.args.time) in
    let e : Event = record { time = time; value = value } in
    let spells = spells_of c.args.atom.bytes.now value is in
    let text = text_of c.kind.result c.body.result.now value (c.kind.ensures.value value spells) (c.body.ensures.value value spells) in
    let put : TimePut c.args.into.now c.event.new.self e _ = record { one = c.requires.awaits.level; room = c.in_ok-event.ensures.0; new_is = c.in_ok-event.ensures.1 } in
    let mark : IsMarkOf c.mark-mark.result c.args.into.now = record { len = c.mark-mark.ensures.len; levels = c.mark-mark.ensures.levels; waits = c.mark-mark.ensures.waits } in
    let back = time_back c.args.into.now c.event.new.self e _ c.mark-mark.result put mark in
    let full = atom_full c.args.into.now c.event.new.self e _ (framed c.kind.result c.body.result.now) put text c.in-Err.ensures.0 in
    at_time_of (λ x. (left c.args.into.now < size_of x) × (c.back.new.self ≡ c.args.into.now)) time c.args.time value
    (to_z-of_z w64 c.args.time c.ranges.time)
    (full, c.back.ensures ∙ ap (up_to c.mark-mark.result) c.in-Err.ensures.1 ∙ back)

both : (c : goal.In_default) (value : Value) → IsAtomOf c.args.atom value
    → EventPut c.args.into.now c.raw.new.self (record { time = to_z w64 (of_z w64 c.args.time); value = value })
both c value is =
    let time = to_z w64 (of_z w64 c.args.time) in
    let e : Event = record { time = time; value = value } in
    let spells = spells_of c.args.atom.bytes.now value is in
    let text = text_of c.kind.result c.body.result.now value (c.kind.ensures.value value spells) (c.body.ensures.value value spells) in
    let put : TimePut c.args.into.now c.event.new.self e _ = record { one = c.requires.awaits.level; room = c.in_ok-event.ensures.0; new_is = c.in_ok-event.ensures.1 } in
    both_put c.args.into.now c.event.new.self c.raw.new.self e _ (framed c.kind.result c.body.result.now) put text c.in_default.ensures.0 c.in_default.ensures.1

pub returns-clause-event : goal.returns-clause-event
returns-clause-event c = λ value is.
    let b = both c value is in
    at_time_of (λ x. (size_of x ≤ left c.args.into.now) × (c.raw.new.self ≡ with_piece c.args.into.now (part_of (timed x.time) x.value) false))
    (to_z w64 (of_z w64 c.args.time)) c.args.time value (to_z-of_z w64 c.args.time c.ranges.time) (b.room, b.new_is)

pub returns-clause-less : goal.returns-clause-less
returns-clause-less c =
    ∥∥₁_elim c.requires.atom le_prop (λ a. event_less c.args.into.now c.raw.new.self _ (both c a.0 a.1))
