-- An event is a time and a message; without room for both the time is taken back.
use Rattle.std.proofs.Common.{◌≡◌, to_z, of_z, sym, ap, ◌∙◌, subst, refl}
use Rattle.std.specs.Int.{w64}
use Rattle.std.proofs.lemmas.Int.{to_z-of_z}
use Rattle.atom_core.specs.Spelling.{kind_of, body_of, framed}
use Rattle.atom_forge.specs.Forged.{IsForged, up_to}
use Rattle.atom_forge.specs.Laws.{IsMarkOf}
use Rattle.atom_sequence.specs.Event.{Event}
use Rattle.atom_sequence.proofs.Putting.{TimePut, atom_full, both_put, time_back, at_time_of}
use Rattle.stock_tank.specs.Answers.{answer_to}
use Rattle.stock_tank.specs.Playing.{with_event}
use Rattle.stock_tank.proofs.Answering.{event_fits, event_full, time_full}
use Rattle.stock_tank.proofs.answer.write_answer.Goals as goal

pub back-requires : goal.back-requires
back-requires c =
    let e : Event = record { time = to_z w64 (of_z w64 c.args.time); value = answer_to c.args.key c.args.level c.args.wanted } in
    let put : TimePut c.args.forge.now c.event.new.self e _ = record { one = c.requires.level; room = c.in-Ok.ensures.0; new_is = c.in-Ok.ensures.1 } in
    let mark : IsMarkOf c.mark-mark.result c.args.forge.now = record { len = c.mark-mark.ensures.len; levels = c.mark-mark.ensures.levels; waits = c.mark-mark.ensures.waits } in
    subst IsForged (sym (ap (up_to c.mark-mark.result) c.in-Err.ensures.1 ∙ time_back c.args.forge.now c.event.new.self e _ c.mark-mark.result put mark))
    c.mark-mark.ensures.forged

pub returns-in-Err : goal.returns-in-Err
returns-in-Err c =
    let old = c.args.forge.now in
    let value = answer_to c.args.key c.args.level c.args.wanted in
    let e : Event = record { time = to_z w64 (of_z w64 c.args.time); value = value } in
    let put : TimePut old c.event.new.self e _ = record { one = c.requires.level; room = c.in-Ok.ensures.0; new_is = c.in-Ok.ensures.1 } in
    let mark : IsMarkOf c.mark-mark.result old = record { len = c.mark-mark.ensures.len; levels = c.mark-mark.ensures.levels; waits = c.mark-mark.ensures.waits } in
    let back = time_back old c.event.new.self e _ c.mark-mark.result put mark in
    let full = atom_full old c.event.new.self e _ (framed (kind_of value) (body_of value)) put refl c.in-Err.ensures.0 in
    at_time_of (λ x. c.back.new.self ≡ with_event old x) (to_z w64 (of_z w64 c.args.time)) c.args.time value (to_z-of_z w64 c.args.time c.ranges.time)
    (c.back.ensures ∙ ap (up_to c.mark-mark.result) c.in-Err.ensures.1 ∙ back ∙ sym (event_full old e full))

pub returns-in_default-write_message : goal.returns-in_default-write_message
returns-in_default-write_message c =
    let old = c.args.forge.now in
    let value = answer_to c.args.key c.args.level c.args.wanted in
    let e : Event = record { time = to_z w64 (of_z w64 c.args.time); value = value } in
    let put : TimePut old c.event.new.self e _ = record { one = c.requires.level; room = c.in-Ok.ensures.0; new_is = c.in-Ok.ensures.1 } in
    let b = both_put old c.event.new.self c.write_message.new.forge e _ (framed (kind_of value) (body_of value)) put refl
    c.in_default-write_message.ensures.0 c.in_default-write_message.ensures.1 in
    at_time_of (λ x. c.write_message.new.forge ≡ with_event old x) (to_z w64 (of_z w64 c.args.time)) c.args.time value
    (to_z-of_z w64 c.args.time c.ranges.time) (b.new_is ∙ sym (event_fits old e b.room))

pub returns-in_default : goal.returns-in_default
returns-in_default c =
    let old = c.args.forge.now in
    let e : Event = record { time = to_z w64 (of_z w64 c.args.time); value = answer_to c.args.key c.args.level c.args.wanted } in
    at_time_of (λ x. c.event.new.self ≡ with_event old x) (to_z w64 (of_z w64 c.args.time)) c.args.time (answer_to c.args.key c.args.level c.args.wanted)
    (to_z-of_z w64 c.args.time c.ranges.time) (c.in_default.ensures.1 ∙ sym (event_full old e (time_full old e c.in_default.ensures.0)))
