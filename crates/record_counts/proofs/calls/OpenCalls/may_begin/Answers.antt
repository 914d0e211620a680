use Rattle.std.proofs.Common.{◌<◌, ◌==◌, ◌||◌, not, length, ltb-true, ◌∙◌, true, false, refl}
use Rattle.step_law.specs.declared.call.Call.TheVariants.{Run}
use Rattle.step_law.specs.Call.{call_number}
use Rattle.record_law.specs.Lasting.{is_active}
use Rattle.record_counts.proofs.CallLaws.{may_begin_is}
use Rattle.record_counts.proofs.Forms.{form_begin}
use Rattle.record_counts.proofs.calls.OpenCalls.may_begin.Goals as goal

pub returns-then-may_begin : goal.returns-then-may_begin
returns-then-may_begin c shape h told waits kind form =
    let within : c.args.entry.b < length shape.insts = ltb-true c.args.entry.b (length shape.insts) (form_begin shape c.args.entry form kind).1 in
    may_begin_is shape h c.args.self.now c.args.entry.b c.args.entry.a c.of-calls.result c.in-Some.call true c.is_run_in_time.result told within c.of-calls.ensures
    c.in-Some.ensures.number c.if-may_begin.ensures (c.is_run_in_time.ensures shape h waits within)

pub returns-else-may_begin : goal.returns-else-may_begin
returns-else-may_begin c shape h told waits kind form =
    let within : c.args.entry.b < length shape.insts = ltb-true c.args.entry.b (length shape.insts) (form_begin shape c.args.entry form kind).1 in
    c.if-may_begin.false
    ∙ may_begin_is shape h c.args.self.now c.args.entry.b c.args.entry.a c.of-calls.result c.in-Some.call false
    (not (call_number c.in-Some.call == call_number Run) || is_active c.args.entry.b h) told within c.of-calls.ensures c.in-Some.ensures.number c.if-may_begin.ensures refl
