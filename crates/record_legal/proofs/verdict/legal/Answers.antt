use Rattle.std.proofs.Common.{◌+◌, ◌<◌, ◌^◌, Bool, false, List, [], length, refl, sym, ap, subst, ◌∙◌, arith}
use Rattle.step_law.specs.declared.entry.Entry.{Entry}
use Rattle.record_law.specs.Verdict.{verdict_from}
use Rattle.record_legal.proofs.Reading.{IsReading, has_judged, goes_on, breaks, is_lawful, lacks_end, none_left}
use Rattle.record_legal.proofs.verdict.legal.Goals as goal

pub loop-entry-init : goal.loop-entry-init
loop-entry-init c = record {
  is_judge = c.in_ok-judge.ensures.judge;
  before = [];
  few = omega (arith, c.entries-later.type_inv.1);
  judged = c.in_ok-judge.ensures.judged;
  decides = ap (verdict_from c.args.shape.now [] 2 false) (sym c.entries-later.ensures);
  place = refl;
}

pub broken_at-requires-clause-judge : goal.broken_at-requires-clause-judge
broken_at-requires-clause-judge c = c.loop-entry.invariant.is_judge

pub broken_at-requires-clause-judged : goal.broken_at-requires-clause-judged
broken_at-requires-clause-judged c =
    has_judged c.args.shape.now c.args.steps.now c.loop-entry.judge c.loop-entry.line c.loop-entry.ended c.loop-entry.later.now c.loop-entry.invariant

pub returns-in-Some-broken_at-clause-err : goal.returns-in-Some-broken_at-clause-err
returns-in-Some-broken_at-clause-err c =
    let r : IsReading c.args.shape.now c.args.steps.now c.loop-entry.judge c.loop-entry.line c.loop-entry.ended c.loop-entry.later.now = c.loop-entry.invariant in
    breaks c.args.shape.now c.args.steps.now c.loop-entry.judge c.loop-entry.line c.loop-entry.ended c.loop-entry.later.now r c.in-Some.entry.now c.in-Some.rest.now c.in-Some-broken_at.rule
    c.in-Some.ensures.cases.0 (sym (c.broken_at.ensures.broken r.before (omega (arith, r.few)) r.judged) ∙ c.in-Some-broken_at.is)

pub overflow_add-line : goal.overflow_add-line
overflow_add-line c =
    let r : IsReading c.args.shape.now c.args.steps.now c.loop-entry.judge c.loop-entry.line c.loop-entry.ended c.loop-entry.later.now = c.loop-entry.invariant in
    omega (arith, r.few, r.place)

pub loop-entry-smaller : goal.loop-entry-smaller
loop-entry-smaller c = omega (arith, ap (λ (l : List Entry). length l) c.in-Some.ensures.cases.0)

pub loop-entry-preserved : goal.loop-entry-preserved
loop-entry-preserved c =
    let r : IsReading c.args.shape.now c.args.steps.now c.loop-entry.judge c.loop-entry.line c.loop-entry.ended c.loop-entry.later.now = c.loop-entry.invariant in
    let few : length r.before < 2 ^ 63 = omega (arith, r.few) in
    let none = c.in_default-broken_at.is in
    subst (λ (ended : Bool). IsReading c.args.shape.now c.args.steps.now c.broken_at.new.judge (c.loop-entry.line + 1) ended c.in-Some.rest.now) (sym c.is_kind-ended.ensures)
    (goes_on c.args.shape.now c.args.steps.now c.loop-entry.judge c.loop-entry.line c.loop-entry.ended c.loop-entry.later.now r c.in-Some.entry.now c.in-Some.rest.now c.broken_at.new.judge
    c.in-Some.ensures.cases.0 (sym (c.broken_at.ensures.broken r.before few r.judged) ∙ none) (c.broken_at.ensures.judge none) (c.broken_at.ensures.judged r.before few none r.judged))

pub returns-then-ended-clause-ok : goal.returns-then-ended-clause-ok
returns-then-ended-clause-ok c =
    is_lawful c.args.shape.now c.args.steps.now c.loop-entry.judge c.loop-entry.line c.loop-entry.ended c.loop-entry.later.now c.loop-entry.invariant (none_left c.loop-entry.later.now c.in_default.ensures.cases) c.if-ended.true

pub returns-clause-err : goal.returns-clause-err
returns-clause-err c =
    lacks_end c.args.shape.now c.args.steps.now c.loop-entry.judge c.loop-entry.line c.loop-entry.ended c.loop-entry.later.now c.loop-entry.invariant (none_left c.loop-entry.later.now c.in_default.ensures.cases) c.if-ended.false
