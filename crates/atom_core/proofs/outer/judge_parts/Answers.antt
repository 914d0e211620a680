use Rattle.std.proofs.Common.{◌≡◌, suc, ◌+◌, ◌-◌, ◌<◌, length, set, None, Some, inl, arith, refl, sym, subst, add-one, length-set}
use Rattle.std.proofs.lemmas.Result.{err_from_is_err_and}
use Rattle.atom_core.specs.declared.part.Step.TheVariants.{Past, Into}
use Rattle.atom_core.specs.Steps.{IsStep}
use Rattle.atom_core.proofs.Walks.{nth, Left, Nested, nested_most, first_fault, closes, passes, goes_in, left_none, nested_in}
use Rattle.atom_core.proofs.outer.judge_parts.Goals as goal

pub returns-then-depth-eq0 : goal.returns-then-depth-eq0
returns-then-depth-eq0 c =
    let bytes = c.args.bytes.now in
    let stack = c.loop-at.stack in
    c.loop-at.invariant.left None
    (closes bytes stack c.loop-at.depth c.loop-at.at None c.if-at-inside.true (left_none bytes stack c.loop-at.depth c.loop-at.at c.if-depth-eq0.true))

pub loop-at-preserved-then-at-inside : goal.loop-at-preserved-then-at-inside
loop-at-preserved-then-at-inside c =
    let bytes = c.args.bytes.now in
    let stack = c.loop-at.stack in
    let depth = c.loop-at.depth in
    let at = c.loop-at.at in
    let same : suc (depth - 1) ≡ depth = omega (arith, c.if-depth-eq0.false) in
    let outer : Nested stack depth at (length bytes) = subst (λ k. Nested stack depth k (length bytes)) (sym c.if-at-inside.true) c.loop-at.invariant.nested.2 in
    record {
      left = λ answer h. c.loop-at.invariant.left answer
          (closes bytes stack depth at answer c.if-at-inside.true (subst (λ d. Left bytes stack d at answer) same h));
      nested = subst (λ d. Nested stack d at (length bytes)) (sym same) outer;
      few = omega (arith, c.loop-at.invariant.few);
      long = c.loop-at.invariant.long;
    }

pub judge_part-requires-clause-ends : goal.judge_part-requires-clause-ends
judge_part-requires-clause-ends c = nested_most c.loop-at.stack c.loop-at.depth (nth c.loop-at.stack c.loop-at.depth).end (length c.args.bytes.now) c.loop-at.invariant.nested.2

pub returns-in_err-next : goal.returns-in_err-next
returns-in_err-next c =
    let bytes = c.args.bytes.now in
    let inside = nth c.loop-at.stack c.loop-at.depth in
    let fault = c.in_err-next.field-0.0 in
    let p = err_from_is_err_and c.from_residual.result c.from_residual.ensures.1 in
    let begins : c.loop-at.at < inside.end = omega (arith, c.loop-at.invariant.nested.0, c.if-at-inside.false) in
    rw (p.1, p.2)
    (c.loop-at.invariant.left (Some fault)
    (inl (fault, refl, first_fault (16 - c.loop-at.depth) bytes inside.form c.loop-at.at inside.end fault begins c.in_err-next.ensures)))

pub loop-at-preserved-in-Past : goal.loop-at-preserved-in-Past
loop-at-preserved-in-Past c =
    let bytes = c.args.bytes.now in
    let stack = c.loop-at.stack in
    let inside = nth stack c.loop-at.depth in
    let step : IsStep (16 - c.loop-at.depth) bytes inside.form c.loop-at.at inside.end (Past c.in-Past.next) =
    subst (λ s. IsStep (16 - c.loop-at.depth) bytes inside.form c.loop-at.at inside.end s) c.in-Past.is c.in_ok-next.ensures in
    record {
      left = λ answer h. c.loop-at.invariant.left answer (passes bytes stack c.loop-at.depth c.loop-at.at c.in-Past.next answer step.2 step.3 h);
      nested = (step.1, c.loop-at.invariant.nested.1, c.loop-at.invariant.nested.2);
      few = c.loop-at.invariant.few;
      long = c.loop-at.invariant.long;
    }

pub loop-at-smaller : goal.loop-at-smaller
loop-at-smaller c =
    let bytes = c.args.bytes.now in
    let inside = nth c.loop-at.stack c.loop-at.depth in
    let step : IsStep (16 - c.loop-at.depth) bytes inside.form c.loop-at.at inside.end (Into c.in-Into.container c.in-Into.first) =
    subst (λ s. IsStep (16 - c.loop-at.depth) bytes inside.form c.loop-at.at inside.end s) c.in-Into.is c.in_ok-next.ensures in
    let most = nested_most c.loop-at.stack c.loop-at.depth inside.end (length bytes) c.loop-at.invariant.nested.2 in
    omega (arith, step.begins, step.ends, step.inside, most)

pub loop-at-preserved : goal.loop-at-preserved
loop-at-preserved c =
    let bytes = c.args.bytes.now in
    let stack = c.loop-at.stack in
    let depth = c.loop-at.depth in
    let at = c.loop-at.at in
    let inside = nth stack depth in
    let x = c.in-Into.container in
    let first = c.in-Into.first in
    let step : IsStep (16 - depth) bytes inside.form at inside.end (Into x first) =
    subst (λ s. IsStep (16 - depth) bytes inside.form at inside.end s) c.in-Into.is c.in_ok-next.ensures in
    let begins : at < inside.end = omega (arith, c.loop-at.invariant.nested.0, c.if-at-inside.false) in
    let room : suc depth < length stack = omega (arith, step.deep, c.loop-at.invariant.long) in
    let one : depth + 1 ≡ suc depth = add-one depth in
    let nested = nested_in stack depth at first (length bytes) x room step.ends step.inside step.holds c.loop-at.invariant.nested in
    record {
      left = λ answer h. c.loop-at.invariant.left answer
          (goes_in bytes stack depth at first x answer room begins step (subst (λ k. Left bytes (set stack k x) (suc k) first answer) one h));
      nested = subst (λ k. Nested (set stack k x) (suc k) first (length bytes)) (sym one) nested;
      few = omega (arith, step.deep);
      long = rw length-set c.loop-at.invariant.long;
    }
