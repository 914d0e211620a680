use Rattle.std.proofs.Common.{◌≡◌, ℕ, ◌-◌, ◌+◌, ◌≤◌, List, length, take, drop, sym, ap, ◌∙◌, subst, arith}
use Rattle.std.proofs.lemmas.List.{drop-drop, take-take, length-take-le, length-drop, take_all}
use Rattle.std.specs.Str.{chars, IsUtf8}
use Rattle.turtle_value.proofs.Ends.{front_step}
use Rattle.turtle_value.proofs.unescape.within.Goals as goal

pub loop-init : goal.loop-init
loop-init c = (subst IsUtf8 (sym c.chars-rest.ensures.rest) c.utf8.text, ap chars c.chars-rest.ensures.rest)

pub loop-preserved : goal.loop-preserved
loop-preserved c =
    let s = front_step c.loop.rest c.next.new.self c.next.result c.loop.invariant.0 c.next.ensures.steps.0 in
    (s.0, s.1 ∙ (ap (λ x. drop 1 x) c.loop.invariant.1 ∙ drop-drop 1 c.loop.counter (chars c.args.text.now)))

pub loop-2-init : goal.loop-2-init
loop-2-init c =
    let all = drop c.args.count (chars c.args.text.now) in
    let n : c.loop.counter ≡ c.args.count = omega (arith, c.loop.auto.counter-end, c.loop-test.false) in
    (c.as_str-inner.utf8, ap chars c.as_str-inner.ensures ∙ (c.loop.invariant.1 ∙ (ap (λ k. drop k (chars c.args.text.now)) n ∙ sym (take_all (length all - 0) all (omega arith)))))

shorter : (all : List ℕ) (k : ℕ) → take (length (take (length all - k) all) - 1) (take (length all - k) all) ≡ take (length all - (k + 1)) all
shorter all k =
    let n : length (take (length all - k) all) - 1 ≡ length all - (k + 1) = omega (arith, length-take-le (length all - k) all (omega arith)) in
    ap (λ m. take m (take (length all - k) all)) n ∙ take-take (length all - (k + 1)) (length all - k) all (omega arith)

inner : (n k : ℕ) (text : List ℕ) → n ≤ k → k ≤ n → take (length (drop n text) - k) (drop n text) ≡ take (length text - (n + n)) (drop n text)
inner n k text p q = ap (λ m. take m (drop n text)) (omega (arith, p, q, length-drop n text))

pub loop-2-preserved : goal.loop-2-preserved
loop-2-preserved c =
    let all = drop c.args.count (chars c.args.text.now) in
    (c.without_last-inner.utf8, c.without_last-inner.ensures ∙ (ap (λ x. take (length x - 1) x) c.loop-2.invariant.1 ∙ shorter all c.loop-2.counter))

pub returns : goal.returns
returns c = c.loop-2.invariant.1 ∙ inner c.args.count c.loop-2.counter (chars c.args.text.now) c.loop-2-test.false c.loop-2.auto.counter-end

pub without_last-inner-requires-text-text : goal.without_last-inner-requires-text-text
without_last-inner-requires-text-text c = λ _. c.loop-2.invariant.0

pub returns-text : goal.returns-text
returns-text c = c.loop-2.invariant.0
