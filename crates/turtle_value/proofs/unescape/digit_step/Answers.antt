use Rattle.std.proofs.Common.{◌≡◌, ℕ, ◌+◌, ◌*◌, sym, subst, arith, Some}
use Rattle.std.specs.Char.{digit_value}
use Rattle.turtle_value.specs.Escaping.{with_digit, Steps}
use Rattle.turtle_value.specs.declared.unescape.Escape.TheVariants as escape
use Rattle.turtle_value.proofs.Steps.{fits_u32, at_digit, at_last_digit, below_16}
use Rattle.turtle_value.proofs.unescape.digit_step.Goals as goal

pub overflow_mul-number : goal.overflow_mul-number
overflow_mul-number c = omega (arith, fits_u32 c.args.left c.args.number c.requires.some c.requires.few c.requires.small)

pub overflow_add-number : goal.overflow_add-number
overflow_add-number c =
    omega (arith, fits_u32 c.args.left c.args.number c.requires.some c.requires.few c.requires.small, c.digit.ensures, below_16 (digit_value c.args.c))

pub returns-then-left-eq1 : goal.returns-then-left-eq1
returns-then-left-eq1 c =
    let e : c.args.number * 16 + c.digit.result ≡ with_digit c.args.number c.args.c = omega (arith, c.digit.ensures) in
    let P : ℕ → Type 0 = λ x. Steps (escape.Number c.args.left c.args.number) c.args.c (Some x) escape.None in
    subst P (sym c.char_of.ensures) (at_last_digit c.args.left c.args.number c.args.c (c.args.number * 16 + c.digit.result) c.if-left-eq1.true e)

pub returns-else-left-eq1 : goal.returns-else-left-eq1
returns-else-left-eq1 c =
    let e : c.args.number * 16 + c.digit.result ≡ with_digit c.args.number c.args.c = omega (arith, c.digit.ensures) in
    at_digit c.args.left c.args.number c.args.c (c.args.number * 16 + c.digit.result) c.requires c.if-left-eq1.false e
