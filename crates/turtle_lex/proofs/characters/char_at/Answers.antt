use Rattle.std.proofs.Common.{◌≡◌, ℕ, ◌+◌, ◌<◌, length, get_or, sym, ap, ◌∙◌, subst, arith}
use Rattle.turtle_lex.specs.Places.{Reads}
use Rattle.turtle_lex.proofs.Cursor.{from_end, ascii_step}
use Rattle.turtle_lex.proofs.characters.char_at.Goals as goal

pub returns-then-at-bytes : goal.returns-then-at-bytes
returns-then-at-bytes c = from_end c.args.text.now c.args.at (omega arith)

pub returns-then-byte-lt128 : goal.returns-then-byte-lt128
returns-then-byte-lt128 c =
    let bytes_is = c.as_bytes-bytes.ensures.value in
    let text = c.args.text.now in
    let same : c.from.result ≡ get_or text c.args.at 0 = c.from.ensures ∙ ap (λ x. get_or x c.args.at 0) bytes_is in
    let small : get_or text c.args.at 0 < 128 = omega (arith, c.if-byte-lt128.true, ap (λ x. get_or x c.args.at 0) bytes_is) in
    let within : c.args.at < length text = omega (arith, c.if-at-bytes.false, ap length bytes_is) in
    let P : ℕ → Type 0 = λ n. Reads text c.args.at n (c.args.at + 1) in
    subst P (sym same) (ascii_step text c.args.at c.requires within small)
