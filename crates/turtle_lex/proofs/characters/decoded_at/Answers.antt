use Rattle.std.proofs.Common.{ℕ, ◌+◌, sym, ◌∙◌, subst}
use Rattle.std.proofs.lemmas.Str.{IsCharBoundary-from_drop}
use Rattle.turtle_lex.specs.Places.{Reads}
use Rattle.turtle_lex.proofs.Cursor.{char_step}
use Rattle.turtle_lex.proofs.characters.decoded_at.Goals as goal

pub range_from-requires : goal.range_from-requires
range_from-requires c = λ _. IsCharBoundary-from_drop c.args.text.now c.args.at c.requires.inside c.requires.utf8

pub returns-in-Some : goal.returns-in-Some
returns-in-Some c =
    let e = sym c.range_from.ensures.value ∙ (sym c.chars.ensures.rest ∙ c.in-Some.ensures.steps.0) in
    let s = char_step c.args.text.now c.args.at c.in-Some.found c.next.new.self.rest.now c.requires e in
    let P : ℕ → Type 0 = λ n. Reads c.args.text.now c.args.at c.in-Some.found (c.args.at + n) in
    subst P (sym c.len_utf8.ensures.value) s
