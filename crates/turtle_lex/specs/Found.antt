-- What stands at a place: a token up to another, or why there is none.
use Rattle.std.specs.Prelude.{◌≡◌, ◌<◌, ◌+◌, ℕ, false, nat_eq, Option, Some, None, Result, Ok, Err, List, [], ◌∷◌, length, take}
use Rattle.std.specs.List.{starts_with}
use Rattle.turtle_grammar.specs.Tokens.{Finds, bytes_of}
use Rattle.turtle_grammar.specs.Tokens.Found.{token, unclosed, bad}
use Rattle.turtle_grammar.specs.declared.token.TokenKind.{TokenKind}
use Rattle.turtle_lex.specs.declared.stop.Stop.{Stop}
use Rattle.turtle_lex.specs.declared.stop.Stop.TheVariants.{Unclosed, Bad}
use Rattle.turtle_lex.specs.Places.{IsPlace, chars_from, Reads}

abbrev pub FindsAt : List ℕ → ℕ → Result (TokenKind × ℕ) Stop → Type 0
FindsAt text at (Ok (kind, upto)) =
    (n : ℕ) × Finds (chars_from text at) (token kind n) × (upto ≡ at + bytes_of (take n (chars_from text at))) × IsPlace text upto
FindsAt text at (Err Unclosed) = Finds (chars_from text at) unclosed
FindsAt text at (Err (Bad place)) =
    (i : ℕ) × Finds (chars_from text at) (bad i) × (i < length (chars_from text at)) × (place ≡ at + bytes_of (take i (chars_from text at)))

-- two more quotes, and the place after them, or not two more
abbrev pub OpensLong : List ℕ → ℕ → ℕ → Option ℕ → Type 0
OpensLong text at quote (Some after) = (mid : ℕ) × Reads text at quote mid × Reads text mid quote after
OpensLong text at quote None = starts_with nat_eq (chars_from text at) (quote ∷ quote ∷ []) ≡ false
