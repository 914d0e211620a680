use Rattle.std.proofs.Common.{ℕ, Option, [], ◌∷◌, drop}
use Rattle.turtle_grammar.specs.declared.token.TokenKind.{TokenKind}
use Rattle.turtle_lex.specs.Places.{IsPlace}
use Rattle.turtle_lex.specs.Picks.{PicksAt}
use Rattle.turtle_lex.specs.Kinds.{wanting, letters}
use Rattle.turtle_lex.proofs.word.letters_at.Given as goal

abbrev pub invariant-loop-letter : goal.invariant-loop-letter
invariant-loop-letter l =
    IsPlace l.text l.at
    × ((found : Option (TokenKind × ℕ)) → PicksAt (wanting l.kind (letters l.in_any_case (drop l.letter-index l.word)) ∷ []) l.text l.at found → PicksAt (wanting l.kind (letters l.in_any_case l.word) ∷ []) l.text l.from found)
