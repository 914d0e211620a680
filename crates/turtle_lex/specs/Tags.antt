-- What may follow in a language tag, and in a gap.
use Rattle.std.specs.Prelude.{◌≡◌, ◌<◌, ℕ, Bool, true, false, not, Option, Some, None, List, [], ◌∷◌}
use Rattle.turtle_grammar.specs.Pattern.{Pattern, one, ◌then◌, ◌or◌, many, maybe, some, char}
use Rattle.turtle_grammar.specs.Characters.{is_letter, is_letter_or_digit, is_white, is_line_end}
use Rattle.turtle_grammar.specs.Terminals.{comment}
use Rattle.turtle_grammar.specs.declared.token.TokenKind.{TokenKind}
use Rattle.turtle_grammar.specs.declared.token.TokenKind.TheVariants.{LanguageTag, Dot}
use Rattle.turtle_lex.specs.Places.{IsPlace, Reads}
use Rattle.turtle_lex.specs.Picks.{Candidate, PicksAt, all_after, alive}

abbrev pub subtags : Pattern
subtags = many (char 45 then some (one is_letter_or_digit))

-- after `@`, after a letter, after a hyphen, after a letter or digit that follows a hyphen
abbrev pub tag_start : List Candidate
tag_start = record { kind = LanguageTag; wanted = some (one is_letter) then subtags } ∷ []

abbrev pub tag_letters : List Candidate
tag_letters = record { kind = LanguageTag; wanted = many (one is_letter) then subtags } ∷ []

abbrev pub tag_hyphen : List Candidate
tag_hyphen = record { kind = LanguageTag; wanted = some (one is_letter_or_digit) then subtags } ∷ []

abbrev pub tag_rest : List Candidate
tag_rest = record { kind = LanguageTag; wanted = many (one is_letter_or_digit) then subtags } ∷ []

-- no character of the class stands at the place
abbrev pub HasNoMore : (ℕ → Bool) → List ℕ → ℕ → Type 0
HasNoMore class text at = (c next : ℕ) → Reads text at c next → class c ≡ false

-- A hyphen with a letter or digit goes on with the tag. Without it the tag ends, where no letter or digit goes on.
abbrev pub GoesOnWithHyphen : List ℕ → ℕ → Option ℕ → Type 0
GoesOnWithHyphen text at (Some next) =
    IsPlace text next × (at < next)
    × ((x : TokenKind × ℕ) → PicksAt tag_rest text next (Some x) → PicksAt tag_letters text at (Some x))
    × ((x : TokenKind × ℕ) → PicksAt tag_rest text next (Some x) → PicksAt tag_rest text at (Some x))
GoesOnWithHyphen text at None =
    (HasNoMore is_letter text at → PicksAt tag_letters text at (Some (LanguageTag, at)))
    × (HasNoMore is_letter_or_digit text at → PicksAt tag_rest text at (Some (LanguageTag, at)))

-- White space, or the rest of a comment. The kind stands for any.
abbrev pub spaces : Pattern
spaces = many (one is_white or (comment then one is_line_end)) then maybe comment

abbrev pub gap_state : Bool → List Candidate
gap_state false = record { kind = Dot; wanted = spaces } ∷ []
gap_state true = record { kind = Dot; wanted = (many (one (λ c. not (is_line_end c))) then one is_line_end then many (one is_white or (comment then one is_line_end)) then maybe comment) or many (one (λ c. not (is_line_end c))) } ∷ []

-- what a character leads to in a gap
abbrev pub GapSteps : ℕ → Bool → Option Bool → Type 0
GapSteps c in_comment (Some next) = alive (all_after c (gap_state in_comment)) ≡ gap_state next
GapSteps c in_comment None = alive (all_after c (gap_state in_comment)) ≡ []

-- what is picked after characters that change nothing in a gap is picked before them
abbrev pub GapCarries : Bool → List ℕ → ℕ → ℕ → Type 0
GapCarries in_comment text at upto = (x : TokenKind × ℕ) → PicksAt (gap_state in_comment) text upto (Some x) → PicksAt (gap_state in_comment) text at (Some x)
