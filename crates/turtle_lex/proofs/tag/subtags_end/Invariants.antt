use Rattle.std.proofs.Common.{ℕ, ◌-◌, ◌≤◌, length, Some}
use Rattle.turtle_grammar.specs.Characters.{is_letter_or_digit}
use Rattle.turtle_grammar.specs.declared.token.TokenKind.{TokenKind}
use Rattle.turtle_lex.specs.Places.{IsPlace}
use Rattle.turtle_lex.specs.Picks.{PicksAt}
use Rattle.turtle_lex.specs.Tags.{tag_rest, HasNoMore}
use Rattle.turtle_lex.proofs.tag.subtags_end.Given as goal

abbrev pub invariant-loop-next : goal.invariant-loop-next
invariant-loop-next l =
    IsPlace l.text l.end × (l.from ≤ l.end) × HasNoMore is_letter_or_digit l.text l.end × ((x : TokenKind × ℕ) → PicksAt tag_rest l.text l.end (Some x) → PicksAt tag_rest l.text l.from (Some x))

abbrev pub decreases-loop-next : goal.decreases-loop-next
decreases-loop-next l = length l.text - l.end
