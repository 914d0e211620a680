use Rattle.std.proofs.Common.{ℕ, ◌-◌, length, Some, false}
use Rattle.turtle_grammar.specs.declared.token.TokenKind.{TokenKind}
use Rattle.turtle_lex.specs.Places.{IsPlace}
use Rattle.turtle_lex.specs.Picks.{PicksAt}
use Rattle.turtle_lex.specs.Tags.{gap_state}
use Rattle.turtle_lex.proofs.gap.gap_end.Given as goal

abbrev pub invariant-loop-c : goal.invariant-loop-c
invariant-loop-c l = IsPlace l.text l.at × ((x : TokenKind × ℕ) → PicksAt (gap_state l.in_comment) l.text l.at (Some x) → PicksAt (gap_state false) l.text l.from (Some x))

abbrev pub decreases-loop-c : goal.decreases-loop-c
decreases-loop-c l = length l.text - l.at
