use Rattle.std.proofs.Common.{◌≡◌, ◌-◌, length}
use Rattle.turtle_read.specs.Readers.{config_of, inside, kept}
use Rattle.turtle_read.proofs.Bounds.{IsCounted}
use Rattle.turtle_read.proofs.Taken.{IsAt}
use Rattle.turtle_read.proofs.document.take_tokens.Given as goal

abbrev pub invariant-loop-token : goal.invariant-loop-token
invariant-loop-token l =
    IsAt (inside l.fn.reader) l.text l.lexer (config_of l.reader) (inside l.reader) × (kept l.reader ≡ kept l.fn.reader) × IsCounted (config_of l.reader) (inside l.reader)

abbrev pub decreases-loop-token : goal.decreases-loop-token
decreases-loop-token l = length l.text - l.lexer.at
