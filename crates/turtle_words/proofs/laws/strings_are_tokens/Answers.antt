use Rattle.turtle_words.proofs.Tokens.{strings_are_tokens}
use Rattle.turtle_words.proofs.laws.strings_are_tokens.Goals as goal

pub returns : goal.returns
returns c = strings_are_tokens
