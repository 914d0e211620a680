use Rattle.turtle_words.proofs.Tokens.{iris_are_tokens}
use Rattle.turtle_words.proofs.laws.iris_are_tokens.Goals as goal

pub returns : goal.returns
returns c = iris_are_tokens
