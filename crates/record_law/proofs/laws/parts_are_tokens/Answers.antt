use Rattle.record_law.proofs.Tokens.{parts_are_tokens}
use Rattle.record_law.proofs.Turns.{rules_keep_tokens}
use Rattle.record_law.proofs.laws.parts_are_tokens.Goals as goal

pub returns-clause-of_history : goal.returns-clause-of_history
returns-clause-of_history c = parts_are_tokens

pub returns-clause-of_record : goal.returns-clause-of_record
returns-clause-of_record c = rules_keep_tokens
