use Rattle.record_rules.proofs.Naming.{about_there}
use Rattle.record_rules.proofs.laws.messages_name_what_is_there.Goals as goal

pub returns : goal.returns
returns c = about_there
