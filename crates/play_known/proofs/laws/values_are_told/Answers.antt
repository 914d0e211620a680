use Rattle.play_known.proofs.Tells.{takes_bring_the_oldest, notices_are_told, plain_have_no_value, notices_keep_values, others_keep_values}
use Rattle.play_known.proofs.laws.values_are_told.Goals as goal

pub returns-clause-takes : goal.returns-clause-takes
returns-clause-takes g c = takes_bring_the_oldest

pub returns-clause-notices : goal.returns-clause-notices
returns-clause-notices g c = notices_are_told

pub returns-clause-plain : goal.returns-clause-plain
returns-clause-plain g c = plain_have_no_value

pub returns-clause-notices_keep : goal.returns-clause-notices_keep
returns-clause-notices_keep g c = notices_keep_values

pub returns-clause-others_keep : goal.returns-clause-others_keep
returns-clause-others_keep g c = others_keep_values
