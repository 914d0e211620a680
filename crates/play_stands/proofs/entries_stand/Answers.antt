use Rattle.play_stands.proofs.Entries.{take_stands, notice_stands, plain_stands}
use Rattle.play_stands.proofs.entries_stand.Goals as goal

pub returns-clause-takes : goal.returns-clause-takes
returns-clause-takes g c = take_stands

pub returns-clause-notices : goal.returns-clause-notices
returns-clause-notices g c = notice_stands

pub returns-clause-plain : goal.returns-clause-plain
returns-clause-plain g c = plain_stands
