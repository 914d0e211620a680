use Rattle.one_record.proofs.Next.{looks_are_one, beats_are_one, sends_are_not_refused}
use Rattle.one_record.proofs.next_is_seen.Goals as goal

pub returns-clause-looks : goal.returns-clause-looks
returns-clause-looks g c = looks_are_one

pub returns-clause-beats : goal.returns-clause-beats
returns-clause-beats g c = beats_are_one

pub returns-clause-sends : goal.returns-clause-sends
returns-clause-sends g c = sends_are_not_refused
