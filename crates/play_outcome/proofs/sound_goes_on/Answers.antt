use Rattle.play_outcome.proofs.Sounds.{sound_goes_on, sound_is_whole}
use Rattle.play_outcome.proofs.sound_goes_on.Goals as goal

pub returns-clause-more : goal.returns-clause-more
returns-clause-more g c = sound_goes_on

pub returns-clause-whole : goal.returns-clause-whole
returns-clause-whole g c = sound_is_whole
