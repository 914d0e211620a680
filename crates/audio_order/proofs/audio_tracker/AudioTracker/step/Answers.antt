use Rattle.audio_order.proofs.TrackedAudio.{audio_moves}
use Rattle.audio_order.proofs.audio_tracker.AudioTracker.step.Goals as goal

pub returns-clause-goes : goal.returns-clause-goes
returns-clause-goes c =
    audio_moves c.args.shape.now c.args.self.now c.note_front.new.fronts c.args.brought c.args.entry c.in_ok-about.field-0 c.in_ok-about.ensures.judged
    c.note_front.ensures.noted
