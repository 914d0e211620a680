use Rattle.std.proofs.Common.{◌++◌, ◌-◌, ◌∷◌, [], ap, ◌∙◌}
use Rattle.step_law.specs.declared.actor.Actor.TheVariants.{Audio}
use Rattle.step_law.specs.declared.ring.Ring.TheVariants.{ControlToAudio}
use Rattle.step_law.specs.Entry.{take_of}
use Rattle.record_law.specs.Entries.{same_entry}
use Rattle.record_law.specs.Message.{History}
use Rattle.record_law.specs.Protocol.{follow}
use Rattle.record_law.specs.Task.Task.{take_from}
use Rattle.audio_order.specs.declared.audio_stage.AudioStage.TheVariants.{Taking}
use Rattle.audio_order.specs.Audio.{audio_goes, fronts_left}
use Rattle.record_terms.specs.Message.{meaning_of}
use Rattle.audio_order.proofs.AudioTasks.{times_more, wanted}
use Rattle.audio_order.proofs.audio.AudioView.taking.Goals as goal

pub returns-then-more-gt0-clause-judged : goal.returns-then-more-gt0-clause-judged
returns-then-more-gt0-clause-judged c =
    let v = c.args.self.now in
    let block = c.args.block in
    let stage = Taking block (c.args.more - 1) in
    let answer = c.expect.ensures.value ∙ ap (λ it. audio_goes (same_entry it v.entry) v.brought stage) c.take-take.ensures in
    λ (h : History) are.
    ap (λ tasks. follow v.shape.now h (meaning_of v.brought) (tasks ++ fronts_left v.shape.now block 0) v.entry)
    (times_more c.args.more (take_from Audio ControlToAudio ∷ []) c.if-more-gt0.true)
    ∙ wanted v.shape.now (same_entry (take_of Audio ControlToAudio) v.entry) v.brought stage _ c.expect.result answer
