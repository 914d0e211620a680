use Rattle.std.proofs.Common.{◌++◌, ◌-◌, ap, ◌∙◌}
use Rattle.step_law.specs.declared.actor.Actor.TheVariants.{Audio}
use Rattle.step_law.specs.declared.call.Call.TheVariants.{EndRun}
use Rattle.step_law.specs.declared.ring.Ring.TheVariants.{Responses}
use Rattle.step_law.specs.Entry.{take_of}
use Rattle.record_law.specs.Audio.{delivery, whole_call}
use Rattle.record_law.specs.Entries.{same_entry}
use Rattle.record_law.specs.Message.{History}
use Rattle.record_law.specs.Message.Message.{nothing}
use Rattle.record_law.specs.Protocol.{follow}
use Rattle.audio_order.specs.declared.audio_stage.AudioStage.TheVariants.{Within}
use Rattle.audio_order.specs.declared.audio_stage.RunStage.TheVariants.{Responding}
use Rattle.audio_order.specs.Audio.{audio_goes, runs_left}
use Rattle.record_terms.specs.Message.{meaning_of}
use Rattle.audio_order.proofs.AudioTasks.{times_more, wanted}
use Rattle.audio_order.proofs.audio.AudioView.delivering.Goals as goal

pub returns-then-more-gt0-clause-judged : goal.returns-then-more-gt0-clause-judged
returns-then-more-gt0-clause-judged c =
    let v = c.args.self.now in
    let turn = c.args.turn in
    let stage = Within turn (Responding (c.args.more - 1)) in
    let answer = c.within.ensures.value ∙ ap (λ it. audio_goes (same_entry it v.entry) v.brought stage) c.take-take.ensures in
    λ (h : History) are.
    ap (λ tasks. follow v.shape.now h (meaning_of v.brought) ((tasks ++ whole_call Audio EndRun turn.inst nothing) ++ runs_left v.shape.now turn.block turn.next) v.entry)
    (times_more c.args.more (delivery turn.inst) c.if-more-gt0.true)
    ∙ wanted v.shape.now (same_entry (take_of Audio (Responses turn.inst)) v.entry) v.brought stage _ c.within.result answer
