use Rattle.std.proofs.Common.{ap, ◌∙◌}
use Rattle.step_law.specs.Entry.{block_of}
use Rattle.record_law.specs.Entries.{same_entry}
use Rattle.record_law.specs.Message.{History}
use Rattle.record_law.specs.Protocol.{follow}
use Rattle.audio_order.specs.declared.audio_stage.AudioStage.TheVariants.{Looking}
use Rattle.record_terms.specs.declared.message.Message.TheVariants.{Nothing}
use Rattle.audio_order.specs.Audio.{audio_goes}
use Rattle.record_terms.specs.Message.{meaning_of}
use Rattle.audio_order.proofs.AudioTasks.{blocks_more, wanted}
use Rattle.audio_order.proofs.audio.AudioView.before.Goals as goal

pub returns-then-block-self-clause-judged : goal.returns-then-block-self-clause-judged
returns-then-block-self-clause-judged c =
    let v = c.args.self.now in
    let block = c.args.block in
    let answer = c.expect.ensures.value ∙ ap (λ it. audio_goes (same_entry it v.entry) Nothing (Looking block)) c.block.ensures in
    λ (h : History) are.
    ap (λ tasks. follow v.shape.now h (meaning_of v.brought) tasks v.entry) (blocks_more v.shape.now block c.if-block-self.true)
    ∙ wanted v.shape.now (same_entry (block_of block) v.entry) Nothing (Looking block) _ c.expect.result answer
