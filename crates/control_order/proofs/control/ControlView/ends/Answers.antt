use Rattle.std.proofs.Common.{◌+◌, Bool, [], None, ap, ◌∙◌}
use Rattle.std.proofs.lemmas.List.{append-nil}
use Rattle.step_law.specs.Entry.{beat_of}
use Rattle.record_law.specs.Control.{ending}
use Rattle.record_law.specs.Entries.{same_entry}
use Rattle.record_law.specs.Message.Message.{nothing}
use Rattle.control_order.specs.declared.control_stage.ClosingStage.TheVariants.{Telling}
use Rattle.control_order.specs.declared.control_stage.ControlStage.TheVariants.{Closing}
use Rattle.record_terms.specs.declared.message.Message.TheVariants.{Nothing}
use Rattle.control_order.specs.Control.{control_goes}
use Rattle.control_order.proofs.ControlTasks.{ending_is, made_goes}
use Rattle.order_base.proofs.Follow.{made, only_made}
use Rattle.control_order.proofs.control.ControlView.ends.Goals as goal

pub returns-clause-judged : goal.returns-clause-judged
returns-clause-judged c =
    let v = c.args.self.now in
    let s = v.shape.now in
    let k = c.args.unfinished in
    let beat : Bool = same_entry (beat_of (s.blocks + 1)) v.entry in
    let stage = Closing k (Telling 1) in
    let answer = c.expect.ensures.value ∙ ap (λ it. control_goes (same_entry it v.entry) Nothing stage) c.beat-beat.ensures in
    only_made beat nothing (ending s k) [] None
    ∙ ap (made beat nothing) (append-nil (ending s k) ∙ ending_is s k)
    ∙ made_goes s beat Nothing stage c.expect.result answer
