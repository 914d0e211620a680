use Rattle.std.proofs.Common.{◌∙◌, ap}
use Rattle.std.proofs.lemmas.Result.{IfOk-equal}
use Rattle.session_generate.specs.Lines.{Written, after_draw, action_at}
use Rattle.session_generate.proofs.Actions.{chosen}
use Rattle.session_generate.proofs.lines.Script.push_action.Goals as goal

pub returns-in-0 : goal.returns-in-0
returns-in-0 c =
    let old : Written = record { state = c.self.inside.draws.state; text = c.self.inside.text } in
    IfOk-equal c.push_drawn_value.result _ _ _ c.push_drawn_value.ensures
    (chosen 0 c.args.block c.draw-choice.new.self.state c.draw-choice.result c.push_numbered.new.text old c.draw-choice.ensures.state c.draw-choice.ensures.drawn c.in-0.is c.in_ok-push_numbered.ensures
    ∙ ap (λ (it : Written). action_at c.args.block (after_draw it)) c.self.view_is)

pub returns-in-1 : goal.returns-in-1
returns-in-1 c =
    let old : Written = record { state = c.self.inside.draws.state; text = c.self.inside.text } in
    IfOk-equal c.push_drawn_value-in-1.result _ _ _ c.push_drawn_value-in-1.ensures
    (chosen 1 c.args.block c.draw-choice.new.self.state c.draw-choice.result c.push_numbered.new.text old c.draw-choice.ensures.state c.draw-choice.ensures.drawn c.in-1.is c.in_ok-push_numbered.ensures
    ∙ ap (λ (it : Written). action_at c.args.block (after_draw it)) c.self.view_is)
