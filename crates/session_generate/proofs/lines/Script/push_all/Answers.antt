use Rattle.std.proofs.Common.{subst}
use Rattle.std.proofs.lemmas.Result.{on_ok_weaker}
use Rattle.session_generate.specs.Lines.{inst_line, cable_lines, action_line}
use Rattle.session_generate.specs.Generated.{WritesEach}
use Rattle.session_generate.proofs.lines.Script.push_all.Goals as goal

pub returns : goal.returns
returns c = on_ok_weaker c.push_actions.result (λ acted. record {
  with_insts = c.push_insts.new.self;
  with_cables = c.push_cables.new.self;
  insts = subst (λ it. WritesEach inst_line 16 it c.push_insts.new.self) c.in_ok-push_settings.ensures c.in_ok-push_insts.ensures;
  cables = subst (λ it. WritesEach cable_lines 16 it c.push_cables.new.self) c.in_ok-push_first_values.ensures c.in_ok-push_cables.ensures;
  actions = subst (λ it. WritesEach action_line 64 it c.push_actions.new.self) c.in_ok-push_outs.ensures acted;
}) c.push_actions.ensures
