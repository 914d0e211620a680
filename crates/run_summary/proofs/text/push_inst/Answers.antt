use Rattle.std.proofs.Common.{List, ℕ, ◌++◌, filter, ap, ◌∙◌, append_assoc}
use Rattle.std.proofs.lemmas.Result.{IfOk-equal}
use Rattle.play_outcome.specs.Summary.{is_shown}
use Rattle.run_summary.specs.Parts.{inst_line, value_lines}
use Rattle.run_summary.proofs.text.push_inst.Goals as goal

pub returns : goal.returns
returns c =
    let values = value_lines c.name_of-name.result.now (filter is_shown c.ports_of.result.now) c.values_at.result.now in
    IfOk-equal c.push_values.result _ _ _ c.push_values.ensures
    (ap (λ (text : List ℕ). text ++ values) c.in_ok-push_counts.ensures
    ∙ append_assoc c.args.text.now (inst_line c.name_of-name.result.now c.of.result) values
    ∙ (λ t. c.args.text.now
    ++ (inst_line (c.name_of-name.ensures t) (c.of.ensures t) ++ value_lines (c.name_of-name.ensures t) (filter is_shown (c.ports_of.ensures t)) (c.values_at.ensures t))))
