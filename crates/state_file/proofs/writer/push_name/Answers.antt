use Rattle.std.specs.Prelude.{codes, decimal}
use Rattle.std.proofs.lemmas.Result.{on_ok_weaker}
use Rattle.state_file.proofs.Joined.{four}
use Rattle.state_file.proofs.writer.push_name.Goals as goal

pub returns : goal.returns
returns c =
    on_ok_weaker c.push_text.result
    (λ last. four c.args.text.now (codes "\n<#save") (decimal c.args.number) (codes "> a fx:Saved ;\n\tfx:name \"") c.args.name.now _ _ _ c.push_text.new.text
    c.in_ok-push_str.ensures.ok c.in_ok-push_decimal.ensures.ok c.in_ok-push_str-2.ensures.ok last)
    c.push_text.ensures
