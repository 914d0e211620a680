use Rattle.std.specs.Prelude.{codes, decimal}
use Rattle.std.proofs.lemmas.Result.{on_ok_weaker}
use Rattle.state_file.specs.Order.{uri_text}
use Rattle.state_file.proofs.Joined.{four}
use Rattle.state_file.proofs.writer.push_type.Goals as goal

pub returns : goal.returns
returns c =
    on_ok_weaker c.push_number.result
    (λ last. four c.args.text.now (codes "[ fx:type <") (uri_text c.args.urids.now c.args.prop.now.kind) (codes "> ; fx:flags ") (decimal c.args.prop.now.flags) _ _ _ c.push_number.new.text
    c.in_ok-push_str.ensures.ok c.in_ok-push_uri.ensures c.in_ok-push_str-2.ensures.ok last)
    c.push_number.ensures
