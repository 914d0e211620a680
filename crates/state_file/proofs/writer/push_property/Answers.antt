use Rattle.std.proofs.Common.{◌≡◌, ◌++◌, subst}
use Rattle.std.specs.Prelude.{codes, OnOk}
use Rattle.std.proofs.lemmas.Result.{on_ok_weaker}
use Rattle.state_file.specs.Order.{uri_text}
use Rattle.state_file.specs.StateText.{held_text}
use Rattle.state_store.specs.Properties.{held}
use Rattle.state_file.proofs.Joined.{four}
use Rattle.state_file.proofs.writer.push_property.Goals as goal

pub returns : goal.returns
returns c =
    on_ok_weaker c.push_held.result
    (λ last. four c.args.text.now (codes "\t\t<") (uri_text c.args.urids.now c.args.key) (codes "> ") (held_text c.args.urids.now (held c.args.props.now c.args.key)) _ _ _ c.push_held.new.text
    c.in_ok-push_str.ensures.ok c.in_ok-push_uri.ensures c.in_ok-push_str-2.ensures.ok last)
    (subst (λ o. OnOk c.push_held.result (c.push_held.new.text ≡ c.push_str-2.new.self ++ held_text c.args.urids.now o)) c.retrieve.ensures c.push_held.ensures)
