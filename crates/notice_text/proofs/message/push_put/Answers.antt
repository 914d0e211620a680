use Rattle.std.specs.Prelude.{codes}
use Rattle.std.proofs.lemmas.Result.{on_ok_weaker}
use Rattle.play_outcome.specs.Messages.{all_text}
use Rattle.session_play.specs.Patch.{body_key, properties_of}
use Rattle.notice_text.proofs.Joined.{keyed}
use Rattle.notice_text.proofs.message.push_put.Goals as goal

pub returns : goal.returns
returns c =
    on_ok_weaker c.push_all.result
    (λ last. keyed c.args.text.now (codes " put") (all_text c.args.urids.now) body_key c.with_key.result c.of.result (properties_of c.args.body.now) _ c.push_all.new.text
    c.with_key.ensures c.of.ensures c.in_ok-push_str.ensures.ok last)
    c.push_all.ensures
