use Rattle.std.specs.Prelude.{codes}
use Rattle.std.proofs.lemmas.Result.{on_ok_weaker}
use Rattle.state_file.proofs.Joined.{three}
use Rattle.state_file.proofs.writer.push_plugin.Goals as goal

pub returns : goal.returns
returns c =
    on_ok_weaker c.push_str-2.result
    (λ last. three c.args.text.now (codes "\" ;\n\tfx:plugin <") c.args.uri.now (codes "> ;\n\tstate:state [\n") _ _ c.push_str-2.new.self
    c.in_ok-push_str.ensures.ok c.in_ok-push_text.ensures last)
    c.push_str-2.ensures.ok
