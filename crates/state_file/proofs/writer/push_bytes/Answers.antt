use Rattle.std.specs.Prelude.{codes}
use Rattle.std.proofs.lemmas.Result.{on_ok_weaker}
use Rattle.base64.specs.Engines.{standard}
use Rattle.base64.specs.GeneralPurpose.{encode_of}
use Rattle.state_file.proofs.Joined.{three}
use Rattle.state_file.proofs.writer.push_bytes.Goals as goal

pub returns : goal.returns
returns c =
    on_ok_weaker c.push_str-2.result
    (λ last. three c.args.text.now (codes " ; fx:bytes \"") (encode_of standard c.args.prop.now.bytes) (codes "\" ]") _ _ c.push_str-2.new.self
    c.in_ok-push_str.ensures.ok c.in_ok-push_encoded.ensures last)
    c.push_str-2.ensures.ok
