use Rattle.std.proofs.Common.{ap, ◌∙◌}
use Rattle.session_load.specs.Names.{is_inside}
use Rattle.session_load.proofs.Inside.{manifest_inside}
use Rattle.session_load.proofs.file_name.FileName.manifest.Goals as goal

pub invariant_of-result : goal.invariant_of-result
invariant_of-result c = ap is_inside c.in_ok-text.ensures ∙ manifest_inside
