use Rattle.std.proofs.Common.{sym, ap, ◌∙◌}
use Rattle.session_script.specs.declared.keyword.Keyword.TheVariants.{At}
use Rattle.session_script.specs.Line.Line.{miscounted}
use Rattle.session_script.specs.Said.{said_or}
use Rattle.session_script.proofs.Forms.{patch_count}
use Rattle.session_script.proofs.statement.at_patch_set.Goals as goal

pub returns-in_err-only_word : goal.returns-in_err-only_word
returns-in_err-only_word c =
    ap (said_or (miscounted At)) c.from_residual-in_err-only_word.ensures
    ∙ sym (patch_count c.args.block.now _ _ _ _ _ _ _ c.in_ok-name.ensures c.in_ok-property.ensures c.in_ok-form.ensures c.in_err-only_word.ensures)
