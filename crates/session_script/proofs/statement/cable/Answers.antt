use Rattle.std.proofs.Common.{sym, ap, ◌∙◌}
use Rattle.session_script.specs.declared.keyword.Keyword.TheVariants.{Cable}
use Rattle.session_script.specs.Line.Line.{miscounted}
use Rattle.session_script.specs.Said.{said_or}
use Rattle.session_script.proofs.Forms.{cable_long}
use Rattle.session_script.proofs.statement.cable.Goals as goal

pub returns-in_err-last_word : goal.returns-in_err-last_word
returns-in_err-last_word c =
    ap (said_or (miscounted Cable)) c.from_residual-in_err-last_word.ensures
    ∙ sym (cable_long _ _ _ _ _ _ _ _ _ c.in_ok-source.ensures c.in_ok-output.ensures c.in_ok-target.ensures c.in_ok-input.ensures c.in_err-last_word.ensures)
