use Rattle.std.proofs.Common.{subst}
use Rattle.session_script.specs.Line.{lines_of}
use Rattle.session_script.specs.Answer.{ReadsText}
use Rattle.session_script.proofs.Laws.{answers_broken}
use Rattle.session_script.proofs.Validity.{IsValid-read}
use Rattle.session_script.proofs.reader.read.Goals as goal

pub returns-in-Ok-clause-valid : goal.returns-in-Ok-clause-valid
returns-in-Ok-clause-valid c = IsValid-read (lines_of c.in-Ok.text.now) c.read_text.result c.read_text.ensures

pub returns-in-Ok-clause-broken : goal.returns-in-Ok-clause-broken
returns-in-Ok-clause-broken c =
    answers_broken c.args.bytes.now c.read_text.result c.in-Ok.ensures.cases.1
    (subst (λ text. ReadsText (lines_of text) c.read_text.result) c.in-Ok.ensures.cases.0 c.read_text.ensures)
