-- The line that was found is read; where none was found, none is there.
use Rattle.std.proofs.Common.{◌+◌, List, length, sym, ap, ◌∙◌}
use Rattle.step_law.specs.declared.entry.Entry.{Entry}
use Rattle.step_record.proofs.LinesFound.{found_form, reads_line, none_line}
use Rattle.step_record.proofs.reader.push_next.Goals as goal

pub returns-in_ok-push-in-Some-clause-ok : goal.returns-in_ok-push-in-Some-clause-ok
returns-in_ok-push-in-Some-clause-ok c =
    reads_line c.args.steps.now c.args.text.now c.push.new.self c.in-Some.line
    (sym c.in_ok-line.ensures.value ∙ c.in-Some.is)
    (found_form c.in_ok-line.field-0 c.in-Some.line c.in-Some.is c.in_ok-line.ensures.form)
    c.in_ok-push-in-Some.ensures.ok

pub returns-in-None-clause-err : goal.returns-in-None-clause-err
returns-in-None-clause-err c =
    (ap (λ (steps : List Entry). length steps + 2) c.entries.ensures, none_line c.args.text.now (sym c.in_ok-line.ensures.value ∙ c.in-None.is))
