-- The end of the record has a form.
use Rattle.std.proofs.Common.{sym, subst}
use Rattle.step_law.specs.Form.{IsForm}
use Rattle.step_record.proofs.Lines.{last_form}
use Rattle.step_record.proofs.words.entry_in.Goals as goal

pub returns-then-eq-clause-form : goal.returns-then-eq-clause-form
returns-then-eq-clause-form c = subst IsForm (sym c.last.ensures) last_form
