use Rattle.std.proofs.Common.{sym}
use Rattle.std.proofs.lemmas.List.{get_or_past}
use Rattle.atom_core.specs.declared.form.Form.TheVariants.{Any}
use Rattle.atom_core.specs.declared.form.TheConstants.{FORMS}
use Rattle.atom_core.specs.Form.{form_of}
use Rattle.atom_core.proofs.form.form_of.Goals as goal

-- a type past the table has any bytes
pub returns-else-place-lt26 : goal.returns-else-place-lt26
unfolding form_of
returns-else-place-lt26 c = sym (get_or_past FORMS c.args.kind Any c.if-place-lt26.false)
