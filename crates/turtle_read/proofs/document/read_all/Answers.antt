use Rattle.std.proofs.Common.{List, sym, subst, ◌∙◌}
use Rattle.triple_store.specs.declared.term.Triple.{Triple}
use Rattle.turtle_document.specs.Answer.{IsReadAs}
use Rattle.turtle_document.specs.Answer.Outcome.{document}
use Rattle.turtle_read.specs.Readers.{inside}
use Rattle.turtle_read.proofs.document.read_all.Goals as goal

pub returns-in-Ok-clause-ok : goal.returns-in-Ok-clause-ok
returns-in-Ok-clause-ok c =
    let P : List Triple → Type 0 = λ rows. IsReadAs (inside c.args.reader) c.args.text.now (document rows) in
    subst P (sym (c.replace.ensures.after ∙ c.into_store.ensures)) c.in-Ok.ensures.ok
