use Rattle.std.proofs.Common.{sym, subst}
use Rattle.turtle_document.specs.Answer.{IsReadAs}
use Rattle.turtle_document.specs.Meaning.{beginning}
use Rattle.turtle_read.specs.Answers.{Tells}
use Rattle.session_load.specs.Names.{file_iri}
use Rattle.session_load.specs.Bundle.{IsMisread}
use Rattle.session_load.proofs.Loading.{misread}
use Rattle.session_load.proofs.bundle_files.Folder.read_document.Goals as goal

pub returns-in-Err-clause-err : goal.returns-in-Err-clause-err
returns-in-Err-clause-err c =
    let reads = IsReadAs (beginning (file_iri c.args.self.now.number c.args.name.now) c.args.store.now) c.args.bytes.now in
    let told = subst (λ base. Tells (IsReadAs (beginning base c.args.store.now) c.args.bytes.now) c.in-Err.fault) c.in_ok-base.ensures c.in-Err.ensures.answers.0 in
    subst (IsMisread c.args.path reads) (sym c.cause.ensures) (misread c.args.path reads c.in-Err.fault told)
