use Rattle.session_states.proofs.Earlier.{misread_at}
use Rattle.session_states.proofs.one_file.StateFile.read_document.Goals as goal

pub returns-in-Err-clause-err : goal.returns-in-Err-clause-err
returns-in-Err-clause-err c =
    misread_at c.args.path c.args.self.now.number c.args.bytes.now c.in_ok-base.base c.args.store.now c.in-Err.fault c.cause.result
    c.in_ok-base.ensures c.requires c.in-Err.ensures.answers.0 c.cause.ensures
