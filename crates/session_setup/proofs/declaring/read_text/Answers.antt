use Rattle.session_setup.proofs.Judged.{text-answered}
use Rattle.session_setup.proofs.declaring.read_text.Goals as goal

pub returns : goal.returns
returns c =
    text-answered c.in_ok-folder.folder c.args.text.now c.args.rows.now c.read-answer.new.store c.read-answer.result c.unless_no_memory.result
    c.in_ok-folder.ensures c.requires c.read-answer.ensures.answers c.unless_no_memory.ensures
