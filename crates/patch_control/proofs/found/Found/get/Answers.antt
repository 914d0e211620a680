use Rattle.patch_control.proofs.Saying.{says_get}
use Rattle.patch_control.proofs.found.Found.get.Goals as goal

pub returns : goal.returns
returns c = λ parts gathers.
    says_get parts c.args.self.now c.unwrap_or.result c.subject.result c.once.result gathers c.unwrap_or.ensures c.subject.ensures c.once.ensures
