use Rattle.patch_control.proofs.Saying.{says_put}
use Rattle.patch_control.proofs.found.Found.put.Goals as goal

pub returns : goal.returns
returns c = λ parts gathers.
    says_put parts c.args.self.now c.subject.result c.in-Some.body c.once.result gathers c.subject.ensures c.in-Some.is c.once.ensures
