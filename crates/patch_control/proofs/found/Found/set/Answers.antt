use Rattle.patch_control.proofs.Saying.{says_set}
use Rattle.patch_control.proofs.found.Found.set.Goals as goal

pub returns : goal.returns
returns c = λ parts gathers.
    says_set parts c.args.self.now c.in-Some.property c.subject.result c.in-Some-item.value c.once.result gathers c.in-Some.is c.subject.ensures c.in-Some-item.is
    c.once.ensures
