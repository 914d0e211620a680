use Rattle.atom_core.proofs.OneAnswer.{no_fault, one_fault}
use Rattle.atom_core.proofs.laws.one_answer.Goals as goal

pub returns : goal.returns
returns c = record {
  value = λ bytes f atom wrong. no_fault bytes atom.0 f atom.1 wrong;
  fault = λ bytes f g h k. one_fault bytes f g h k;
}
