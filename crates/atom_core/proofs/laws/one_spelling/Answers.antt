use Rattle.std.proofs.Common.{refl, sym, ◌∙◌}
use Rattle.atom_core.proofs.laws.one_spelling.Goals as goal

pub returns : goal.returns
returns c = record {
  some = λ v fits. record { fits = fits; bytes_are = refl };
  only = λ v a b h k. h.bytes_are ∙ sym k.bytes_are;
}
