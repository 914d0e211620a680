use Rattle.std.proofs.Common.{ap, sym, ◌∙◌, ◌++◌, []}
use Rattle.atom_core.proofs.OneValue.{one_atom}
use Rattle.atom_core.proofs.laws.one_value.Goals as goal

pub returns : goal.returns
returns c = λ bytes v w h k.
    (one_atom 16 16 v w [] [] h.fits k.fits (ap (λ l. l ++ []) (sym h.bytes_are ∙ k.bytes_are))).0
