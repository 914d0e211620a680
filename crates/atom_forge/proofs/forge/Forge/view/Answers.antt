use Rattle.std.proofs.Common.{ℕ, List, sym, ap, ◌∙◌, subst}
use Rattle.atom_core.specs.Answer.{IsAtom}
use Rattle.atom_forge.specs.Forged.{Forged, IsForged}
use Rattle.atom_forge.proofs.Stacks.{finished_is_atom}
use Rattle.atom_forge.proofs.forge.Forge.view.Goals as goal

pub over-requires : goal.over-requires
over-requires c =
    subst (λ (b : List ℕ). ∥ IsAtom b ∥₁) (ap (λ (f : Forged). f.bytes) (sym c.self.view_is) ∙ sym c.as_slice.ensures.value)
    (finished_is_atom c.args.self.now c.requires.whole c.requires.one (subst IsForged c.self.view_is c.self.invariant.forged))
