use Rattle.std.proofs.Common.{List, ℕ, ◌≡◌, ◌++◌, true, sym, ap, ◌∙◌, subst, arith, append_assoc}
use Rattle.atom_forge.specs.Forged.{IsForged, IsLead}
use Rattle.atom_forge.specs.Inside.{view_of}
use Rattle.atom_forge.proofs.Stacks.{lead_put}
use Rattle.atom_forge.proofs.forge.Forge.lead.Goals as goal

pub invariant_of-self : goal.invariant_of-self
invariant_of-self c =
    let inside = c.self.inside in
    let piece = c.args.first.now ++ c.args.second.now in
    let bytes : c.put-2.new.bytes.items ≡ inside.bytes.items ++ piece =
    c.put-2.ensures.items ∙ ap (λ (b : List ℕ). b ++ c.args.second.now) c.put.ensures.items ∙ append_assoc inside.bytes.items c.args.first.now c.args.second.now in
    let forged = lead_put (view_of inside) piece (subst (λ f. IsLead f piece) (sym c.self.view_is) c.requires) c.self.invariant.forged in
    record {
      small = c.self.invariant.small;
      within = omega (arith, c.put.ensures.len, c.put-2.ensures.len, c.self.invariant.within, c.len.ensures, c.if-left-first.false, c.if-left-first-2.false);
      memory = omega (arith, c.put.ensures.capacity, c.put-2.ensures.capacity, c.self.invariant.memory);
      levels = c.self.invariant.levels;
      places = c.self.invariant.places;
      forged = subst (λ (b : List ℕ). IsForged (record { room = inside.room; bytes = b; levels = inside.levels.items; waits = true })) (sym bytes) forged;
    }
