use Rattle.std.proofs.Common.{List, ℕ, take, sym, subst, arith}
use Rattle.atom_forge.specs.declared.level.Level.{Level}
use Rattle.atom_forge.specs.Forged.{IsForged, up_to}
use Rattle.atom_forge.specs.Inside.{view_of}
use Rattle.atom_forge.proofs.forge.Forge.back.Goals as goal

pub invariant_of-self : goal.invariant_of-self
invariant_of-self c =
    let inside = c.self.inside in
    let mark = c.args.mark in
    let before : IsForged (up_to mark (view_of inside)) = subst (λ f. IsForged (up_to mark f)) (sym c.self.view_is) c.requires in
    let cut =
    subst (λ (b : List ℕ). IsForged (record { room = inside.room; bytes = b; levels = take mark.levels inside.levels.items; waits = mark.waits })) (sym c.truncate.ensures.items) before in
    record {
      small = c.self.invariant.small;
      within = omega (arith, c.truncate.ensures.len, c.self.invariant.within);
      memory = omega (arith, c.truncate.ensures.capacity, c.self.invariant.memory);
      levels = omega (arith, c.truncate-2.ensures.len, c.self.invariant.levels);
      places = omega (arith, c.truncate-2.ensures.capacity, c.self.invariant.places);
      forged = subst (λ (ls : List Level). IsForged (record { room = inside.room; bytes = c.truncate.new.self.items; levels = ls; waits = mark.waits })) (sym c.truncate-2.ensures.items) cut;
    }
