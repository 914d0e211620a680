use Rattle.std.proofs.Common.{◌-◌, ◌<◌, ◌^◌, length, subst, sym, take, ap, ◌∙◌, arith}
use Rattle.atom_forge.specs.Forged.{Forged, IsComplete, IsForged}
use Rattle.atom_forge.specs.Inside.{view_of}
use Rattle.atom_forge.proofs.Levels.{closes}
use Rattle.atom_forge.proofs.Stacks.{header_there, pop_forged}
use Rattle.atom_forge.proofs.forge.Forge.pop.Goals as goal

pub returns-in-Some : goal.returns-in-Some
returns-in-Some c =
    let outer = c.pop.ensures.rest ∙ ap (λ n. take (n - 1) c.self.inside.levels.items) c.self.inside.levels.ok.0 in
    let still = ap (λ (f : Forged). f.waits) c.self.view_is ∙ c.requires.1 in
    rw (← c.self.view_is)
    (closes (view_of c.self.inside) c.pop.new.self.items c.in-Some.level c.set_number.new.bytes.items _ c.self.inside.waits c.in-Some.ensures.items outer
    c.set_number.ensures.items (omega (arith, c.len.ensures, c.self.inside.bytes.ok.0)) still)

pub overflow_sub-size : goal.overflow_sub-size
overflow_sub-size c =
    let inside = c.self.inside in
    omega (arith, header_there (view_of inside) c.pop.new.self.items c.in-Some.level c.in-Some.ensures.items c.self.invariant.forged, c.len.ensures, inside.bytes.ok.0)

pub overflow_sub-size-in-Some : goal.overflow_sub-size-in-Some
overflow_sub-size-in-Some c =
    let inside = c.self.inside in
    omega (arith, header_there (view_of inside) c.pop.new.self.items c.in-Some.level c.in-Some.ensures.items c.self.invariant.forged, c.len.ensures, inside.bytes.ok.0)

pub set_number-requires : goal.set_number-requires
set_number-requires c =
    let inside = c.self.inside in
    omega (arith, header_there (view_of inside) c.pop.new.self.items c.in-Some.level c.in-Some.ensures.items c.self.invariant.forged, inside.bytes.ok.0)

pub invariant_of-self : goal.invariant_of-self
invariant_of-self c =
    let inside = c.self.inside in
    let complete = subst IsComplete (sym c.self.view_is) c.requires in
    let outer = c.pop.ensures.rest ∙ ap (λ n. take (n - 1) inside.levels.items) inside.levels.ok.0 in
    let is = closes (view_of inside) c.pop.new.self.items c.in-Some.level c.set_number.new.bytes.items _ inside.waits c.in-Some.ensures.items outer
    c.set_number.ensures.items (omega (arith, c.len.ensures, inside.bytes.ok.0)) complete.1 in
    let small : length inside.bytes.items < 2 ^ 32 = omega (arith, c.self.invariant.small, c.self.invariant.within, inside.bytes.ok.0) in
    record {
      small = c.self.invariant.small;
      within = omega (arith, c.set_number.ensures.len, c.self.invariant.within);
      memory = omega (arith, c.set_number.ensures.capacity, c.self.invariant.memory);
      levels = omega (arith, c.pop.ensures.len, c.self.invariant.levels);
      places = omega (arith, c.pop.ensures.capacity, c.self.invariant.places);
      forged = subst IsForged (sym is) (pop_forged (view_of inside) complete small c.self.invariant.forged);
    }
