use Rattle.std.proofs.Common.{◌≡◌, ◌<◌, ℕ, List, ◌∷◌, [], ◌++◌, length, Bool, false, if◌then◌else◌, refl, sym, ap, ◌∙◌, subst, arith, vec_len}
use Rattle.atom_core.specs.Spelling.{u32}
use Rattle.atom_forge.specs.declared.level.Level.{Level}
use Rattle.atom_forge.specs.Forged.{opening, TakesAtom, IsForged}
use Rattle.atom_forge.specs.Inside.{view_of}
use Rattle.atom_forge.proofs.Stacks.{container_begun, few_levels}
use Rattle.atom_forge.proofs.Pieces.{opening-length, four_put}
use Rattle.atom_forge.proofs.forge.Forge.container.Goals as goal

pub returns-then-self-len-lt16 : goal.returns-then-self-len-lt16
returns-then-self-len-lt16 c =
    rw (← c.self.view_is) (omega (arith, opening-length c.args.kind c.args.first c.args.second, c.len.ensures, c.if-self-len-lt16.true), refl)

pub invariant_of-self : goal.invariant_of-self
invariant_of-self c =
    let inside = c.self.inside in
    let piece = opening c.args.kind c.args.first c.args.second in
    let bytes : c.put_number-4.new.bytes.items ≡ inside.bytes.items ++ piece =
    c.put_number-4.ensures.items
    ∙ ap (λ (b : List ℕ). b ++ u32 c.args.second) (c.put_number-3.ensures.items
    ∙ ap (λ (b : List ℕ). b ++ u32 c.args.first) (c.put_number-2.ensures.items
    ∙ ap (λ (b : List ℕ). b ++ u32 c.args.kind) c.put_number.ensures.items))
    ∙ four_put inside.bytes.items (u32 0) (u32 c.args.kind) (u32 c.args.first) (u32 c.args.second) in
    let place : c.len-at.result ≡ length inside.bytes.items = c.len-at.ensures ∙ inside.bytes.ok.0 in
    let few : vec_len inside.levels < 17 = few_levels (view_of inside) (vec_len inside.levels) inside.levels.ok.0 (subst TakesAtom (sym c.self.view_is) c.requires.takes) in
    let levels : c.push.new.self.items ≡ inside.levels.items ++ record { holds = c.args.holds; at = length inside.bytes.items } ∷ [] =
    c.push.ensures.items
    ∙ ap (λ (b : Bool). if b then inside.levels.items ++ record { holds = c.args.holds; at = c.len-at.result } ∷ [] else inside.levels.items)
    (c.push.ensures.succeeds (omega (arith, few, c.self.invariant.places)))
    ∙ ap (λ n. inside.levels.items ++ record { holds = c.args.holds; at = n } ∷ []) place in
    let forged = container_begun (view_of inside) c.args.holds piece (subst TakesAtom (sym c.self.view_is) c.requires.takes) c.requires.begins c.self.invariant.forged in
    let moved = subst (λ (b : List ℕ). IsForged (record { room = inside.room; bytes = b; levels = inside.levels.items ++ record { holds = c.args.holds; at = length inside.bytes.items } ∷ []; waits = false })) (sym bytes) forged in
    record {
      small = c.self.invariant.small;
      within = omega (arith, c.put_number.ensures.len, c.put_number-2.ensures.len, c.put_number-3.ensures.len, c.put_number-4.ensures.len, c.len.ensures, c.if-self-len-lt16.false, c.self.invariant.within);
      memory = omega (arith, c.put_number.ensures.capacity, c.put_number-2.ensures.capacity, c.put_number-3.ensures.capacity, c.put_number-4.ensures.capacity, c.self.invariant.memory);
      levels = omega (arith, c.push.ensures.upper_bound, few);
      places = omega (arith, c.push.ensures.capacity, c.self.invariant.places);
      forged = subst (λ (ls : List Level). IsForged (record { room = inside.room; bytes = c.put_number-4.new.bytes.items; levels = ls; waits = false })) (sym levels) moved;
    }
