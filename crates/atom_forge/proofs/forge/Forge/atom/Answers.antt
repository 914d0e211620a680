use Rattle.std.proofs.Common.{◌≡◌, ℕ, List, ◌+◌, ◌-◌, ◌<◌, ◌^◌, length, replicate, false, subst, append_assoc, ◌++◌, refl, sym, ap, ◌∙◌, ◌==◌, arith, length-append}
use Rattle.atom_core.specs.Spelling.{framed}
use Rattle.atom_forge.proofs.Pieces.{framed-length, laid-above, laid-outer, laid-inner, laid-is}
use Rattle.atom_core.proofs.Padding.{padded_above}
use Rattle.atom_core.specs.Answer.{most_containers}
use Rattle.atom_forge.specs.Forged.{Forged, laid, TakesAtom, IsBodyOf, IsForged}
use Rattle.atom_forge.specs.Inside.{view_of}
use Rattle.atom_forge.proofs.Stacks.{atom_forged}
use Rattle.atom_forge.proofs.forge.Forge.atom.Goals as goal
use Rattle.atom_forge.proofs.forge.Forge.atom.Goals.{then-left-lt8-via-then-left-lt8, then-left-lt8-via-else-left-lt8+then-left-body, then-left-lt8-via-else-left-lt8+else-left-body+then-left-body-2}
use Rattle.atom_forge.proofs.forge.Forge.atom.Goals.{then-is_empty, else-is_empty}

pub returns-then-left-lt8 : goal.returns-then-left-lt8
returns-then-left-lt8 c =
    let body = c.args.body.now ++ c.args.rest.now in
    let long = framed-length c.args.kind body in
    let both = length-append c.args.body.now c.args.rest.now in
    let above = laid-above c.self.inside.levels.items (framed c.args.kind body) in
    rw (← c.self.view_is) (
      elim c.then-left-lt8.branch [
        | then-left-lt8-via-then-left-lt8 w ↦ omega (arith, long, both, above, c.len.ensures, c.self.inside.bytes.ok.0, w.if-left-lt8)
        | then-left-lt8-via-else-left-lt8+then-left-body w ↦ omega (arith, long, both, above, c.len.ensures, c.self.inside.bytes.ok.0, w.if-left-lt8, w.if-left-body)
        | then-left-lt8-via-else-left-lt8+else-left-body+then-left-body-2 w ↦ omega (arith, long, both, above, c.len.ensures, c.self.inside.bytes.ok.0, w.if-left-lt8, w.if-left-body, w.if-left-body-2)
      ],
      refl,
    )

pub returns-then-left-whole : goal.returns-then-left-whole
returns-then-left-whole c =
    let body = c.args.body.now ++ c.args.rest.now in
    let long = framed-length c.args.kind body in
    let both = length-append c.args.body.now c.args.rest.now in
    let len = ap (λ n. n == 0) (sym c.self.inside.levels.ok.0) ∙ sym c.is_empty.ensures in
    rw (← c.self.view_is) (
      elim c.if-is_empty.branch [
        | then-is_empty w ↦ omega (arith, long, both, laid-outer c.self.inside.levels.items (framed c.args.kind body) (len ∙ w.if-is_empty.true), c.len.ensures, c.self.inside.bytes.ok.0, w.whole-is, c.if-left-whole.true)
        | else-is_empty w ↦ omega (arith, long, both, laid-inner c.self.inside.levels.items (framed c.args.kind body) (len ∙ w.if-is_empty.false), c.len.ensures, c.self.inside.bytes.ok.0, w.padded-whole.ensures, w.whole-is, c.if-left-whole.true)
      ],
      refl,
    )

pub invariant_of-self : goal.invariant_of-self
invariant_of-self c =
    let inside = c.self.inside in
    let body = c.args.body.now ++ c.args.rest.now in
    let text = framed c.args.kind body in
    let levels = inside.levels.items in
    let size = 8 + length c.args.body.now + length c.args.rest.now in
    let long = framed-length c.args.kind body in
    let both = length-append c.args.body.now c.args.rest.now in
    let len = ap (λ n. n == 0) (sym inside.levels.ok.0) ∙ sym c.is_empty.ensures in
    let count : (c.if-is_empty.whole - size) + length text ≡ length (laid levels text) =
    elim c.if-is_empty.branch [
      | then-is_empty w ↦ omega (arith, long, both, laid-outer levels text (len ∙ w.if-is_empty.true), w.whole-is)
      | else-is_empty w ↦ omega (arith, long, both, laid-inner levels text (len ∙ w.if-is_empty.false), padded_above size, w.padded-whole.ensures, w.whole-is)
    ] in
    let bytes : c.put_zeros.new.bytes.items ≡ inside.bytes.items ++ laid levels text =
    c.put_zeros.ensures.items
    ∙ ap (λ (b : List ℕ). b ++ replicate (c.if-is_empty.whole - size) 0) c.put_atom.ensures.items
    ∙ append_assoc inside.bytes.items text (replicate (c.if-is_empty.whole - size) 0)
    ∙ ap (λ (b : List ℕ). inside.bytes.items ++ b) (laid-is levels text (c.if-is_empty.whole - size) count) in
    let small : length body < 2 ^ 32 = omega (arith, c.self.invariant.small, c.len.ensures, both, c.if-left-lt8.false, c.if-left-body.false, c.if-left-body-2.false) in
    let takes = subst TakesAtom (sym c.self.view_is) c.requires.takes in
    let is = subst (λ (f : Forged). IsBodyOf (most_containers - length f.levels) c.args.kind body) (sym c.self.view_is) (c.requires.body small) in
    let forged = atom_forged (view_of inside) c.args.kind body takes is c.self.invariant.forged in
    record {
      small = c.self.invariant.small;
      within = omega (arith, c.put_atom.ensures.len, c.put_zeros.ensures.len, c.self.invariant.within, c.len.ensures, c.if-left-whole.false, count, long, both, laid-above levels text);
      memory = omega (arith, c.put_atom.ensures.capacity, c.put_zeros.ensures.capacity, c.self.invariant.memory);
      levels = c.self.invariant.levels;
      places = c.self.invariant.places;
      forged = subst (λ (b : List ℕ). IsForged (record { room = inside.room; bytes = b; levels = levels; waits = false })) (sym bytes) forged;
    }
