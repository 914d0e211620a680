use Rattle.std.proofs.Common.{◌≡◌, true, sym, subst, rules, arith}
use Rattle.state_store.specs.Properties.{with_property, fit, is_mapped, are_flags, AreStorable}
use Rattle.state_store.specs.Shelf.{value_of}
use Rattle.state_store.specs.Slots.{rows_of}
use Rattle.state_store.proofs.Storing.{storable_with}
use Rattle.state_store.proofs.shelf.Shelf.store.Goals as goal

pub invariant_of-self : goal.invariant_of-self
invariant_of-self c =
    let mapped = c.self.inside.mapped in
    let rows = rows_of c.self.inside.slots.items c.self.inside.bytes.items in
    let prop = value_of c.args.kind c.args.flags c.args.bytes.now in
    let has_key : is_mapped mapped c.args.key ≡ true = search rules in
    let has_kind : is_mapped mapped c.args.kind ≡ true = search rules in
    let flags : are_flags c.args.flags ≡ true = search rules in
    let room : fit (with_property rows c.args.key prop) ≡ true = search rules in (
      subst (AreStorable mapped) (sym c.put.ensures.rows) (storable_with mapped rows c.args.key prop c.self.invariant.0 has_key has_kind flags room),
      c.put.ensures.packed,
      omega (arith, c.self.invariant.2, c.put.ensures.slots),
      omega (arith, c.self.invariant.3, c.put.ensures.bytes),
    )
