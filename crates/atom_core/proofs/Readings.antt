-- What the readers of a view give, of any value that its bytes spell.
use Rattle.std.proofs.Common.{◌≡◌, ℕ, ◌+◌, ◌-◌, ◌≤◌, true, false, List, length, drop, take, slice_range, Option, Some, ℤ, refl, sym, ap, ◌∙◌, subst, arith, ◌++◌, replicate}
use Rattle.std.specs.Int.{w32, w64, from_le_bytes, cast_signed}
use Rattle.std.proofs.lemmas.Bool.{eqb-true, leb-true}
use Rattle.std.proofs.lemmas.List.{take_all, get_or-drop, length-drop, take_rest, length-append, drop_at}
use Rattle.lv_base.specs.declared.number.Fixed.{Fixed}
use Rattle.atom_core.specs.Form.{form_of, allows_size, is_container}
use Rattle.atom_core.specs.Place.{number_at, wide_at, size_at, kind_at, Stands}
use Rattle.atom_core.specs.Value.{tuple, object, sequence, Value, plain, holding, Parts}
use Rattle.atom_core.specs.Spelling.{plain_kind, kind_of, body_of, atom_of, u32, parts_of}
use Rattle.atom_core.specs.Fits.{Fits}
use Rattle.atom_core.specs.Content.{IsOwn, form_at}
use Rattle.atom_core.specs.Answer.{Spells}
use Rattle.atom_core.specs.Readers.{int_of, long_of, fixed_of, urid_of, text_of}
use Rattle.atom_core.specs.Atoms.{SpellAtoms, parts_in, HoldsAtoms, SpellProperties, properties_in, HoldsProperties, SpellEvents, events_in, HoldsEvents}
use Rattle.atom_core.proofs.OneValue.{plain_by, plain_from, plain_back, plain_leaf, container_holds}
use Rattle.atom_core.proofs.Numbers.{u32-length}
use Rattle.atom_core.proofs.Reading.{atom_says, own_well}

-- what bytes that spell a value say of it
pub record Says (bytes : List ℕ) (v : Value) : Type 0 where
  pub kind : kind_at bytes 0 ≡ kind_of v
  pub body : drop 8 bytes ≡ body_of v
  pub size : 8 + size_at bytes 0 ≡ length bytes
  pub own : IsOwn bytes 0 (form_at bytes 0)

pub says : (bytes : List ℕ) (v : Value) → Spells bytes v → Says bytes v
says bytes v spells =
    let all : slice_range bytes 0 (length bytes) ≡ bytes = take_all (length bytes - 0) bytes (omega arith) in
    let size : length bytes ≡ length (atom_of v) = ap length spells.bytes_are in
    let stands : Stands bytes 0 (length bytes) (atom_of v) = record { ends = omega (arith, size); text_is = all ∙ spells.bytes_are } in
    let s = atom_says 16 bytes 0 (length bytes) v spells.fits stands in
    record {
      kind = s.kind;
      body = sym (take_rest bytes 8) ∙ s.body.text_is;
      size = omega (arith, s.last);
      own = own_well 16 bytes 0 (length bytes) v spells.fits stands;
    }

apart : false ≡ true → ⊥
apart e = absurd cc

-- a value of a type that holds no atoms is read back from its type and its body
leaf_is : (n : ℕ) (v : Value) (kind : ℕ) → Fits n v → kind_of v ≡ kind → is_container (form_of kind) ≡ false → v ≡ plain (plain_from kind (body_of v))
leaf_is n (plain p) kind fits e leaf = ap plain (sym (plain_back p fits.0) ∙ ap (λ k. plain_from k (body_of (plain p))) e)
leaf_is n (holding c ps) kind fits e leaf =
    absurd (apart (sym leaf ∙ ap (λ k. is_container (form_of k)) (sym e) ∙ container_holds c))

sized : (bytes : List ℕ) (v : Value) (kind : ℕ) → Says bytes v → kind_at bytes 0 ≡ kind → allows_size (form_of kind) (size_at bytes 0) (number_at bytes 8) ≡ true
sized bytes v kind s e = ap (λ k. allows_size (form_of k) (size_at bytes 0) (number_at bytes 8)) (sym e) ∙ s.own.allowed

four_in : (bytes : List ℕ) → number_at bytes 8 ≡ from_le_bytes w32 (drop 8 bytes)
unfolding number_at
four_in bytes = simp get_or-drop refl

eight_in : (bytes : List ℕ) → wide_at bytes 8 ≡ from_le_bytes w64 (drop 8 bytes)
unfolding wide_at
eight_in bytes = simp get_or-drop refl

module _ (bytes : List ℕ) (v : Value) (spells : Spells bytes v) where
  here : Says bytes v
  here = says bytes v spells

  number : number_at bytes 8 ≡ from_le_bytes w32 (body_of v)
  number = four_in bytes ∙ ap (from_le_bytes w32) here.body

  wide : wide_at bytes 8 ≡ from_le_bytes w64 (body_of v)
  wide = eight_in bytes ∙ ap (from_le_bytes w64) here.body

  pub int_long : kind_at bytes 0 ≡ 1 → 12 ≤ length bytes
  unfolding form_of
  int_long e = omega (arith, here.size, eqb-true (size_at bytes 0) 4 (sized bytes v 1 here e))

  pub int_is : kind_at bytes 0 ≡ 1 → Some (cast_signed w32 (number_at bytes 8)) ≡ int_of v
  unfolding form_of plain_by
  int_is e = ap (λ n. Some (cast_signed w32 n)) number ∙ sym (ap int_of (leaf_is 16 v 1 spells.fits (sym here.kind ∙ e) refl))

  pub long_long : kind_at bytes 0 ≡ 2 → 16 ≤ length bytes
  unfolding form_of
  long_long e = omega (arith, here.size, eqb-true (size_at bytes 0) 8 (sized bytes v 2 here e))

  pub long_is : kind_at bytes 0 ≡ 2 → Some (cast_signed w64 (wide_at bytes 8)) ≡ long_of v
  unfolding form_of plain_by
  long_is e = ap (λ n. Some (cast_signed w64 n)) wide ∙ sym (ap long_of (leaf_is 16 v 2 spells.fits (sym here.kind ∙ e) refl))

  pub fixed_long : kind_at bytes 0 ≡ 14 → 16 ≤ length bytes
  unfolding form_of
  fixed_long e = omega (arith, here.size, eqb-true (size_at bytes 0) 8 (sized bytes v 14 here e))

  pub fixed_is : kind_at bytes 0 ≡ 14 → Some (record { 0 = cast_signed w64 (wide_at bytes 8) }) ≡ fixed_of v
  unfolding form_of plain_by
  fixed_is e =
      let some : ℤ → Option Fixed = λ z. Some (record { 0 = z }) in
      ap (λ n. some (cast_signed w64 n)) wide ∙ sym (ap fixed_of (leaf_is 16 v 14 spells.fits (sym here.kind ∙ e) refl))

  pub urid_long : kind_at bytes 0 ≡ 4 → 12 ≤ length bytes
  unfolding form_of
  urid_long e = omega (arith, here.size, eqb-true (size_at bytes 0) 4 (sized bytes v 4 here e))

  pub urid_is : kind_at bytes 0 ≡ 4 → Some (number_at bytes 8) ≡ urid_of v
  unfolding form_of plain_by
  urid_is e = ap (λ n. Some n) number ∙ sym (ap urid_of (leaf_is 16 v 4 spells.fits (sym here.kind ∙ e) refl))

  pub text_long : kind_at bytes 0 ≡ 5 → 1 ≤ length (drop 8 bytes)
  unfolding form_of
  text_long e = omega (arith, here.size, length-drop 8 bytes, leb-true 1 (size_at bytes 0) (sized bytes v 5 here e))

  pub text_is : kind_at bytes 0 ≡ 5 → Some (take (length (drop 8 bytes) - 1) (drop 8 bytes)) ≡ text_of v
  unfolding form_of plain_by
  text_is e =
      ap (λ b. Some (take (length b - 1) b)) here.body ∙ sym (ap text_of (leaf_is 16 v 5 spells.fits (sym here.kind ∙ e) refl))

  pub header_long : 8 ≤ length bytes
  header_long = omega (arith, here.size)

-- the atoms of a tuple
pub record TupleHere (bytes : List ℕ) (v : Value) : Type 0 where
  pub parts : Parts
  pub parts_are : parts_in v ≡ Some parts
  pub spells : SpellAtoms (drop 8 bytes) parts

pub tuple_here : (bytes : List ℕ) (v : Value) → Spells bytes v → kind_at bytes 0 ≡ 8 → TupleHere bytes v
unfolding form_of
tuple_here bytes (plain p) spells e =
    let kind : plain_kind p ≡ 8 = sym (says bytes (plain p) spells).kind ∙ e in
    absurd (apart (sym (plain_leaf p spells.fits.0) ∙ ap (λ k. is_container (form_of k)) kind))
tuple_here bytes (holding tuple ps) spells e = record {
  parts = ps;
  parts_are = refl;
  spells = (spells.fits.2, (says bytes (holding tuple ps) spells).body);
}
tuple_here bytes (holding (object id kind) ps) spells e =
    absurd (omega (arith, (says bytes (holding (object id kind) ps) spells).kind, e))
tuple_here bytes (holding sequence ps) spells e =
    absurd (omega (arith, (says bytes (holding sequence ps) spells).kind, e))

pub holds_atoms : (bytes : List ℕ) (v : Value) (left : List ℕ) → Spells bytes v → kind_at bytes 0 ≡ 8 → left ≡ drop 8 bytes → HoldsAtoms (Some left) (parts_in v)
holds_atoms bytes v left spells e same =
    let t = tuple_here bytes v spells e in
    let here : SpellAtoms left t.parts = subst (λ (b : List ℕ). SpellAtoms b t.parts) (sym same) t.spells in
    subst (λ p. HoldsAtoms (Some left) p) (sym t.parts_are) here

-- the properties of an object
pub record ObjectHere (bytes : List ℕ) (v : Value) : Type 0 where
  pub parts : Parts
  pub parts_are : properties_in v ≡ Some parts
  pub room : 8 ≤ length (drop 8 bytes)
  pub spells : SpellProperties (drop 8 (drop 8 bytes)) parts

pub object_here : (bytes : List ℕ) (v : Value) → Spells bytes v → kind_at bytes 0 ≡ 9 → ObjectHere bytes v
unfolding form_of
object_here bytes (plain p) spells e =
    let kind : plain_kind p ≡ 9 = sym (says bytes (plain p) spells).kind ∙ e in
    absurd (apart (sym (plain_leaf p spells.fits.0) ∙ ap (λ k. is_container (form_of k)) kind))
object_here bytes (holding tuple ps) spells e = absurd (omega (arith, (says bytes (holding tuple ps) spells).kind, e))
object_here bytes (holding (object id kind) ps) spells e =
    let head = u32 id ++ u32 kind in
    let long : length head ≡ 8 = omega (arith, length-append (u32 id) (u32 kind), u32-length id, u32-length kind) in
    let body : drop 8 bytes ≡ head ++ parts_of ps = (says bytes (holding (object id kind) ps) spells).body in
    record {
      parts = ps;
      parts_are = refl;
      room = omega (arith, ap length body, length-append head (parts_of ps), long);
      spells = (spells.fits.2, ap (drop 8) body ∙ drop_at head (parts_of ps) 8 long);
    }
object_here bytes (holding sequence ps) spells e = absurd (omega (arith, (says bytes (holding sequence ps) spells).kind, e))

pub holds_properties : (bytes : List ℕ) (v : Value) (left : List ℕ) → Spells bytes v → kind_at bytes 0 ≡ 9 → left ≡ drop 8 (drop 8 bytes) → HoldsProperties (Some left) (properties_in v)
holds_properties bytes v left spells e same =
    let t = object_here bytes v spells e in
    let here : SpellProperties left t.parts = subst (λ (b : List ℕ). SpellProperties b t.parts) (sym same) t.spells in
    subst (λ p. HoldsProperties (Some left) p) (sym t.parts_are) here

pub wide_front : (bytes : List ℕ) → wide_at bytes 0 ≡ from_le_bytes w64 bytes
unfolding wide_at
wide_front bytes = refl

-- the events of a sequence
pub record SequenceHere (bytes : List ℕ) (v : Value) : Type 0 where
  pub parts : Parts
  pub parts_are : events_in v ≡ Some parts
  pub room : 8 ≤ length (drop 8 bytes)
  pub spells : SpellEvents (drop 8 (drop 8 bytes)) parts

pub sequence_here : (bytes : List ℕ) (v : Value) → Spells bytes v → kind_at bytes 0 ≡ 10 → SequenceHere bytes v
unfolding form_of
sequence_here bytes (plain p) spells e =
    let kind : plain_kind p ≡ 10 = sym (says bytes (plain p) spells).kind ∙ e in
    absurd (apart (sym (plain_leaf p spells.fits.0) ∙ ap (λ k. is_container (form_of k)) kind))
sequence_here bytes (holding tuple ps) spells e = absurd (omega (arith, (says bytes (holding tuple ps) spells).kind, e))
sequence_here bytes (holding (object id kind) ps) spells e = absurd (omega (arith, (says bytes (holding (object id kind) ps) spells).kind, e))
sequence_here bytes (holding sequence ps) spells e =
    let body : drop 8 bytes ≡ replicate 8 0 ++ parts_of ps = (says bytes (holding sequence ps) spells).body in
    record {
      parts = ps;
      parts_are = refl;
      room = omega (arith, ap length body, length-append (replicate 8 0) (parts_of ps));
      spells = (spells.fits.2, ap (drop 8) body ∙ drop_at (replicate 8 0) (parts_of ps) 8 refl);
    }

pub holds_events : (bytes : List ℕ) (v : Value) (left : List ℕ) → Spells bytes v → kind_at bytes 0 ≡ 10 → left ≡ drop 8 (drop 8 bytes) → HoldsEvents (Some left) (events_in v)
holds_events bytes v left spells e same =
    let t = sequence_here bytes v spells e in
    let here : SpellEvents left t.parts = subst (λ (b : List ℕ). SpellEvents b t.parts) (sym same) t.spells in
    subst (λ p. HoldsEvents (Some left) p) (sym t.parts_are) here
