-- An object within an object.
use Rattle.std.proofs.Common.{◌≡◌, ◌==◌, ℕ, ◌+◌, ◌-◌, ◌<◌, ◌≤◌, Bool, true, false, MatchBool, List, [], ◌++◌, length, refl, sym, ap, ◌∙◌, subst, append_assoc, length-append, arith, ne_eqb}
use Rattle.atom_core.specs.Value.{object, Lead, holding, Parts}
use Rattle.atom_core.specs.Spelling.{atom_of, lead_bytes, part_of, parts_of}
use Rattle.atom_forge.specs.Forged.{Forged, left, TakesAtom, with_piece}
use Rattle.patch_control.specs.Writing.{Extends}
use Rattle.patch_control.proofs.Filling.{part_length, object_length, extends_more, extends_piece}
use Rattle.patch_control.proofs.Objects.{padded_object}

pub lead_left : (old new : Forged) (piece : List ℕ) → new ≡ with_piece old piece true → left new ≡ left old - length piece
lead_left old new piece is =
    let bytes : length new.bytes ≡ length old.bytes + length piece = ap (λ (f : Forged). length f.bytes) is ∙ length-append old.bytes piece in
    let room : new.room ≡ old.room = ap (λ (f : Forged). f.room) is in
    omega (arith, bytes, room)

pub lead_levels : (old new : Forged) (piece : List ℕ) → new ≡ with_piece old piece true → length new.levels ≡ length old.levels
lead_levels old new piece is = ap (λ (f : Forged). length f.levels) is

-- after a key an atom may stand
pub takes_atom : (old new : Forged) (piece : List ℕ) → new ≡ with_piece old piece true → 0 < length old.levels → length old.levels ≤ 16 → TakesAtom new
takes_atom old new piece is some deep =
    let inner : (length old.levels == 0) ≡ false = ne_eqb (length old.levels) 0 (λ e. omega (arith, some, e)) in
    subst TakesAtom (sym is) (subst (λ (b : Bool). MatchBool b (old.bytes ++ piece ≡ []) ((true ≡ true) × (length old.levels ≤ 16))) (sym inner) (refl, deep))

pub nested_length : (lead : Lead) (id kind : ℕ) (parts : Parts)
    → length (part_of lead (holding (object id kind) parts)) ≡ length (lead_bytes lead) + (16 + length (parts_of parts))
nested_length lead id kind parts =
    omega (arith, part_length lead (holding (object id kind) parts), ap length (padded_object id kind parts), object_length id kind parts)

-- an object after its key has no room
pub nested_fails : (old mid new : Forged) (lead : Lead) (id kind size : ℕ) (parts : Parts) → length (lead_bytes lead) ≤ left old
    → mid ≡ with_piece old (lead_bytes lead) true → left mid < size → size ≤ 16 + length (parts_of parts) → Extends mid new
    → (left old < length (part_of lead (holding (object id kind) parts))) × Extends old new
nested_fails old mid new lead id kind size parts fits is full le more = (
  omega (arith, fits, full, le, lead_left old mid (lead_bytes lead) is, nested_length lead id kind parts),
  extends_more old mid new (subst (λ (f : Forged). Extends old f) (sym is) (extends_piece old (lead_bytes lead) true)) more,
)

-- an object after its key is put
pub nested_put : (old mid new : Forged) (lead : Lead) (id kind : ℕ) (parts : Parts) → length (lead_bytes lead) ≤ left old
    → mid ≡ with_piece old (lead_bytes lead) true → length (atom_of (holding (object id kind) parts)) ≤ left mid
    → new ≡ with_piece mid (atom_of (holding (object id kind) parts)) false
    → (length (part_of lead (holding (object id kind) parts)) ≤ left old) × (new ≡ with_piece old (part_of lead (holding (object id kind) parts)) false)
nested_put old mid new lead id kind parts fits is room put =
    let whole = atom_of (holding (object id kind) parts) in
    let bytes : (old.bytes ++ lead_bytes lead) ++ whole ≡ old.bytes ++ part_of lead (holding (object id kind) parts) =
    append_assoc old.bytes (lead_bytes lead) whole
    ∙ ap (λ (b : List ℕ). old.bytes ++ (lead_bytes lead ++ b)) (sym (padded_object id kind parts)) in (
      omega (arith, fits, room, lead_left old mid (lead_bytes lead) is, nested_length lead id kind parts, object_length id kind parts),
      put ∙ ap (λ (f : Forged). with_piece f whole false) is
          ∙ ap (λ (b : List ℕ). record { room = old.room; bytes = b; levels = old.levels; waits = false }) bytes,
    )
