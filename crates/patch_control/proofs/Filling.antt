-- An object that is filled with properties, one after the other.
use Rattle.std.proofs.Common.{◌≡◌, ◌==◌, ℕ, ◌+◌, ◌-◌, ◌<◌, ◌≤◌, Bool, true, false, List, [], ◌∷◌, ◌++◌, length, Some, Result, Ok, Err, refl, sym, ap, ◌∙◌, subst, append_assoc, length-append, arith, ne_eqb}
use Rattle.std.proofs.lemmas.List.{append-nil}
use Rattle.atom_core.specs.Value.{object, Lead, Value, holding, Parts}
use Rattle.atom_core.specs.Spelling.{u32, atom_of, lead_bytes, part_of, parts_of, with_padding}
use Rattle.atom_core.proofs.Numbers.{u32-length}
use Rattle.atom_core.proofs.Padding.{with_padding-length}
use Rattle.atom_forge.specs.declared.level.Holds.TheVariants.{Properties}
use Rattle.atom_forge.specs.declared.level.Level.{Level}
use Rattle.atom_forge.specs.declared.room.NoRoom.{NoRoom}
use Rattle.atom_forge.specs.Forged.{Forged, left, innermost, TakesLead, IsComplete, opening, laid, with_piece, with_container, closed, PutsAtom}
use Rattle.atom_forge.proofs.Pieces.{opening-length, framed-length, laid-inner}
use Rattle.atom_forge.proofs.Containers.{container_is_atom, part_is_put}
use Rattle.patch_control.specs.Writing.{Extends, Tries, TriesPart}

pub extends_same : (forge : Forged) → Extends forge forge
extends_same forge = record {
  bytes = [];
  levels = [];
  room_is = refl;
  bytes_are = sym (append-nil forge.bytes);
  levels_are = sym (append-nil forge.levels);
}

pub extends_as : (old new : Forged) → new ≡ old → Extends old new
extends_as old new is = subst (λ (f : Forged). Extends old f) (sym is) (extends_same old)

pub extends_more : (old mid new : Forged) → Extends old mid → Extends mid new → Extends old new
extends_more old mid new a b = record {
  bytes = a.bytes ++ b.bytes;
  levels = a.levels ++ b.levels;
  room_is = b.room_is ∙ a.room_is;
  bytes_are = b.bytes_are ∙ ap (λ (l : List ℕ). l ++ b.bytes) a.bytes_are ∙ append_assoc old.bytes a.bytes b.bytes;
  levels_are = b.levels_are ∙ ap (λ (l : List Level). l ++ b.levels) a.levels_are ∙ append_assoc old.levels a.levels b.levels;
}

pub extends_piece : (old : Forged) (piece : List ℕ) (waits : Bool) → Extends old (with_piece old piece waits)
extends_piece old piece waits = record {
  bytes = piece;
  levels = [];
  room_is = refl;
  bytes_are = refl;
  levels_are = sym (append-nil old.levels);
}

pub part_length : (lead : Lead) (value : Value) → length (part_of lead value) ≡ length (lead_bytes lead) + length (with_padding (atom_of value))
part_length lead value = length-append (lead_bytes lead) (with_padding (atom_of value))

-- there is no room for a key
pub lead_fails : (old new : Forged) (lead : Lead) (value : Value) → left old < length (lead_bytes lead) → new ≡ old
    → (left old < length (part_of lead value)) × Extends old new
lead_fails old new lead value full same = (omega (arith, full, part_length lead value), extends_as old new same)

-- a key has room, and its atom follows
atom_after : (old new : Forged) (lead : Lead) (value : Value) (result : Result (Unit {0}) NoRoom) → 0 < length old.levels
    → length (lead_bytes lead) ≤ left old → PutsAtom (with_piece old (lead_bytes lead) true) value result new → TriesPart old lead value result new
atom_after old new lead value (Ok u) within fits h =
    let inner : (length old.levels == 0) ≡ false = ne_eqb (length old.levels) 0 (λ e. omega (arith, within, e)) in
    let size : length (laid old.levels (atom_of value)) ≡ length (with_padding (atom_of value)) =
    laid-inner old.levels (atom_of value) inner ∙ sym (with_padding-length (atom_of value)) in (
      omega (arith, fits, h.0, size, part_length lead value, length-append old.bytes (lead_bytes lead)),
      h.1 ∙ part_is_put old lead value within,
    )
atom_after old new lead value (Err e) within fits h =
    let inner : (length old.levels == 0) ≡ false = ne_eqb (length old.levels) 0 (λ e. omega (arith, within, e)) in
    let size : length (laid old.levels (atom_of value)) ≡ length (with_padding (atom_of value)) =
    laid-inner old.levels (atom_of value) inner ∙ sym (with_padding-length (atom_of value)) in (
      omega (arith, fits, h.0, size, part_length lead value, length-append old.bytes (lead_bytes lead)),
      extends_more old (with_piece old (lead_bytes lead) true) new (extends_piece old (lead_bytes lead) true) (extends_as (with_piece old (lead_bytes lead) true) new h.1),
    )

pub atom_follows : (old mid new : Forged) (lead : Lead) (value : Value) (result : Result (Unit {0}) NoRoom) → 0 < length old.levels
    → length (lead_bytes lead) ≤ left old → mid ≡ with_piece old (lead_bytes lead) true → PutsAtom mid value result new → TriesPart old lead value result new
atom_follows old mid new lead value result within fits is h =
    atom_after old new lead value result within fits (subst (λ (m : Forged). PutsAtom m value result new) is h)

innermost_last : (levels : List Level) (l : Level) → innermost (levels ++ l ∷ []) ≡ Some l.holds
innermost_last [] l = refl
innermost_last (m ∷ []) l = refl
innermost_last (m ∷ (n ∷ levels)) l = innermost_last (n ∷ levels) l

some_levels : (levels : List Level) → innermost levels ≡ Some Properties → 0 < length levels
some_levels [] e = absurd cc
some_levels (l ∷ levels) e = omega arith

pub lead_within : (forge : Forged) → TakesLead forge Properties → 0 < length forge.levels
lead_within forge takes = some_levels forge.levels takes.0

-- an object was opened, and these bytes of properties were written
pub record Filling (old : Forged) (id kind : ℕ) (done : List ℕ) (forge : Forged) : Type 0 where
  pub room : 16 + length done ≤ left old
  pub is : forge ≡ with_piece (with_container old Properties (opening 9 id kind)) done false

pub begins : (old forge : Forged) (id kind : ℕ) → length (opening 9 id kind) ≤ left old → forge ≡ with_container old Properties (opening 9 id kind)
    → Filling old id kind [] forge
begins old forge id kind fits is =
    let begun = with_container old Properties (opening 9 id kind) in
    record {
      room = omega (arith, fits, opening-length 9 id kind);
      is = is ∙ ap (λ (b : List ℕ). record { room = begun.room; bytes = b; levels = begun.levels; waits = false }) (sym (append-nil begun.bytes));
    }

pub filling_lead : (old forge : Forged) (id kind : ℕ) (done : List ℕ) → Filling old id kind done forge → TakesLead forge Properties
filling_lead old forge id kind done h =
    let l : Level = record { holds = Properties; at = length old.bytes } in
    (ap (λ (f : Forged). innermost f.levels) h.is ∙ innermost_last old.levels l, ap (λ (f : Forged). f.waits) h.is)

pub filling_levels : (old forge : Forged) (id kind : ℕ) (done : List ℕ) → Filling old id kind done forge → length forge.levels ≡ length old.levels + 1
filling_levels old forge id kind done h =
    let l : Level = record { holds = Properties; at = length old.bytes } in
    ap (λ (f : Forged). length f.levels) h.is ∙ length-append old.levels (l ∷ [])

pub filling_left : (old forge : Forged) (id kind : ℕ) (done : List ℕ) → Filling old id kind done forge → left forge ≡ left old - (16 + length done)
filling_left old forge id kind done h =
    let begun = opening 9 id kind in
    let bytes : length forge.bytes ≡ length old.bytes + 16 + length done =
    ap (λ (f : Forged). length f.bytes) h.is ∙ length-append (old.bytes ++ begun) done
    ∙ ap (λ n. n + length done) (length-append old.bytes begun ∙ ap (λ n. length old.bytes + n) (opening-length 9 id kind)) in
    let room : forge.room ≡ old.room = ap (λ (f : Forged). f.room) h.is in
    omega (arith, bytes, room)

pub filling_complete : (old forge : Forged) (id kind : ℕ) (done : List ℕ) → Filling old id kind done forge → IsComplete forge
filling_complete old forge id kind done h =
    (omega (arith, filling_levels old forge id kind done h), ap (λ (f : Forged). f.waits) h.is)

pub filled_more : (old forge new : Forged) (id kind : ℕ) (done piece : List ℕ) → Filling old id kind done forge → length piece ≤ left forge
    → new ≡ with_piece forge piece false → Filling old id kind (done ++ piece) new
filled_more old forge new id kind done piece h fits is =
    let begun = with_container old Properties (opening 9 id kind) in
    record {
      room = omega (arith, h.room, fits, filling_left old forge id kind done h, length-append done piece);
      is =
          is ∙ ap (λ (f : Forged). with_piece f piece false) h.is
          ∙ ap (λ (b : List ℕ). record { room = begun.room; bytes = b; levels = begun.levels; waits = false }) (append_assoc begun.bytes done piece);
    }

filling_extends : (old forge : Forged) (id kind : ℕ) (done : List ℕ) → Filling old id kind done forge → Extends old forge
filling_extends old forge id kind done h = record {
  bytes = opening 9 id kind ++ done;
  levels = record { holds = Properties; at = length old.bytes } ∷ [];
  room_is = ap (λ (f : Forged). f.room) h.is;
  bytes_are = ap (λ (f : Forged). f.bytes) h.is ∙ append_assoc old.bytes (opening 9 id kind) done;
  levels_are = ap (λ (f : Forged). f.levels) h.is;
}

-- the next piece has no room, so that more bytes than these haven't either
pub filling_fails : (old forge new : Forged) (id kind : ℕ) (done piece : List ℕ) (whole : ℕ) → Filling old id kind done forge → left forge < length piece
    → Extends forge new → 16 + length done + length piece ≤ whole → (left old < whole) × Extends old new
filling_fails old forge new id kind done piece whole h full more le = (
  omega (arith, full, le, filling_left old forge id kind done h),
  extends_more old forge new (filling_extends old forge id kind done h) more,
)

pub object_length : (id kind : ℕ) (parts : Parts) → length (atom_of (holding (object id kind) parts)) ≡ 16 + length (parts_of parts)
object_length id kind parts =
    omega (
      arith,
      framed-length 9 ((u32 id ++ u32 kind) ++ parts_of parts),
      length-append (u32 id ++ u32 kind) (parts_of parts),
      length-append (u32 id) (u32 kind),
      u32-length id,
      u32-length kind,
    )

pub filling_closes : (old forge : Forged) (id kind : ℕ) (parts : Parts) → Filling old id kind (parts_of parts) forge
    → (length (atom_of (holding (object id kind) parts)) ≤ left old) × (closed forge ≡ with_piece old (atom_of (holding (object id kind) parts)) false)
filling_closes old forge id kind parts h = (
  omega (arith, h.room, object_length id kind parts),
  ap closed h.is ∙ container_is_atom.object_is old id kind parts,
)

pub filling_as : (old forge : Forged) (id kind : ℕ) (done other : List ℕ) → done ≡ other → Filling old id kind done forge → Filling old id kind other forge
filling_as old forge id kind done other e h = subst (λ (b : List ℕ). Filling old id kind b forge) e h

pub tries_fail : (old new : Forged) (bytes : List ℕ) (result : Result (Unit {0}) NoRoom) (e : NoRoom) → result ≡ Err e
    → (left old < length bytes) × Extends old new → Tries old bytes result new
tries_fail old new bytes result e is h = subst (λ (r : Result (Unit {0}) NoRoom). Tries old bytes r new) (sym is) h

-- there is no room for the object's header
pub object_fails : (old new : Forged) (id kind : ℕ) (parts : Parts) → left old < length (opening 9 id kind) → new ≡ old
    → (left old < length (atom_of (holding (object id kind) parts))) × Extends old new
object_fails old new id kind parts full same = (omega (arith, full, opening-length 9 id kind, object_length id kind parts), extends_as old new same)
