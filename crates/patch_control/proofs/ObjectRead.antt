-- An atom's answer is that of the object that it is.
use Rattle.std.proofs.Common.{◌≡◌, ◌^◌, ℕ, ◌<◌, ◌≤◌, List, ◌++◌, length, Some, None, Result, Err, refl, sym, ap, subst, arith, length-append}
use Rattle.atom_core.specs.Value.{tuple, object, sequence, Value, plain, holding, Parts}
use Rattle.atom_core.specs.Spelling.{u32, parts_of, body_of}
use Rattle.atom_core.specs.Answer.{Spells}
use Rattle.atom_core.specs.Atoms.{SpellProperties, properties_in, HoldsProperties}
use Rattle.atom_core.proofs.Numbers.{u32-length}
use Rattle.patch_control.specs.declared.message.Message.{Message}
use Rattle.patch_control.specs.declared.message.PatchFault.{PatchFault}
use Rattle.patch_control.specs.declared.message.PatchFault.TheVariants.{NotPatch}
use Rattle.patch_control.specs.Message.{message_of, of_kind, Reads}

pub head_room : (body rest : List ℕ) (v : Value) → HoldsProperties (Some rest) (properties_in v) → body ≡ body_of v → 8 ≤ length body
head_room body rest (plain p) holds is = absurd holds
head_room body rest (holding tuple parts) holds is = absurd holds
head_room body rest (holding sequence parts) holds is = absurd holds
head_room body rest (holding (object id kind) parts) holds is =
    omega (
      arith,
      ap length is,
      length-append (u32 id ++ u32 kind) (parts_of parts),
      length-append (u32 id) (u32 kind),
      u32-length id,
      u32-length kind,
    )

abbrev pub GivesKind : List ℕ → ℕ → Type 0
GivesKind body number = (id kind : ℕ) (rest : List ℕ) → kind < 2 ^ 32 → body ≡ (u32 id ++ u32 kind) ++ rest → number ≡ kind

pub object_read : (bytes body rest : List ℕ) (v : Value) (number : ℕ) (result : Result Message PatchFault) → Spells bytes v
    → HoldsProperties (Some rest) (properties_in v) → body ≡ body_of v → GivesKind body number
    → ((parts : Parts) → SpellProperties rest parts → Reads result (of_kind number parts)) → Reads result (message_of v)
object_read bytes body rest (plain p) number result spells holds is gives reads = absurd holds
object_read bytes body rest (holding tuple parts) number result spells holds is gives reads = absurd holds
object_read bytes body rest (holding sequence parts) number result spells holds is gives reads = absurd holds
object_read bytes body rest (holding (object id kind) parts) number result spells holds is gives reads =
    subst (λ n. Reads result (of_kind n parts)) (gives id kind (parts_of parts) spells.fits.0.1 is) (reads parts holds)

pub none_read : (v : Value) (result : Result Message PatchFault) → HoldsProperties None (properties_in v) → result ≡ Err NotPatch → Reads result (message_of v)
none_read (plain p) result holds is = subst (λ r. Reads r (Err NotPatch)) (sym is) refl
none_read (holding tuple parts) result holds is = subst (λ r. Reads r (Err NotPatch)) (sym is) refl
none_read (holding sequence parts) result holds is = subst (λ r. Reads r (Err NotPatch)) (sym is) refl
none_read (holding (object id kind) parts) result holds is = absurd holds
