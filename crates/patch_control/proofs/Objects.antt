-- What was tried is put, or taken back.
use Rattle.std.proofs.Common.{◌≡◌, ◌==◌, ℕ, ◌-◌, ◌<◌, ◌≤◌, Bool, true, false, if◌then◌else◌, List, ◌++◌, length, replicate, Result, Ok, Err, MatchResult, refl, sym, ap, ◌∙◌, subst, arith}
use Rattle.std.proofs.lemmas.List.{append-nil}
use Rattle.atom_core.specs.Place.{padded}
use Rattle.atom_core.specs.Value.{object, Value, holding, Parts}
use Rattle.atom_core.specs.Spelling.{atom_of, with_padding}
use Rattle.atom_core.proofs.Padding.{container_unpadded}
use Rattle.atom_forge.specs.declared.level.Level.{Level}
use Rattle.atom_forge.specs.declared.mark.Mark.{Mark}
use Rattle.atom_forge.specs.declared.room.NoRoom.{NoRoom}
use Rattle.atom_forge.specs.Forged.{Forged, left, laid, with_piece, up_to, IsForged, PutsAtom}
use Rattle.atom_forge.specs.Laws.{IsMarkOf}
use Rattle.atom_forge.proofs.Containers.{back_is_before}
use Rattle.patch_control.specs.Writing.{Extends, Tries}

either_way : (outer : Bool) (bytes : List ℕ) → padded (length bytes) ≡ length bytes → (if outer then bytes else with_padding bytes) ≡ bytes
either_way true bytes e = refl
either_way false bytes e =
    let nothing : padded (length bytes) - length bytes ≡ 0 = omega (arith, e) in
    ap (λ n. bytes ++ replicate n 0) nothing ∙ append-nil bytes

-- an object needs no padding
pub laid_object : (levels : List Level) (id kind : ℕ) (parts : Parts) → laid levels (atom_of (holding (object id kind) parts)) ≡ atom_of (holding (object id kind) parts)
laid_object levels id kind parts =
    either_way (length levels == 0) (atom_of (holding (object id kind) parts)) (container_unpadded (object id kind) parts 9)

pub padded_object : (id kind : ℕ) (parts : Parts) → with_padding (atom_of (holding (object id kind) parts)) ≡ atom_of (holding (object id kind) parts)
padded_object id kind parts = either_way false (atom_of (holding (object id kind) parts)) (container_unpadded (object id kind) parts 9)

-- what was written without room is taken back
pub taken_back : (old new : Forged) (mark : Mark) → Extends old new → IsMarkOf mark old → up_to mark new ≡ old
taken_back old new mark h is =
    let whole : new ≡ record { room = old.room; bytes = old.bytes ++ h.bytes; levels = old.levels ++ h.levels; waits = new.waits } =
    ap (λ n. record { room = n; bytes = new.bytes; levels = new.levels; waits = new.waits }) h.room_is
    ∙ ap (λ (b : List ℕ). record { room = old.room; bytes = b; levels = new.levels; waits = new.waits }) h.bytes_are
    ∙ ap (λ (ls : List Level). record { room = old.room; bytes = old.bytes ++ h.bytes; levels = ls; waits = new.waits }) h.levels_are in
    ap (up_to mark) whole ∙ back_is_before mark old h.bytes h.levels new.waits is

pub forged_back : (old new : Forged) (mark : Mark) (bytes : List ℕ) (tried : Result (Unit {0}) NoRoom) → Tries old bytes tried new → IsMarkOf mark old
    → IsForged old → MatchResult tried (λ _. Unit {0}) (λ _. IsForged (up_to mark new))
forged_back old new mark bytes (Ok u) h is forged = tt
forged_back old new mark bytes (Err e) h is forged = subst IsForged (sym (taken_back old new mark h.1 is)) forged

-- an object that has room is put, and else nothing changes
pub finished : (old mid new : Forged) (mark : Mark) (id kind : ℕ) (parts : Parts) (tried : Result (Unit {0}) NoRoom)
    → Tries old (atom_of (holding (object id kind) parts)) tried mid → IsMarkOf mark old
    → MatchResult tried (λ _. new ≡ mid) (λ _. new ≡ up_to mark mid) → PutsAtom old (holding (object id kind) parts) tried new
finished old mid new mark id kind parts (Ok u) h is left_is =
    subst (λ (b : List ℕ). (length b ≤ left old) × (new ≡ with_piece old b false)) (sym (laid_object old.levels id kind parts)) (h.0, left_is ∙ h.1)
finished old mid new mark id kind parts (Err e) h is left_is = (
  subst (λ (b : List ℕ). left old < length b) (sym (laid_object old.levels id kind parts)) h.0,
  left_is ∙ taken_back old mid mark h.1 is,
)

pub finished_as : (old new : Forged) (value : Value) (tried result : Result (Unit {0}) NoRoom) → result ≡ tried → PutsAtom old value tried new
    → PutsAtom old value result new
finished_as old new value tried result same h = subst (λ r. PutsAtom old value r new) (sym same) h
