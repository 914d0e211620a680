-- A forge in which a sequence was opened, where it had room for one.
use Rattle.std.proofs.Common.{◌≡◌, ℕ, ◌≤◌, nat_le, true, false, Result, Ok, Err, arith}
use Rattle.std.proofs.lemmas.Bool.{le-leb, lt-leb}
use Rattle.atom_forge.specs.declared.level.Holds.TheVariants.{Events}
use Rattle.atom_forge.specs.declared.room.NoRoom.{NoRoom}
use Rattle.atom_forge.specs.Forged.{Forged, Puts, opening, with_container}
use Rattle.atom_forge.proofs.Pieces.{opening-length}
use Rattle.plug_api.specs.Buffers.{empty_forge, begun}

pub begun_by : (old new : Forged) (result : Result (Unit {0}) NoRoom)
    → Puts (empty_forge old.room) (opening 10 0 0) (with_container (empty_forge old.room) Events (opening 10 0 0)) result new → new ≡ begun old
begun_by old new (Ok unit) put =
    let fits : nat_le 16 old.room ≡ true = le-leb 16 old.room (omega (arith, put.0, opening-length 10 0 0)) in rw fits put.1
begun_by old new (Err fault) put =
    let short : nat_le 16 old.room ≡ false = lt-leb 16 old.room (omega (arith, put.0, opening-length 10 0 0)) in rw short put.1
