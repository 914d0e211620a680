-- The messages and the event of the tests, as values.
use Rattle.std.proofs.Common.{◌≡◌, ℕ, ◌≤◌, false, List, [], length, None, Result, Ok, Err, pos, refl, sym, ap, arith}
use Rattle.std.proofs.lemmas.Int.{ints}
use Rattle.std.proofs.lemmas.List.{append-nil}
use Rattle.atom_core.specs.Form.{form_of}
use Rattle.atom_core.specs.Value.{int, timed, Value, plain, none, part}
use Rattle.atom_core.specs.Spelling.{u32, i32, i64, part_of}
use Rattle.atom_core.specs.Fits.{Fits}
use Rattle.atom_forge.specs.declared.room.NoRoom.{NoRoom}
use Rattle.atom_forge.specs.Forged.{Forged, left, with_piece}
use Rattle.atom_sequence.specs.Event.{Event}
use Rattle.atom_sequence.specs.Cursors.{PutsEvent}
use Rattle.plug_api.specs.Buffers.{begun_forge}
use Rattle.plug_api.specs.Sequences.{AreEventBytes}
use Rattle.session_script.specs.declared.session.Action.{Action}
use Rattle.session_script.specs.declared.session.Deed.TheVariants.{PatchInt, PatchGet}
use Rattle.session_play.specs.Patch.{get_message, set_message}

-- ---- messages, where no URI has a number yet

abbrev pub get : Value
get = get_message [] None

abbrev pub set : Value
set = set_message [] [] (plain (int (pos 7)))

abbrev pub getting : Action
getting = record { block = 0; inst = 1; deed = PatchGet None; line = 0 }

abbrev pub setting : Action
setting = record { block = 0; inst = 1; deed = PatchInt [] (pos 7); line = 0 }

pub get_fits : Fits 15 get
unfolding form_of u32
get_fits = ((omega arith, omega arith), omega arith, tt)

pub set_fits : Fits 15 set
unfolding form_of u32 i32
set_fits = (
  (omega arith, omega arith),
  omega arith,
  (omega arith, (omega arith, omega arith), (omega arith, omega arith), (omega arith, (omega arith, omega arith), (omega (arith, ints), omega arith), tt)),
)

-- ---- the event

abbrev pub three : Event
three = record { time = pos 2; value = plain (int (pos 3)) }

abbrev pub three_bytes : List ℕ
three_bytes = part_of (timed (pos 2)) (plain (int (pos 3)))

pub three_fits : (n : ℕ) → Fits n (plain (int (pos 3)))
unfolding i32
three_fits n = (omega (arith, ints), omega arith)

pub three_long : length three_bytes ≡ 24
unfolding u32 i32 i64
three_long = refl

begun_long : left (begun_forge 4096) ≡ 4080
unfolding u32
begun_long = refl

pub three_put : (old new : Forged) (result : Result (Unit {0}) NoRoom) → old ≡ begun_forge 4096 → PutsEvent old three result new → new ≡ with_piece old three_bytes false
three_put old new (Ok unit) begun put = put.1
three_put old new (Err fault) begun put = absurd (omega (arith, put.0, three_long, ap left begun, begun_long))

pub three_timed : (frames : ℕ) → 3 ≤ frames → AreEventBytes frames three_bytes
three_timed frames long =
    ∣ (
      part (timed (pos 2)) (plain (int (pos 3))) none,
      ((omega arith, omega (arith, ints), three_fits 15, tt), sym (append-nil three_bytes)),
      (omega (arith, ints), omega (arith, ints, long), tt),
    ) ∣₁
