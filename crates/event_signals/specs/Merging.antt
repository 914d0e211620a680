-- Lists of events, given as their bytes, and a finished sequence of events (LV2 atom, `LV2_Atom_Event` and `LV2_Atom_Sequence`).
use Rattle.std.specs.Prelude.{ℕ, false, List, All}
use Rattle.std.specs.Borrow.{Bor}
use Rattle.atom_forge.specs.Forged.{Forged, with_piece, closed}
use Rattle.atom_sequence.specs.Event.{Event}
use Rattle.plug_api.specs.Buffers.{begun_forge}
use Rattle.plug_api.specs.Sequences.{AreEventBytes}
use Rattle.session_play.specs.EventBytes.{events_at, bytes_of}

-- the events of a list
abbrev pub events_of : Bor (List ℕ) → List Event
events_of list = events_at list.now

-- those of each lie in a block of so many frames, and their times don't fall
abbrev pub IsTimed : ℕ → Bor (List ℕ) → Type 0
IsTimed frames list = AreEventBytes frames list.now

abbrev pub AreTimed : ℕ → List (Bor (List ℕ)) → Type 0
AreTimed frames lists = All (IsTimed frames) lists

-- a forge with so much room that has one finished sequence of these events
abbrev pub sequence_of : ℕ → List Event → Forged
sequence_of room events = closed (with_piece (begun_forge room) (bytes_of events) false)
