-- What a run is given and what it gives, by port and as plain values.
use Rattle.std.specs.Prelude.{ℕ, ◌==◌, if◌then◌else◌, List, [], ◌∷◌, slice_index_or}
use Rattle.lv_base.specs.declared.number.Fixed.{Fixed}
use Rattle.lv_base.specs.declared.number.Sample.{Sample}
use Rattle.plug_api.specs.Signal.{Signal, nothing, samples_in, value_in, events_in}

-- the frames of the block, what each input port has, and for how many bytes each atom output has room
pub record Inputs : Type 0 where
  pub frames : ℕ
  pub signals : List Signal
  pub rooms : List ℕ

-- what port i has
abbrev pub signal_at : Inputs → ℕ → Signal
signal_at given i = slice_index_or given.signals i nothing

abbrev pub samples_at : Inputs → ℕ → List Sample
samples_at given i = samples_in (signal_at given i)

abbrev pub value_at : Inputs → ℕ → Fixed
value_at given i = value_in (signal_at given i)

abbrev pub events_at : Inputs → ℕ → List ℕ
events_at given i = events_in (signal_at given i)

-- for how many bytes port i has room
abbrev pub room_at : Inputs → ℕ → ℕ
room_at given i = slice_index_or given.rooms i 0

-- What a run gives: at some output ports, each named once, what it wrote there. Every other output is left as it was before the run:
-- silence, the value 0, or no events.
abbrev pub Outputs : Type 0
Outputs = List (ℕ × Signal)

-- what stands at port i after a run, where this stood there before
abbrev pub signal_after : Signal → Outputs → ℕ → Signal
signal_after before [] i = before
signal_after before (write ∷ writes) i = signal_after (if write.0 == i then write.1 else before) writes i
