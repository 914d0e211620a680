-- What stands at a port in one block (LV2 core: audio, CV and control ports; LV2 atom: atom ports).
use Rattle.std.specs.Prelude.{ℕ, List, [], pos}
use Rattle.lv_base.specs.declared.number.Fixed.{Fixed}
use Rattle.lv_base.specs.declared.number.Sample.{Sample}

pub data Signal : Type 0 where
  -- an audio or CV port: a sample for each frame
  sound : List Sample → Signal
  -- a control port: its value
  control : Fixed → Signal
  -- an atom port: the bytes of the events of its sequence
  events : List ℕ → Signal
  nothing : Signal

-- the control value 0
abbrev pub nought : Fixed
nought = record { 0 = pos 0 }

-- the samples of a signal
abbrev pub samples_in : Signal → List Sample
samples_in (sound block) = block
samples_in (control value) = []
samples_in (events bytes) = []
samples_in nothing = []

-- its value
abbrev pub value_in : Signal → Fixed
value_in (control value) = value
value_in (sound block) = nought
value_in (events bytes) = nought
value_in nothing = nought

-- its events
abbrev pub events_in : Signal → List ℕ
events_in (events bytes) = bytes
events_in (sound block) = []
events_in (control value) = []
events_in nothing = []
