-- What an instance is given before anything was put there.
use Rattle.std.specs.Prelude.{ℕ, if◌then◌else◌, ◌&&◌, List, length, map, replicate}
use Rattle.lv_base.specs.declared.number.Sample.{Sample}
use Rattle.atom_forge.specs.Forged.{Forged}
use Rattle.plugin_decl.specs.declared.declaration.Port.{Port}
use Rattle.plug_api.specs.Sound.{silence}
use Rattle.plug_api.specs.Signal.{nought}
use Rattle.plug_api.specs.Buffers.{Given, empty_forge}
use Rattle.plug_api.specs.Roles.{is_sound, is_atom}

-- how many frames there are at a port: none where it isn't an input of sound
abbrev pub input_frames : Port → ℕ → ℕ
input_frames port frames = if port.input && is_sound port.kind then frames else 0

-- for how many bytes there is room: for none where it isn't an input of atoms
abbrev pub input_room : Port → ℕ
input_room port = if port.input && is_atom port.kind then port.room else 0

abbrev pub fresh_block : ℕ → Port → List Sample
fresh_block frames port = silence (input_frames port frames)

abbrev pub fresh_forge : Port → Forged
fresh_forge port = empty_forge (input_room port)

-- silent blocks, the values 0, and empty forges
abbrev pub fresh_inputs : List Port → ℕ → Given
fresh_inputs ports frames = record {
  frames = frames;
  blocks = map (fresh_block frames) ports;
  values = replicate (length ports) nought;
  events = map fresh_forge ports;
}
