-- The constant: its value as sound. Ports: value, out.
use Rattle.std.specs.Prelude.{Bool, true, false, ◌&&◌, List, replicate}
use Rattle.lv_base.specs.declared.number.Sample.{Sample}
use Rattle.lv_base.specs.Number.{sample_of}
use Rattle.plugin_decl.specs.declared.declaration.Port.{Port}
use Rattle.plug_api.specs.Inputs.{Inputs, value_at}
use Rattle.plug_api.specs.Meaning.{FrontMeaning}
use Rattle.plug_api.specs.Roles.{has_audio, has_control}
use Rattle.stock_sound.specs.declared.constant.Constant.{Constant}
use Rattle.stock_sound.specs.Plain.{playing}

abbrev pub has_constant_ports : List Port → Bool
has_constant_ports ports = has_control true ports 0 && has_audio false ports 1

-- the value as a sample, in every frame
abbrev pub constant_sound : Inputs → List Sample
constant_sound given = replicate given.frames (sample_of (value_at given 0))

abbrev pub constant : FrontMeaning Constant
constant = playing Constant has_constant_ports 1 constant_sound
