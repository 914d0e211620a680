-- The amplifier: its input times a gain. Ports: gain, in, out.
use Rattle.std.specs.Prelude.{Bool, true, false, ◌&&◌, List, map}
use Rattle.lv_base.specs.declared.number.Sample.{Sample}
use Rattle.lv_base.specs.Number.{gained}
use Rattle.plugin_decl.specs.declared.declaration.Port.{Port}
use Rattle.plug_api.specs.Inputs.{Inputs, samples_at, value_at}
use Rattle.plug_api.specs.Meaning.{FrontMeaning}
use Rattle.plug_api.specs.Roles.{has_audio, has_control}
use Rattle.stock_sound.specs.declared.amplifier.Amplifier.{Amplifier}
use Rattle.stock_sound.specs.Plain.{playing}

abbrev pub has_amplifier_ports : List Port → Bool
has_amplifier_ports ports = has_control true ports 0 && (has_audio true ports 1 && has_audio false ports 2)

-- each sample times the gain
abbrev pub amplifier_sound : Inputs → List Sample
amplifier_sound given = map (λ (sample : Sample). gained sample (value_at given 0)) (samples_at given 1)

abbrev pub amplifier : FrontMeaning Amplifier
amplifier = playing Amplifier has_amplifier_ports 2 amplifier_sound
