-- The mixer: the sum of its two inputs. Ports: a, b, out.
use Rattle.std.specs.Prelude.{Bool, true, false, ◌&&◌, List, [], ◌∷◌}
use Rattle.lv_base.specs.declared.number.Sample.{Sample}
use Rattle.lv_base.specs.Number.{mix_of}
use Rattle.plugin_decl.specs.declared.declaration.Port.{Port}
use Rattle.plug_api.specs.Inputs.{Inputs, samples_at}
use Rattle.plug_api.specs.Meaning.{FrontMeaning}
use Rattle.plug_api.specs.Roles.{has_audio}
use Rattle.stock_sound.specs.declared.mixer.Mixer.{Mixer}
use Rattle.stock_sound.specs.Plain.{playing}

abbrev pub has_mixer_ports : List Port → Bool
has_mixer_ports ports = has_audio true ports 0 && (has_audio true ports 1 && has_audio false ports 2)

-- two signals mixed, frame by frame
abbrev pub mixed : List Sample → List Sample → List Sample
mixed [] signal = []
mixed (sample ∷ signal) [] = []
mixed (sample ∷ signal) (other ∷ others) = mix_of (sample ∷ other ∷ []) ∷ mixed signal others

abbrev pub mixer_sound : Inputs → List Sample
mixer_sound given = mixed (samples_at given 0) (samples_at given 1)

abbrev pub mixer : FrontMeaning Mixer
mixer = playing Mixer has_mixer_ports 2 mixer_sound
