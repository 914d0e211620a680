-- The ports that each code finds where it fits.
use Rattle.std.proofs.Common.{◌≡◌, true, false, ◌&&◌, List}
use Rattle.std.proofs.lemmas.Bool.{and_parts}
use Rattle.plugin_decl.specs.declared.declaration.Port.{Port}
use Rattle.plug_api.specs.Roles.{has_audio, has_sound, has_control}
use Rattle.plug_api.proofs.Lent.{audio_sounds}
use Rattle.stock_sound.specs.Constant.{has_constant_ports}
use Rattle.stock_sound.specs.Amplifier.{has_amplifier_ports}
use Rattle.stock_sound.specs.Mixer.{has_mixer_ports}
use Rattle.stock_sound.specs.Echo.{has_echo_ports}

pub record ConstantPorts (ports : List Port) : Type 0 where
  pub value : has_control true ports 0 ≡ true
  pub out : has_sound false ports 1 ≡ true

pub constant_ports : (ports : List Port) → has_constant_ports ports ≡ true → ConstantPorts ports
constant_ports ports h =
    let all = and_parts (has_control true ports 0) (has_audio false ports 1) h in
    record { value = all.0; out = audio_sounds false ports 1 all.1 }

pub record AmplifierPorts (ports : List Port) : Type 0 where
  pub factor : has_control true ports 0 ≡ true
  pub given : has_sound true ports 1 ≡ true
  pub out : has_sound false ports 2 ≡ true

pub amplifier_ports : (ports : List Port) → has_amplifier_ports ports ≡ true → AmplifierPorts ports
amplifier_ports ports h =
    let all = and_parts (has_control true ports 0) (has_audio true ports 1 && has_audio false ports 2) h in
    let rest = and_parts (has_audio true ports 1) (has_audio false ports 2) all.1 in
    record { factor = all.0; given = audio_sounds true ports 1 rest.0; out = audio_sounds false ports 2 rest.1 }

pub record MixerPorts (ports : List Port) : Type 0 where
  pub first : has_sound true ports 0 ≡ true
  pub second : has_sound true ports 1 ≡ true
  pub out : has_sound false ports 2 ≡ true

pub mixer_ports : (ports : List Port) → has_mixer_ports ports ≡ true → MixerPorts ports
mixer_ports ports h =
    let all = and_parts (has_audio true ports 0) (has_audio true ports 1 && has_audio false ports 2) h in
    let rest = and_parts (has_audio true ports 1) (has_audio false ports 2) all.1 in
    record {
      first = audio_sounds true ports 0 all.0;
      second = audio_sounds true ports 1 rest.0;
      out = audio_sounds false ports 2 rest.1;
    }

pub record EchoPorts (ports : List Port) : Type 0 where
  pub given : has_sound true ports 0 ≡ true
  pub out : has_sound false ports 1 ≡ true
  pub feedback : has_control true ports 2 ≡ true

pub echo_ports : (ports : List Port) → has_echo_ports ports ≡ true → EchoPorts ports
echo_ports ports h =
    let all = and_parts (has_audio true ports 0) (has_audio false ports 1 && has_control true ports 2) h in
    let rest = and_parts (has_audio false ports 1) (has_control true ports 2) all.1 in
    record { given = audio_sounds true ports 0 all.0; out = audio_sounds false ports 1 rest.0; feedback = rest.1 }
