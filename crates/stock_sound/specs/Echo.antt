-- The echo: its input, and what it gave eight frames before times the feedback, y[n] = clamp(x[n] + gain(y[n-8], feedback)).
-- Ports: in, out, feedback.
use Rattle.std.specs.Prelude.{ℕ, Bool, true, false, ◌&&◌, List, [], ◌∷◌, ◌++◌, ◌+ℤ◌, drop, slice_index_or}
use Rattle.interaction.specs.Interaction.{Interaction, done}
use Rattle.lv_base.specs.declared.number.Fixed.{Fixed}
use Rattle.lv_base.specs.declared.number.Sample.{Sample}
use Rattle.lv_base.specs.Number.{clamped, gained}
use Rattle.plugin_decl.specs.declared.declaration.Port.{Port}
use Rattle.plug_api.specs.Signal.{sound}
use Rattle.plug_api.specs.Sound.{silent, silence}
use Rattle.plug_api.specs.Inputs.{Inputs, Outputs, samples_at, value_at}
use Rattle.plug_api.specs.Meaning.{FrontMeaning}
use Rattle.plug_api.specs.Roles.{has_audio, has_control}

abbrev pub has_echo_ports : List Port → Bool
has_echo_ports ports = has_audio true ports 0 && (has_audio false ports 1 && has_control true ports 2)

-- what an echo that has given nothing gave in the last eight frames
abbrev pub no_echo : List Sample
no_echo = silence 8

-- what it gave the longest ago of these
abbrev pub oldest : List Sample → Sample
oldest past = slice_index_or past 0 silent

-- a sample and its echo
abbrev pub echoed_sample : Fixed → Sample → Sample → Sample
echoed_sample feedback before sample = clamped (sample.0 +ℤ (gained before feedback).0)

-- a sample more was given
abbrev pub given_more : List Sample → Sample → List Sample
given_more past sample = drop 1 past ++ sample ∷ []

-- what an echo makes of a signal, after what it gave last
abbrev pub echoed : Fixed → List Sample → List Sample → List Sample
echoed feedback past [] = []
echoed feedback past (sample ∷ signal) =
    echoed_sample feedback (oldest past) sample
    ∷ echoed feedback (given_more past (echoed_sample feedback (oldest past) sample)) signal

-- what it gave last, after the signal
abbrev pub past_after : Fixed → List Sample → List Sample → List Sample
past_after feedback past [] = past
past_after feedback past (sample ∷ signal) = past_after feedback (given_more past (echoed_sample feedback (oldest past) sample)) signal

abbrev pub echo_run : List Sample → Inputs → Interaction (List Sample × Outputs)
echo_run past given =
    done (
      past_after (value_at given 2) past (samples_at given 0),
      (1, sound (echoed (value_at given 2) past (samples_at given 0))) ∷ [],
    )

-- activated, it begins in silence
abbrev pub echo : FrontMeaning (List Sample)
echo = record {
  fits = λ past. has_echo_ports;
  activate = λ past. no_echo;
  deactivate = λ past. past;
  run = echo_run;
  response = λ past body. past;
  end_run = λ past. past;
}
