-- What the stock codes play in a block.
use Rattle.std.specs.Prelude.{List, map, replicate}
use Rattle.lv_base.specs.Number.{sample_of, gained}
use Rattle.lv_base.specs.declared.number.Sample.{Sample}
use Rattle.audio_api.specs.Inputs.{Inputs, samples_at, value_at}

-- a constant: the value at port 0 as a sample, in every frame
abbrev pub constant_sound : Inputs → List Sample
constant_sound given = replicate given.frames (sample_of (value_at given 0))

-- an amplifier: each sample at port 1 times the gain at port 0
abbrev pub amplifier_sound : Inputs → List Sample
amplifier_sound given = map (λ (sample : Sample). gained sample (value_at given 0)) (samples_at given 1)
