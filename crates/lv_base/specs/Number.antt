-- The exact numbers: what a sample, a gain, a mix and 16 bits are.
use Rattle.std.specs.Prelude.{ℤ, pos, ◌+ℤ◌, ◌*ℤ◌, List, fold}
use Rattle.std.specs.Int.{w16, w32, saturate_signed, int_shr}
use Rattle.lv_base.specs.declared.number.Fixed.{Fixed}
use Rattle.lv_base.specs.declared.number.Sample.{Sample}

-- the sample nearest to a number of 2^-24 parts
abbrev pub clamped : ℤ → Sample
clamped parts = record { 0 = saturate_signed w32 parts }

-- the sample nearest to a control value
abbrev pub sample_of : Fixed → Sample
sample_of value = clamped value.0

-- a sample times a factor, rounded down to a part
abbrev pub gained : Sample → Fixed → Sample
gained sample factor = clamped (int_shr (sample.0 *ℤ factor.0) 24)

-- the exact sum of samples, in parts
abbrev pub sum_of : List Sample → ℤ
sum_of = fold (λ sum part. sum +ℤ part.0) (pos 0)

-- the exact sum, clamped once
abbrev pub mix_of : List Sample → Sample
mix_of parts = clamped (sum_of parts)

-- a sample in 16 bits: full scale is 1.0
abbrev pub pcm_of : Sample → ℤ
pcm_of sample = saturate_signed w16 (int_shr sample.0 9)
