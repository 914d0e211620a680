-- How many digits of a number count, and what they spell: the reader's own words. No public clause rests on them.
use Rattle.std.specs.Prelude.{ℕ, ◌+◌, ◌-◌, ◌*◌, ◌^◌, if◌then◌else◌, List, length, take, min}
use Rattle.lv_base.specs.Decimal.{is_negative, after_sign, number_of}

-- a count of units that is far out of range stands for all above it
abbrev pub capped : ℕ → ℕ
capped units = min units (10 ^ 30)

-- how many digits from the first on stand for 10^-18 or more
abbrev pub digits_kept : ℕ → List ℕ → ℕ
digits_kept whole exponent =
    let moved = number_of (after_sign exponent) in
    if is_negative exponent then whole + 18 - moved else whole + 18 + moved

-- the number that the first `keep` digits spell, with zeros where there are fewer
abbrev pub leading : ℕ → List ℕ → ℕ
leading keep digits = number_of (take keep digits) * 10 ^ (keep - length digits)
