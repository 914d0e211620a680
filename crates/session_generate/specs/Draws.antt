-- Pseudorandom numbers: a linear congruential generator modulo 2^64.
use Rattle.std.specs.Prelude.{ℕ, ◌+◌, ◌*◌, ◌/◌, ◌%◌, ◌^◌}

-- the state that comes after a state
abbrev pub next : ℕ → ℕ
next state = (state * 6364136223846793005 + 1442695040888963407) % 2 ^ 64

-- the number that is drawn at a state: its upper 31 bits
abbrev pub drawn : ℕ → ℕ
drawn state = state / 2 ^ 33
