-- What stands at a place of some bytes.
use Rattle.std.specs.Prelude.{◌≡◌, ◌≢◌, ℕ, ◌+◌, ◌*◌, ◌/◌, ◌<◌, ◌≤◌, List, [], ◌∷◌, length, slice_index, slice_range}
use Rattle.std.specs.Int.{w32, w64, from_le_bytes}

-- the number in four bytes, the low byte first
unfoldable pub number_at : List ℕ → ℕ → ℕ
number_at bytes at =
    from_le_bytes w32 (slice_index bytes at ∷ slice_index bytes (at + 1) ∷ slice_index bytes (at + 2) ∷ slice_index bytes (at + 3) ∷ [])

-- the number in eight bytes
unfoldable pub wide_at : List ℕ → ℕ → ℕ
wide_at bytes at =
    from_le_bytes w64
    (slice_index bytes at ∷ slice_index bytes (at + 1) ∷ slice_index bytes (at + 2) ∷ slice_index bytes (at + 3)
    ∷ slice_index bytes (at + 4) ∷ slice_index bytes (at + 5) ∷ slice_index bytes (at + 6) ∷ slice_index bytes (at + 7) ∷ [])

-- an atom's header has the size of its body and then its type
abbrev pub size_at : List ℕ → ℕ → ℕ
size_at bytes at = number_at bytes at

abbrev pub kind_at : List ℕ → ℕ → ℕ
kind_at bytes at = number_at bytes (at + 4)

-- up to the next multiple of 8
abbrev pub padded : ℕ → ℕ
padded size = (size + 7) / 8 * 8

-- these bytes stand here
pub record Stands (bytes : List ℕ) (from to : ℕ) (text : List ℕ) : Type 0 where
  pub ends : from + length text ≡ to
  pub text_is : slice_range bytes from to ≡ text

-- all bytes from one place up to another are zero
abbrev pub AreZero : List ℕ → ℕ → ℕ → Type 0
AreZero bytes from to = (k : ℕ) → from ≤ k → k < to → slice_index bytes k ≡ 0

-- the first byte of these that isn't zero
pub record IsFirstOther (bytes : List ℕ) (from to place : ℕ) : Type 0 where
  pub begins : from ≤ place
  pub within : place < to
  pub other : slice_index bytes place ≢ 0
  pub first : AreZero bytes from place
