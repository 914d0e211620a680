-- Why bytes make no text.
use Rattle.std.specs.Prelude.{◌≡◌, ℕ, List, IsUtf8}
use Rattle.std.specs.Str.Lossy.{utf8_valid_len}
use Rattle.lv_base.specs.declared.text.TextFault.{TextFault}
use Rattle.lv_base.specs.declared.text.TextFault.TheVariants.{NotUtf8, NoMemory}

-- The bytes aren't UTF-8, and the place is the length of the longest front that is. Want of memory has no cause.
abbrev pub IsRefused : List ℕ → TextFault → Type 0
IsRefused bytes (NotUtf8 at) = (¬ IsUtf8 bytes) × (at ≡ utf8_valid_len bytes)
IsRefused bytes NoMemory = Unit {0}
