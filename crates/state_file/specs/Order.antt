-- The order in which a state file names the properties of a state.
use Rattle.std.specs.Prelude.{ℕ, Bool, List, [], fold, insert, unwrap_or}
use Rattle.std.specs.Cmp.Lexicographic.{slice_cmp}
use Rattle.std.specs.List.{position_or_len}
use Rattle.std.specs.Ordering.{nat_cmp, is_lt}
use Rattle.urid_map.specs.Numbers.{uri_of}

-- the characters of the URI with a number, none where no URI has it
abbrev pub uri_text : List (List ℕ) → ℕ → List ℕ
uri_text urids number = unwrap_or (uri_of urids number) []

-- the URI of one key comes before that of another, byte by byte
abbrev pub comes_before : List (List ℕ) → ℕ → ℕ → Bool
comes_before urids key other = is_lt (slice_cmp nat_cmp (uri_text urids key) (uri_text urids other))

-- a key among others: before the first whose URI comes after its own
abbrev pub placed : List (List ℕ) → List ℕ → ℕ → List ℕ
placed urids keys key = insert keys (position_or_len (comes_before urids key) keys) key

-- keys in the byte order of their URIs
abbrev pub in_order : List (List ℕ) → List ℕ → List ℕ
in_order urids keys = fold (placed urids) [] keys
