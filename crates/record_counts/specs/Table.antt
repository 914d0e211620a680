-- A list that holds at each place what a function gives there.
use Rattle.std.specs.Prelude.{◌≡◌, ℕ, ◌<◌, List, length, slice_get, Some}

abbrev pub IsTable : {A : Type 0} → (ℕ → A) → List A → Type 0
IsTable f xs = (i : ℕ) → i < length xs → slice_get xs i ≡ Some (f i)
