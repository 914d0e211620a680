-- What the code's parts of a judgement answer.
use Rattle.std.specs.Prelude.{◌≡◌, ℕ, ◌<◌, ◌^◌, Bool, true, false, IsTrue, List, [], Option, None, Some, codes, if◌then◌else◌}
use Rattle.std.specs.List.{find, slice_split}
use Rattle.std.specs.Str.{bytes_eq}
use Rattle.session_script.specs.declared.draft.Draft.{Draft}
use Rattle.session_script.specs.declared.fault.ScriptRule.{ScriptRule}
use Rattle.session_script.specs.Line.{Line, Act}
use Rattle.session_script.specs.Line.Act.{patch_set, restore}
use Rattle.session_script.specs.Words.{value_of}
use Rattle.session_script.specs.Sorts.{is_decimal, is_integer, fits_fixed, fits_i32, is_slash}
use Rattle.session_script.specs.Rules.{breaks, word_rules}

-- the value of a property is a number of its form
abbrev pub is_value : List ℕ → List ℕ → Bool
is_value form value = if bytes_eq form (codes "fixed") then is_decimal value else (if bytes_eq form (codes "int") then is_integer value else true)

-- the value of a property is in the range of its form
abbrev pub fits_value : List ℕ → List ℕ → Bool
fits_value form value = if bytes_eq form (codes "fixed") then fits_fixed value else (if bytes_eq form (codes "int") then fits_i32 value else true)

-- the first rule on its words that a line breaks
abbrev pub broken_word : Draft → Line → Option ScriptRule
broken_word before line = find (λ rule. breaks rule before line) word_rules

-- what an action needs of its words to be one
abbrev pub IsActWell : Act → Type 0
IsActWell (patch_set property form value) = bytes_eq form (codes "fixed") ≡ false → IsTrue (fits_i32 value)
IsActWell (restore path place) = value_of place < 2 ^ 32
IsActWell act = Unit {0}

abbrev pub IsWorkerWell : Option (List ℕ) → Type 0
IsWorkerWell None = Unit {0}
IsWorkerWell (Some worker) = value_of worker < 2 ^ 32

-- the segments of what is left of a path
abbrev pub segments_in : Option (List ℕ) → List (List ℕ)
segments_in None = []
segments_in (Some rest) = slice_split is_slash rest
