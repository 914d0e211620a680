-- The rules of a line, in the order of their table. A rule looks at one line and at what the lines before it say, and is judged
-- only where none before it is broken.
use Rattle.std.specs.Prelude.{ℕ, Bool, true, false, not, ◌&&◌, ◌||◌, ◌==◌, nat_le, nat_lt, List, [], ◌∷◌, length, Option, Some, codes, is_some, slice_get, ◌-◌, if◌then◌else◌}
use Rattle.std.specs.Option.{option_map_or}
use Rattle.std.specs.List.{find, list_all}
use Rattle.std.specs.Str.{bytes_eq}
use Rattle.session_script.specs.declared.session.Action.{Action}
use Rattle.session_script.specs.declared.draft.Draft.{Draft}
use Rattle.session_script.specs.declared.fault.ScriptRule.{ScriptRule}
use Rattle.session_script.specs.declared.fault.ScriptRule.TheVariants.{Utf8, Head, Word, Order, Twice, Count, Number, Range, Name, Same, Unknown, Path, Iri, Block, Form}
use Rattle.session_script.specs.Words.{is_name, value_of}
use Rattle.session_script.specs.Sorts.{is_number, is_integer, fits_i32, is_decimal, fits_fixed, is_path, without_slash, is_iri}
use Rattle.session_script.specs.Sections.{order, section_of, setting_in}
use Rattle.session_script.specs.Limits.{least, most, standing, workers_or_default, blocks_or_default}
use Rattle.session_script.specs.Line.{Line}
use Rattle.session_script.specs.Line.Act.{set_value, patch_set, patch_get, restore}
use Rattle.session_script.specs.Line.Line.{skipped, header, setting, bundle, inst, set, cable, out, at, miscounted, unknown}
use Rattle.session_script.specs.Places.{is_there}

-- ---- the words of a line, by what they are to be

-- the words that are numbers of decimal digits
abbrev pub digits_in : Line → List (List ℕ)
digits_in (setting kind number) = number ∷ []
digits_in (inst name uri (Some worker)) = worker ∷ []
digits_in (at block name (restore path place)) = block ∷ place ∷ []
digits_in (at block name act) = block ∷ []
digits_in _ = []

-- the words that are decimals
abbrev pub decimals_in : Line → List (List ℕ)
decimals_in (set name symbol decimal) = decimal ∷ []
decimals_in (at block name (set_value symbol decimal)) = decimal ∷ []
decimals_in (at block name (patch_set property form value)) = if bytes_eq form (codes "fixed") then value ∷ [] else []
decimals_in _ = []

-- the words that are integers with an optional sign
abbrev pub integers_in : Line → List (List ℕ)
integers_in (at block name (patch_set property form value)) = if bytes_eq form (codes "int") then value ∷ [] else []
integers_in _ = []

-- the names and symbols
abbrev pub names_in : Line → List (List ℕ)
names_in (inst name uri worker) = name ∷ []
names_in (set name symbol decimal) = name ∷ symbol ∷ []
names_in (cable source output target input delayed) = source ∷ output ∷ target ∷ input ∷ []
names_in (out name symbol) = name ∷ symbol ∷ []
names_in (at block name (set_value symbol decimal)) = name ∷ symbol ∷ []
names_in (at block name act) = name ∷ []
names_in _ = []

-- the names of instances that are to be there
abbrev pub mentioned_in : Line → List (List ℕ)
mentioned_in (set name symbol decimal) = name ∷ []
mentioned_in (cable source output target input delayed) = source ∷ target ∷ []
mentioned_in (out name symbol) = name ∷ []
mentioned_in (at block name act) = name ∷ []
mentioned_in _ = []

abbrev pub paths_in : Line → List (List ℕ)
paths_in (bundle path) = without_slash path ∷ []
paths_in (at block name (restore path place)) = path ∷ []
paths_in _ = []

abbrev pub iris_in : Line → List (List ℕ)
iris_in (inst name uri worker) = uri ∷ []
iris_in (at block name (patch_set property form value)) = property ∷ []
iris_in (at block name (patch_get (Some property))) = property ∷ []
iris_in _ = []

-- ---- the rules

-- the first line that counts isn't `lv2fx 1`
abbrev pub misses_head : Draft → Line → Bool
misses_head before skipped = false
misses_head before header = false
misses_head before line = order before.section == 0

-- the first word or the action is unknown; `lv2fx` is known at the beginning alone
abbrev pub is_unknown : Draft → Line → Bool
is_unknown before unknown = true
is_unknown before header = not (order before.section == 0)
is_unknown before line = false

-- a line that belongs after this one stands above it
abbrev pub is_late : Draft → Line → Bool
is_late before line = option_map_or (λ section. nat_lt (order section) (order before.section)) (section_of line) false

-- a setting stands again
abbrev pub is_again : Draft → Line → Bool
is_again before line = option_map_or (λ kind. is_some (standing before.numbers kind)) (setting_in line) false

-- the number of words is wrong
abbrev pub is_miscounted : Line → Bool
is_miscounted (miscounted keyword) = true
is_miscounted line = false

abbrev pub are_numbers : Line → Bool
are_numbers line = list_all is_number (digits_in line) && list_all is_decimal (decimals_in line) && list_all is_integer (integers_in line)

abbrev pub is_within : ℕ → ℕ → List ℕ → Bool
is_within low high word = nat_le low (value_of word) && nat_le (value_of word) high

-- a setting within its limits, a WORKER that is there, and a K below 2^32
abbrev pub is_limited : Draft → Line → Bool
is_limited before (setting kind number) = is_within (least kind) (most kind) number
is_limited before (inst name uri (Some worker)) = is_within 1 (workers_or_default before.numbers) worker
is_limited before (at block name (restore path place)) = nat_le (value_of place) 4294967295
is_limited before line = true

abbrev pub are_in_range : Draft → Line → Bool
are_in_range before line = is_limited before line && list_all fits_fixed (decimals_in line) && list_all fits_i32 (integers_in line)

-- an instance's name stands again
abbrev pub is_same : Draft → Line → Bool
is_same before (inst name uri worker) = is_there before.insts name
is_same before line = false

-- the block of the action before
abbrev pub block_reached : List Action → ℕ
block_reached actions = option_map_or (λ (action : Action). action.block) (slice_get actions (length actions - 1)) 0

-- the block is below that of the action before, or above `blocks`
abbrev pub is_out_of_blocks : Draft → Line → Bool
is_out_of_blocks before (at block name act) =
    nat_lt (value_of block) (block_reached before.actions) || nat_lt (blocks_or_default before.numbers) (value_of block)
is_out_of_blocks before line = false

-- the word is neither `delayed`, `fixed` nor `int` where one of these stands
abbrev pub is_malformed : Line → Bool
is_malformed (cable source output target input (Some delayed)) = not (bytes_eq delayed (codes "delayed"))
is_malformed (at block name (patch_set property form value)) = not (bytes_eq form (codes "fixed") || bytes_eq form (codes "int"))
is_malformed line = false

-- whether a line breaks a rule; UTF-8 is a matter of the whole file
abbrev pub breaks : ScriptRule → Draft → Line → Bool
breaks Utf8 before line = false
breaks Head before line = misses_head before line
breaks Word before line = is_unknown before line
breaks Order before line = is_late before line
breaks Twice before line = is_again before line
breaks Count before line = is_miscounted line
breaks Number before line = not (are_numbers line)
breaks Range before line = not (are_in_range before line)
breaks Name before line = not (list_all is_name (names_in line))
breaks Same before line = is_same before line
breaks Unknown before line = not (list_all (is_there before.insts) (mentioned_in line))
breaks Path before line = not (list_all is_path (paths_in line))
breaks Iri before line = not (list_all is_iri (iris_in line))
breaks Block before line = is_out_of_blocks before line
breaks Form before line = is_malformed line

-- the rules on the words of a line
abbrev pub word_rules : List ScriptRule
word_rules = Number ∷ Range ∷ Name ∷ Same ∷ Unknown ∷ Path ∷ Iri ∷ Block ∷ Form ∷ []

-- the table
abbrev pub table : List ScriptRule
table = Head ∷ Word ∷ Order ∷ Twice ∷ Count ∷ word_rules

-- the first rule of the table that a line breaks
abbrev pub broken_rule : Draft → Line → Option ScriptRule
broken_rule before line = find (λ rule. breaks rule before line) table
