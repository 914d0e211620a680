-- Which texts are records, and what is told of the others.
use Rattle.std.specs.Prelude.{◌≡◌, ℕ, ◌+◌, ◌-◌, ◌^◌, ◌<◌, ◌≤◌, ◌==◌, nat_eq, if◌then◌else◌, Bool, true, false, ◌⊎◌, List, [], ◌∷◌, ◌++◌, length, drop, count_by, flat_map, Option, Some, None, codes}
use Rattle.std.specs.List.{starts_with, ends_with}
use Rattle.step_law.specs.declared.entry.Entry.{Entry}
use Rattle.step_law.specs.declared.entry.Kind.{Kind}
use Rattle.step_law.specs.declared.entry.Kind.TheVariants.{Last}
use Rattle.step_law.specs.Form.{IsForm}
use Rattle.step_record.specs.declared.fault.RecordFault.{RecordFault}
use Rattle.step_record.specs.declared.fault.RecordFault.TheVariants.{TooMany, Syntax, NoMemory}
use Rattle.step_record.specs.RecordText.{line_of}
use Rattle.step_record.specs.Words.{entry_in}

-- the end of a record
abbrev pub is_last : Kind → Bool
is_last Last = true
is_last _ = false

-- Each entry has a form, and none is the end of a record.
abbrev pub AreOpen : List Entry → Type 0
AreOpen [] = Unit {0}
AreOpen (e ∷ more) = IsForm e × (is_last e.kind ≡ false) × AreOpen more

-- A record is formed: each entry has a form, and the end stands nowhere but at the end.
abbrev pub IsFormed : List Entry → Type 0
IsFormed [] = Unit {0}
IsFormed (e ∷ []) = IsForm e
IsFormed (e ∷ f ∷ more) = IsForm e × (is_last e.kind ≡ false) × IsFormed (f ∷ more)

-- A text begins with no line that has a form; the line of the end has one only as the last.
abbrev pub HasNoLine : List ℕ → Type 0
HasNoLine text = (e : Entry) (after : List ℕ) → IsForm e → text ≡ line_of e ++ after → (is_last e.kind ≡ true) × (0 < length after)

-- The first line that has no form, of those after the first line of a text: the lines before it have forms.
pub record LacksForm (line : ℕ) (lines : List ℕ) : Type 0 where
  pub before : List Entry
  pub after : List ℕ
  pub forms : AreOpen before
  pub some : 0 < length after
  pub same : lines ≡ flat_map line_of before ++ after
  pub place : line ≡ length before + 2
  pub none : HasNoLine after

-- the first line of each record
abbrev pub first_line : List ℕ
first_line = codes "lv2fx-record 1\n"

-- The first line without a form: the first one is another, or it comes after it.
abbrev pub IsFirstWithout : ℕ → List ℕ → Type 0
IsFirstWithout line text = ((line ≡ 1) × ((lines : List ℕ) → text ≡ first_line ++ lines → ⊥)) ⊎ ((lines : List ℕ) × (text ≡ first_line ++ lines) × LacksForm line lines)

-- how many lines a text has, with what follows the last line feed
abbrev pub line_count : List ℕ → ℕ
line_count text = count_by (λ byte. byte == 10) text + (if ends_with nat_eq text (codes "\n") then 0 else 1)

-- how many of them follow the first, without a last line `end`
abbrev pub lines_after : List ℕ → ℕ
lines_after text = line_count text - (if ends_with nat_eq text (codes "\nend\n") then 2 else 1)

-- how many may
abbrev pub most_lines : ℕ
most_lines = 2 ^ 22 + 2 ^ 19

-- the entry of the line that a text begins with, and the line's length
abbrev pub line_for : List ℕ → Option Entry → Option (Entry × ℕ)
line_for text None = None
line_for text (Some e) = if starts_with nat_eq text (line_of e) then Some (e, length (line_of e)) else None

abbrev pub line_at : List ℕ → Option (Entry × ℕ)
line_at text = line_for text (entry_in text)

-- a line may stand with so many bytes after it: the end of the record stands at the end
abbrev pub stands : Kind → ℕ → Bool
stands Last after = after == 0
stands _ after = true

abbrev pub next_for : List ℕ → Option (Entry × ℕ) → Option (Entry × ℕ)
next_for text None = None
next_for text (Some line) = if stands line.0.kind (length text - line.1) then Some line else None

abbrev pub next_at : List ℕ → Option (Entry × ℕ)
next_at text = next_for text (line_at text)

-- one line was read: its entry was put at the end
pub record ReadsLine (old : List Entry) (text : List ℕ) (count : ℕ) (new : List Entry) : Type 0 where
  pub entry : Entry
  pub form : IsForm entry
  pub same : text ≡ line_of entry ++ drop count text
  pub some : 0 < count
  pub within : count ≤ length text
  pub put : new ≡ old ++ entry ∷ []
  pub last : 0 < length (drop count text) → is_last entry.kind ≡ false

-- what a fault says of a text after so many entries
abbrev pub SaysNext : RecordFault → ℕ → List ℕ → Type 0
SaysNext (TooMany count) entries text = ⊥
SaysNext (Syntax line) entries text = (line ≡ entries + 2) × HasNoLine text
SaysNext NoMemory entries text = Unit {0}

-- what a fault says of the lines after the first
abbrev pub SaysOfLines : RecordFault → List ℕ → Type 0
SaysOfLines (TooMany count) lines = ⊥
SaysOfLines (Syntax line) lines = LacksForm line lines
SaysOfLines NoMemory lines = Unit {0}

-- what a fault says of a text whose lines aren't too many
abbrev pub SaysOfText : RecordFault → List ℕ → Type 0
SaysOfText (TooMany count) text = ⊥
SaysOfText (Syntax line) text = IsFirstWithout line text
SaysOfText NoMemory text = Unit {0}

-- what a fault says of a text: too many lines before all else
abbrev pub Says : RecordFault → List ℕ → Type 0
Says (TooMany count) text = (count ≡ lines_after text) × (most_lines < count)
Says (Syntax line) text = (lines_after text ≤ most_lines) × IsFirstWithout line text
Says NoMemory text = Unit {0}
