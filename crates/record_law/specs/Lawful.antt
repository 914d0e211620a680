-- Lawful records, but for the rule on values, and the first violation of the others.
use Rattle.std.specs.Prelude.{◌≡◌, ◌⊎◌, ℕ, ◌+◌, ◌<◌, Bool, true, false, ◌&&◌, if◌then◌else◌, List, [], ◌∷◌, ◌++◌, length, Option, Some, None}
use Rattle.step_law.specs.declared.entry.Entry.{Entry}
use Rattle.step_law.specs.declared.entry.Kind.TheVariants.{Last}
use Rattle.record_law.specs.declared.shape.Broken.{Broken}
use Rattle.record_law.specs.declared.shape.Broken.TheVariants as rule
use Rattle.record_law.specs.declared.shape.Shape.{Shape}
use Rattle.record_law.specs.Entries.{is_kind}
use Rattle.record_law.specs.Message.{History}
use Rattle.record_law.specs.Protocol.{history_of}
use Rattle.record_law.specs.Rules.{first_broken}

abbrev pub is_some_entry : List Entry → Bool
is_some_entry [] = false
is_some_entry (e ∷ later) = true

-- the rule that is broken first at an entry between a history and later entries; an end of the record is a line only as the last
abbrev pub broken_at : Shape → History → Entry → List Entry → Option Broken
broken_at s h e later = if is_kind Last e && is_some_entry later then Some rule.Syntax else first_broken s h e

-- no entry breaks a rule
abbrev pub KeepsRules : Shape → List Entry → Type 0
KeepsRules s steps = (before later : List Entry) (e : Entry) → steps ≡ before ++ e ∷ later → broken_at s (history_of s before) e later ≡ None

-- the last of these entries, or else the one before them, is the end of a record
abbrev pub ends_by : Bool → List Entry → Bool
ends_by before [] = before
ends_by before (e ∷ later) = ends_by (is_kind Last e) later

abbrev pub is_ended : List Entry → Bool
is_ended steps = ends_by false steps

-- a record is lawful, but for its values
pub record IsLawful (s : Shape) (steps : List Entry) : Type 0 where
  pub keeps_rules : KeepsRules s steps
  pub ended : is_ended steps ≡ true

-- The first violation is at an entry: none that stands before it breaks a rule, and this is the first that it breaks. The first entry is on
-- line 2.
pub record IsFirstAt (s : Shape) (steps : List Entry) (line : ℕ) (broken : Broken) : Type 0 where
  pub before : List Entry
  pub here : Entry
  pub later : List Entry
  pub split : steps ≡ before ++ here ∷ later
  pub place : line ≡ length before + 2
  pub kept : (earlier rest : List Entry) (e : Entry) → steps ≡ earlier ++ e ∷ rest → length earlier < length before
      → broken_at s (history_of s earlier) e rest ≡ None
  pub breaks : broken_at s (history_of s before) here later ≡ Some broken

-- The first violation is that the end is missing, on the line after the last.
pub record IsUnended (s : Shape) (steps : List Entry) (line : ℕ) (broken : Broken) : Type 0 where
  pub keeps_rules : KeepsRules s steps
  pub missing : is_ended steps ≡ false
  pub place : line ≡ length steps + 2
  pub is_end : broken ≡ rule.End

abbrev pub IsViolation : Shape → List Entry → ℕ → Broken → Type 0
IsViolation s steps line broken = IsFirstAt s steps line broken ⊎ IsUnended s steps line broken
