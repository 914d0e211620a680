-- A record that is judged line by line: what is known before a line, and which rule an entry breaks there first.
use Rattle.std.specs.Prelude.{◌≡◌, ◌⊎◌, ℕ, suc, ◌+◌, ◌<◌, Bool, true, false, ◌&&◌, if◌then◌else◌, List, [], ◌∷◌, ◌++◌, length, Option, Some, None}
use Rattle.step_law.specs.declared.entry.Entry.{Entry}
use Rattle.step_law.specs.declared.entry.Kind.TheVariants.{Last}
use Rattle.record_law.specs.declared.shape.Broken.{Broken}
use Rattle.record_law.specs.declared.shape.Broken.TheVariants as rule
use Rattle.record_law.specs.Entries.{is_kind}
use Rattle.record_law.specs.Lawful.{is_some_entry, is_ended}
use Rattle.record_law.specs.Verdict.{at_line, if_ended}

-- what is known at first and after an entry, and the first rule that an entry breaks
pub record Judging (S : Type 0) : Type 0 where
  pub start : S
  pub next : S → Entry → S
  pub first_broken : S → Entry → Option Broken

-- what is known after entries, in order
abbrev pub known_after : {S : Type 0} → Judging S → S → List Entry → S
known_after j s [] = s
known_after j s (e ∷ later) = known_after j (j.next s e) later

-- the rule that is broken first at an entry before later ones; an end of the record is a line only as the last
abbrev pub broken_at : {S : Type 0} → Judging S → S → Entry → List Entry → Option Broken
broken_at j s e later = if is_kind Last e && is_some_entry later then Some rule.Syntax else j.first_broken s e

-- no entry breaks a rule
abbrev pub KeepsRules : {S : Type 0} → Judging S → List Entry → Type 0
KeepsRules j steps = (before later : List Entry) (e : Entry) → steps ≡ before ++ e ∷ later → broken_at j (known_after j j.start before) e later ≡ None

-- a record is lawful
pub record IsLawful {S : Type 0} (j : Judging S) (steps : List Entry) : Type 0 where
  pub keeps_rules : KeepsRules j steps
  pub ended : is_ended steps ≡ true

-- The first violation is at an entry: none that stands before it breaks a rule, and this is the first that it breaks. The first entry is on
-- line 2.
pub record IsFirstAt {S : Type 0} (j : Judging S) (steps : List Entry) (line : ℕ) (broken : Broken) : Type 0 where
  pub before : List Entry
  pub here : Entry
  pub later : List Entry
  pub split : steps ≡ before ++ here ∷ later
  pub place : line ≡ length before + 2
  pub kept : (earlier rest : List Entry) (e : Entry) → steps ≡ earlier ++ e ∷ rest → length earlier < length before
      → broken_at j (known_after j j.start earlier) e rest ≡ None
  pub breaks : broken_at j (known_after j j.start before) here later ≡ Some broken

-- The first violation is that the end is missing, on the line after the last.
pub record IsUnended {S : Type 0} (j : Judging S) (steps : List Entry) (line : ℕ) (broken : Broken) : Type 0 where
  pub keeps_rules : KeepsRules j steps
  pub missing : is_ended steps ≡ false
  pub place : line ≡ length steps + 2
  pub is_end : broken ≡ rule.End

abbrev pub IsViolation : {S : Type 0} → Judging S → List Entry → ℕ → Broken → Type 0
IsViolation j steps line broken = IsFirstAt j steps line broken ⊎ IsUnended j steps line broken

-- ---- as a function: nothing where the record is lawful, else the line and the rule of the first violation

abbrev pub verdict_from : {S : Type 0} → Judging S → S → ℕ → Bool → List Entry → Option (ℕ × Broken)
verdict_from j s line ended [] = if_ended line ended
verdict_from j s line ended (e ∷ later) =
    let rest = verdict_from j (j.next s e) (suc line) (is_kind Last e) later in at_line line (broken_at j s e later) rest

abbrev pub verdict : {S : Type 0} → Judging S → List Entry → Option (ℕ × Broken)
verdict j steps = verdict_from j j.start 2 false steps
