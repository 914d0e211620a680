-- What holds of all plays, and of all judged records.
use Rattle.std.specs.Prelude.{◌≡◌, ◌⊎◌, ℕ, List, ◌++◌, Some, None}
use Rattle.step_law.specs.declared.entry.Entry.{Entry}
use Rattle.record_law.specs.declared.shape.Broken.{Broken}
use Rattle.record_law.specs.Lawful as plain
use Rattle.session_play.specs.Judging.{Judging, KeepsRules, IsLawful, IsViolation, verdict}
use Rattle.session_play.specs.Playing.{IsPlayOf, playing, play_of}
use Rattle.session_play.specs.Rules.{IsLawfulRecord, IsFirstViolation}
use Rattle.session_play.specs.Run.{Run}
use Rattle.session_play.specs.SessionShape.{shape_of}
use Rattle.session_play.specs.Value.{Play}

-- a record has at most one play
abbrev pub HasOnePlay : Type 0 → Type 0 → Type 0
HasOnePlay F B = (run : Run F B) (steps : List Entry) (p q : Play F B) → IsPlayOf run steps p → IsPlayOf run steps q → p ≡ q

-- and it has one
abbrev pub HasSomePlay : Type 0 → Type 0 → Type 0
HasSomePlay F B = (run : Run F B) (steps : List Entry) → IsPlayOf run steps (play_of run steps)

-- the play of a record goes on from that of its first entries
abbrev pub PlaysGoOn : Type 0 → Type 0 → Type 0
PlaysGoOn F B = (run : Run F B) (first second : List Entry) → play_of run (first ++ second) ≡ playing run (play_of run first) second

-- ---- judged records

-- each record is lawful, or has a first violation
abbrev pub HasSomeVerdict : Type 0 → Type 0
HasSomeVerdict S = (j : Judging S) (steps : List Entry) → IsLawful j steps ⊎ ((line : ℕ) × (broken : Broken) × IsViolation j steps line broken)

-- the first violation is one, and a lawful record has none
abbrev pub HasOneViolation : Type 0 → Type 0
HasOneViolation S = (j : Judging S) (steps : List Entry) (line other : ℕ) (broken also : Broken)
    → IsViolation j steps line broken → IsViolation j steps other also → (line ≡ other) × (broken ≡ also)

abbrev pub LawfulHasNone : Type 0 → Type 0
LawfulHasNone S = (j : Judging S) (steps : List Entry) (line : ℕ) (broken : Broken) → IsLawful j steps → IsViolation j steps line broken → ⊥

-- the verdict says which
abbrev pub VerdictIsLawful : Type 0 → Type 0
VerdictIsLawful S = (j : Judging S) (steps : List Entry) → verdict j steps ≡ None → IsLawful j steps

abbrev pub VerdictIsFirst : Type 0 → Type 0
VerdictIsFirst S = (j : Judging S) (steps : List Entry) (line : ℕ) (broken : Broken) → verdict j steps ≡ Some (line, broken) → IsViolation j steps line broken

-- ---- records with values

-- each record is lawful, or has a first violation
abbrev pub IsLawfulOrBroken : Type 0 → Type 0 → Type 0
IsLawfulOrBroken F B = (run : Run F B) (steps : List Entry)
    → IsLawfulRecord run steps ⊎ ((line : ℕ) × (broken : Broken) × IsFirstViolation run steps line broken)

-- the first violation is one, and a lawful record has none
abbrev pub IsBrokenOnce : Type 0 → Type 0 → Type 0
IsBrokenOnce F B = (run : Run F B) (steps : List Entry) (line other : ℕ) (broken also : Broken)
    → IsFirstViolation run steps line broken → IsFirstViolation run steps other also → (line ≡ other) × (broken ≡ also)

abbrev pub IsLawfulOnly : Type 0 → Type 0 → Type 0
IsLawfulOnly F B = (run : Run F B) (steps : List Entry) (line : ℕ) (broken : Broken) → IsLawfulRecord run steps → IsFirstViolation run steps line broken → ⊥

-- a record that is lawful with its values is lawful but for them
abbrev pub IsLawfulBesides : Type 0 → Type 0 → Type 0
IsLawfulBesides F B = (run : Run F B) (steps : List Entry) → IsLawfulRecord run steps → plain.IsLawful (shape_of run.setup) steps

-- what begins a record that keeps the rules keeps them
abbrev pub BeginningsKeepRules : Type 0 → Type 0
BeginningsKeepRules S = (j : Judging S) (first second : List Entry) → KeepsRules j (first ++ second) → KeepsRules j first
