-- What holds of all records.
use Rattle.std.specs.Prelude.{◌≡◌, ◌⊎◌, ℕ, true, false, List, ◌++◌, Some, None}
use Rattle.step_law.specs.declared.entry.Entry.{Entry}
use Rattle.record_law.specs.declared.shape.Broken.{Broken}
use Rattle.record_law.specs.declared.shape.Shape.{Shape}
use Rattle.step_law.specs.Entry.{join}
use Rattle.step_law.specs.Form.{is_worker}
use Rattle.record_law.specs.History.{has}
use Rattle.record_law.specs.Shape.{worker_of}
use Rattle.record_law.specs.Protocol.{history_of}
use Rattle.record_law.specs.Owners.{Part, inst_of, owner_of}
use Rattle.record_law.specs.Fits.{TakesInTurn}
use Rattle.record_law.specs.Tokens.{on_its_way, messages_of}
use Rattle.record_law.specs.Lawful.{KeepsRules, IsLawful, IsViolation}
use Rattle.record_law.specs.Threading.{KeepsThreadingClasses}
use Rattle.record_law.specs.Verdict.{verdict}

-- each record is lawful, or has a first violation
abbrev pub HasSomeVerdict : Type 0
HasSomeVerdict = (s : Shape) (steps : List Entry) → IsLawful s steps ⊎ ((line : ℕ) × (broken : Broken) × IsViolation s steps line broken)

-- the first violation is one, and a lawful record has none
abbrev pub HasOneViolation : Type 0
HasOneViolation = (s : Shape) (steps : List Entry) (line other : ℕ) (broken also : Broken)
    → IsViolation s steps line broken → IsViolation s steps other also → (line ≡ other) × (broken ≡ also)

abbrev pub LawfulHasNone : Type 0
LawfulHasNone = (s : Shape) (steps : List Entry) (line : ℕ) (broken : Broken) → IsLawful s steps → IsViolation s steps line broken → ⊥

-- the verdict says which
abbrev pub VerdictIsLawful : Type 0
VerdictIsLawful = (s : Shape) (steps : List Entry) → verdict s steps ≡ None → IsLawful s steps

abbrev pub VerdictIsFirst : Type 0
VerdictIsFirst = (s : Shape) (steps : List Entry) (line : ℕ) (broken : Broken) → verdict s steps ≡ Some (line, broken) → IsViolation s steps line broken

-- what begins a record that keeps the rules keeps them
abbrev pub PrefixesKeepRules : Type 0
PrefixesKeepRules = (s : Shape) (first second : List Entry) → KeepsRules s (first ++ second) → KeepsRules s first

-- a record that keeps the rules keeps the threading classes
abbrev pub RulesKeepClasses : Type 0
RulesKeepClasses = (s : Shape) (steps : List Entry) → KeepsRules s steps → KeepsThreadingClasses steps

-- in a record that keeps the rules, each take brings the message that is next on its ring
abbrev pub TakesComeInTurn : Type 0
TakesComeInTurn = (s : Shape) (steps : List Entry) → KeepsRules s steps → TakesInTurn (history_of s steps)

-- and until control has all parts, a part that has an owner is in no message, and one that has none is in one
abbrev pub RulesKeepTokens : Type 0
RulesKeepTokens = (s : Shape) (it : Part) (steps : List Entry) → is_worker (worker_of s (inst_of it)) ≡ true → KeepsRules s steps
    → has join (history_of s steps) ≡ false → on_its_way s it (history_of s steps) ≡ messages_of (owner_of s it (history_of s steps))
