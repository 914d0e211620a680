-- The rules of a record with its values, and lawful records.
use Rattle.std.specs.Prelude.{ℕ, Bool, not, List, [], ◌∷◌, find, Option}
use Rattle.step_law.specs.declared.entry.Entry.{Entry}
use Rattle.record_law.specs.declared.shape.Broken.{Broken}
use Rattle.record_law.specs.declared.shape.Broken.TheVariants.{Syntax, Order, Ring, Full, Room, Look, Holder, Class, Value, End}
use Rattle.record_law.specs.Rules as plain
use Rattle.session_play.specs.Judging.{Judging, IsLawful, IsViolation, verdict}
use Rattle.session_play.specs.Looking.{steps_of}
use Rattle.session_play.specs.Playing.{step_at, then_played}
use Rattle.session_play.specs.Run.{Run}
use Rattle.session_play.specs.SessionShape.{shape_of}
use Rattle.session_play.specs.Value.{Play}
use Rattle.session_play.specs.ValueRule.{keeps_values}

-- an entry after a play keeps a rule
abbrev pub keeps : {F B : Type 0} → Run F B → Play F B → Entry → Broken → Bool
keeps run p e Value = keeps_values run p (step_at run p e)
keeps run p e broken = plain.keeps (shape_of run.setup) (steps_of p) e broken

-- the rules in the order in which they are tried
abbrev pub rules : List Broken
rules = Syntax ∷ Order ∷ Ring ∷ Full ∷ Room ∷ Look ∷ Holder ∷ Class ∷ Value ∷ End ∷ []

-- the first rule that an entry breaks
abbrev pub first_broken : {F B : Type 0} → Run F B → Play F B → Entry → Option Broken
first_broken run p e = find (λ broken. not (keeps run p e broken)) rules

-- how the records of a run are judged: by what was played before
abbrev pub judging : {F B : Type 0} → Run F B → Judging (Play F B)
judging run = record { start = []; next = then_played run; first_broken = first_broken run }

-- a record is lawful, with its values
abbrev pub IsLawfulRecord : {F B : Type 0} → Run F B → List Entry → Type 0
IsLawfulRecord run steps = IsLawful (judging run) steps

-- a rule is the first that it breaks, on a line
abbrev pub IsFirstViolation : {F B : Type 0} → Run F B → List Entry → ℕ → Broken → Type 0
IsFirstViolation run steps line broken = IsViolation (judging run) steps line broken

-- the same as a function: nothing where it is lawful
abbrev pub judged : {F B : Type 0} → Run F B → List Entry → Option (ℕ × Broken)
judged run steps = verdict (judging run) steps
