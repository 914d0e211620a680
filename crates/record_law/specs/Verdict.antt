-- The verdict on a record as a function: nothing where it is lawful, else the line and the rule of the first violation.
use Rattle.std.specs.Prelude.{ℕ, suc, Bool, true, false, List, [], ◌∷◌, Option, Some, None}
use Rattle.step_law.specs.declared.entry.Entry.{Entry}
use Rattle.step_law.specs.declared.entry.Kind.TheVariants.{Last}
use Rattle.record_law.specs.declared.shape.Broken.{Broken}
use Rattle.record_law.specs.declared.shape.Broken.TheVariants as rule
use Rattle.record_law.specs.declared.shape.Shape.{Shape}
use Rattle.record_law.specs.Entries.{is_kind}
use Rattle.record_law.specs.Message.{History}
use Rattle.record_law.specs.Protocol.{done_in}
use Rattle.record_law.specs.Lawful.{broken_at}

-- a broken rule at a line, or else what comes later
abbrev pub at_line : ℕ → Option Broken → Option (ℕ × Broken) → Option (ℕ × Broken)
at_line line None later = later
at_line line (Some broken) later = Some (line, broken)

abbrev pub if_ended : ℕ → Bool → Option (ℕ × Broken)
if_ended line true = None
if_ended line false = Some (line, rule.End)

-- the entries from a line on, after a history; whether the line before was an end
abbrev pub verdict_from : Shape → History → ℕ → Bool → List Entry → Option (ℕ × Broken)
verdict_from s h line ended [] = if_ended line ended
verdict_from s h line ended (e ∷ later) =
    let rest = verdict_from s (done_in s h e) (suc line) (is_kind Last e) later in at_line line (broken_at s h e later) rest

abbrev pub verdict : Shape → List Entry → Option (ℕ × Broken)
verdict s steps = verdict_from s [] 2 false steps
