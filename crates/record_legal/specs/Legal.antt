-- Why a record isn't lawful.
use Rattle.std.specs.Prelude.{List}
use Rattle.step_law.specs.declared.entry.Entry.{Entry}
use Rattle.record_law.specs.declared.shape.Shape.{Shape}
use Rattle.record_law.specs.Lawful.{IsViolation}
use Rattle.record_legal.specs.declared.verdict.Illegal.{Illegal}
use Rattle.record_legal.specs.declared.verdict.Illegal.TheVariants.{Broken, NoMemory}

-- its first violation; memory may be wanted anywhere
abbrev pub IsIllegal : Shape → List Entry → Illegal → Type 0
IsIllegal s steps (Broken line rule) = IsViolation s steps line rule
IsIllegal s steps NoMemory = Unit {0}
