-- By how much an entry of audio's raises the progress.
use Rattle.std.specs.Prelude.{ℕ}
use Rattle.step_law.specs.declared.entry.Kind.{Kind}
use Rattle.step_law.specs.declared.entry.Kind.TheVariants.{Done, Stop}

abbrev pub worth_of : Kind → ℕ
worth_of Done = 1
worth_of Stop = 1
worth_of kind = 0
