-- Histories whose entries broke no rule, each about what the order of work makes of it.
use Rattle.std.specs.Prelude.{◌≡◌, [], ◌∷◌, None}
use Rattle.record_law.specs.declared.shape.Shape.{Shape}
use Rattle.record_law.specs.Message.{History}
use Rattle.record_law.specs.Protocol.{follow_in, about_in}
use Rattle.record_law.specs.Rules.{first_broken}

abbrev pub IsKept : Shape → History → Type 0
IsKept s [] = Unit {0}
IsKept s (x ∷ h) = (first_broken s h x.entry ≡ None) × (x.about ≡ about_in (follow_in s h x.entry)) × IsKept s h
