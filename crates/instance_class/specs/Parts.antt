-- An instance, whole and in its two parts.
use Rattle.std.specs.Prelude.{ℕ, List, Result, Ok, Err}
use Rattle.plugin_decl.specs.declared.declaration.Port.{Port}

-- an instance that was made: its number, its declared ports, and both parts
pub record Whole (F B : Type 0) : Type 0 where
  pub inst : ℕ
  pub ports : List Port
  pub front : F
  pub back : B

-- its front, with the declared ports
pub record FrontPart (F : Type 0) : Type 0 where
  pub inst : ℕ
  pub ports : List Port
  pub part : F

-- its back
pub record BackPart (B : Type 0) : Type 0 where
  pub inst : ℕ
  pub part : B

-- both parts of what was made, or why nothing was
abbrev pub parts_of : {F B E : Type 0} → Result (Whole F B) E → Result (F × B) E
parts_of (Ok made) = Ok (made.front, made.back)
parts_of (Err fault) = Err fault
