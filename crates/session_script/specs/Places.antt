-- Where an instance stands.
use Rattle.std.specs.Prelude.{ℕ, Bool, nat_lt, List, length}
use Rattle.std.specs.List.{position_or_len}
use Rattle.std.specs.Str.{bytes_eq}
use Rattle.session_script.specs.declared.session.Inst.{Inst}

-- the number of the instance with this name, or of all instances where there is none
abbrev pub place : List Inst → List ℕ → ℕ
place insts name = position_or_len (λ (one : Inst). bytes_eq one.name name) insts

-- an instance of this name is there
abbrev pub is_there : List Inst → List ℕ → Bool
is_there insts name = nat_lt (place insts name) (length insts)
