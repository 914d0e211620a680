-- What a roster of instances keeps.
use Rattle.std.specs.Prelude.{◌≡◌, ℕ, List, position}
use Rattle.std.specs.Str.{bytes_eq}
use Rattle.std.specs.BTreeMap.{get_by_text}
use Rattle.session_script.specs.declared.session.Inst.{Inst}
use Rattle.session_script.specs.declared.roster.Roster.TheInside.{Inside}

abbrev pub insts_in : Inside → List Inst
insts_in roster = roster.insts

-- each name leads to the place of its instance
abbrev pub IsFoundByName : Inside → Type 0
IsFoundByName roster = (name : List ℕ) → get_by_text roster.numbers name ≡ position (λ (one : Inst). bytes_eq one.name name) roster.insts
