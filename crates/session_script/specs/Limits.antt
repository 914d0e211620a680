-- The limits of a session, and the numbers that hold where no line sets them.
use Rattle.std.specs.Prelude.{ℕ, ◌*◌, ◌^◌, ◌≤◌, Bool, true, false, nat_lt, List, [], ◌∷◌, length, filter, Option, None, IfSome, unwrap_or}
use Rattle.std.specs.Option.{option_map}
use Rattle.std.specs.List.{find}
use Rattle.session_script.specs.declared.session.Session.{Session}
use Rattle.session_script.specs.declared.session.Action.{Action}
use Rattle.session_script.specs.declared.session.Deed.{Deed}
use Rattle.session_script.specs.declared.session.Deed.TheVariants.{Save}
use Rattle.session_script.specs.declared.keyword.Setting.{Setting}
use Rattle.session_script.specs.declared.keyword.Setting.TheVariants.{Rate, Block, Blocks, Workers, Cells, Record}
use Rattle.session_script.specs.declared.numbers.Numbers.{Numbers}
use Rattle.session_script.specs.declared.fault.Limit.{Limit}
use Rattle.session_script.specs.declared.fault.Limit.TheVariants.{Bundles, Instances, Cables, Outputs, Actions, Saves, Samples}

-- the least number of each setting
abbrev pub least : Setting → ℕ
least Rate = 1
least Block = 1
least Blocks = 0
least Workers = 1
least Cells = 1
least Record = 1

-- the greatest number of each setting
abbrev pub most : Setting → ℕ
most Rate = 1000000
most Block = 4096
most Blocks = 65536
most Workers = 8
most Cells = 64
most Record = 4194304

-- the number that a setting has, if its line stands
abbrev pub standing : Numbers → Setting → Option ℕ
standing numbers Rate = numbers.rate
standing numbers Block = numbers.block
standing numbers Blocks = numbers.blocks
standing numbers Workers = numbers.workers
standing numbers Cells = numbers.cells
standing numbers Record = numbers.reserve

-- no setting's line stands
abbrev pub no_numbers : Numbers
no_numbers = record { rate = None; block = None; blocks = None; workers = None; cells = None; reserve = None }

abbrev pub workers_or_default : Numbers → ℕ
workers_or_default numbers = unwrap_or numbers.workers 1

abbrev pub blocks_or_default : Numbers → ℕ
blocks_or_default numbers = unwrap_or numbers.blocks 0

abbrev pub saves : Deed → Bool
saves Save = true
saves deed = false

abbrev pub is_save : Action → Bool
is_save action = saves action.deed

-- how many there are of what is limited, and how many there may be at most
pub record Count : Type 0 where
  pub which : Limit
  pub number : ℕ
  pub limit : ℕ

-- what is limited, in the order of the limits
abbrev pub counts : Session → List Count
counts s =
    record { which = Bundles; number = length s.bundles; limit = 64 }
    ∷ record { which = Instances; number = length s.insts; limit = 32 }
    ∷ record { which = Cables; number = length s.cables; limit = 256 }
    ∷ record { which = Outputs; number = length s.outs; limit = 8 }
    ∷ record { which = Actions; number = length s.actions; limit = 1024 }
    ∷ record { which = Saves; number = length (filter is_save s.actions); limit = 128 }
    ∷ record { which = Samples; number = s.block * s.blocks * length s.outs; limit = 2 ^ 25 }
    ∷ []

-- the first limit that a session passes, if it passes one, with the number that passes it
abbrev pub passed : Session → Option (Limit × ℕ)
passed s = option_map (λ (count : Count). (count.which, count.number)) (find (λ (count : Count). nat_lt count.limit count.number) (counts s))

-- each setting that stands is within its limits
abbrev pub AreInBounds : Numbers → Type 0
AreInBounds numbers = (kind : Setting) → IfSome (standing numbers kind) (λ number. (least kind ≤ number) × (number ≤ most kind))
