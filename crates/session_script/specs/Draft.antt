-- What the lines read so far say together.
use Rattle.std.specs.Prelude.{ℕ, nat_le, List, fold, slice_get, Option, Some, None, codes, is_some, if◌then◌else◌}
use Rattle.std.specs.Option.{option_map}
use Rattle.std.specs.List.{filter_map, enumerate_from}
use Rattle.std.specs.Str.{bytes_eq}
use Rattle.session_script.specs.declared.session.Inst.{Inst}
use Rattle.session_script.specs.declared.session.SetLine.{SetLine}
use Rattle.session_script.specs.declared.session.CableLine.{CableLine}
use Rattle.session_script.specs.declared.session.OutLine.{OutLine}
use Rattle.session_script.specs.declared.session.Action.{Action}
use Rattle.session_script.specs.declared.session.Deed.{Deed}
use Rattle.session_script.specs.declared.session.Deed.TheVariants.{Set, PatchFixed, PatchInt, PatchGet, Save, Restore}
use Rattle.session_script.specs.declared.keyword.Setting.TheVariants.{Rate, Block, Blocks, Workers, Cells, Record}
use Rattle.session_script.specs.declared.keyword.Section.{Section}
use Rattle.session_script.specs.declared.keyword.Section.TheVariants.{Start}
use Rattle.session_script.specs.declared.numbers.Numbers.{Numbers}
use Rattle.session_script.specs.declared.draft.Draft.{Draft}
use Rattle.session_script.specs.Words.{value_of}
use Rattle.session_script.specs.Sorts.{fixed_value, integer_value, without_slash}
use Rattle.session_script.specs.Places.{place}
use Rattle.session_script.specs.Sections.{order, section_of}
use Rattle.session_script.specs.Line.{Line, Act}
use Rattle.session_script.specs.Line.Act.{set_value, patch_set, patch_get, save, restore}
use Rattle.session_script.specs.Line.Line.{setting, bundle, inst, set, cable, out, at}

-- ---- what the words of a line stand for

abbrev pub deed_of : Act → Deed
deed_of (set_value symbol decimal) = Set symbol (fixed_value decimal)
deed_of (patch_set property form value) =
    if bytes_eq form (codes "fixed") then PatchFixed property (fixed_value value) else PatchInt property (integer_value value)
deed_of (patch_get property) = PatchGet property
deed_of save = Save
deed_of (restore path place) = Restore path (value_of place)

-- ---- what each kind of line adds

abbrev pub rate_in : Line → Option ℕ
rate_in (setting Rate number) = Some (value_of number)
rate_in _ = None

abbrev pub block_in : Line → Option ℕ
block_in (setting Block number) = Some (value_of number)
block_in _ = None

abbrev pub blocks_in : Line → Option ℕ
blocks_in (setting Blocks number) = Some (value_of number)
blocks_in _ = None

abbrev pub workers_in : Line → Option ℕ
workers_in (setting Workers number) = Some (value_of number)
workers_in _ = None

abbrev pub cells_in : Line → Option ℕ
cells_in (setting Cells number) = Some (value_of number)
cells_in _ = None

abbrev pub reserve_in : Line → Option ℕ
reserve_in (setting Record number) = Some (value_of number)
reserve_in _ = None

abbrev pub bundle_in : Line → Option (List ℕ)
bundle_in (bundle path) = Some (without_slash path)
bundle_in _ = None

-- the instance that a numbered line makes
abbrev pub inst_in : ℕ × Line → Option Inst
inst_in (n, inst name uri worker) = Some (record { name = name; uri = uri; worker = option_map value_of worker; line = n })
inst_in _ = None

-- what a numbered line sets, with these instances
abbrev pub set_in : List Inst → ℕ × Line → Option SetLine
set_in insts (n, set name symbol decimal) = Some (record { inst = place insts name; symbol = symbol; value = fixed_value decimal; line = n })
set_in insts _ = None

abbrev pub cable_in : List Inst → ℕ × Line → Option CableLine
cable_in insts (n, cable source output target input delayed) =
    Some (record { source = place insts source; output = output; target = place insts target; input = input; delayed = is_some delayed; line = n })
cable_in insts _ = None

abbrev pub out_in : List Inst → ℕ × Line → Option OutLine
out_in insts (n, out name symbol) = Some (record { inst = place insts name; symbol = symbol; line = n })
out_in insts _ = None

abbrev pub action_in : List Inst → ℕ × Line → Option Action
action_in insts (n, at block name act) = Some (record { block = value_of block; inst = place insts name; deed = deed_of act; line = n })
action_in insts _ = None

-- ---- what the lines say together

-- the lines with their numbers
abbrev pub numbered : List Line → List (ℕ × Line)
numbered ls = enumerate_from 1 ls

-- the number that a line of a kind of setting gives, if one stands
abbrev pub given : (Line → Option ℕ) → List Line → Option ℕ
given number_in ls = slice_get (filter_map number_in ls) 0

abbrev pub numbers_of : List Line → Numbers
numbers_of ls = record {
  rate = given rate_in ls;
  block = given block_in ls;
  blocks = given blocks_in ls;
  workers = given workers_in ls;
  cells = given cells_in ls;
  reserve = given reserve_in ls;
}

abbrev pub latest : Section → Section → Section
latest a b = if nat_le (order a) (order b) then b else a

-- the latest section of these lines
abbrev pub reached : List Line → Section
reached ls = fold latest Start (filter_map section_of ls)

abbrev pub insts_of : List Line → List Inst
insts_of ls = filter_map inst_in (numbered ls)

abbrev pub draft_of : List Line → Draft
draft_of ls = record {
  section = reached ls;
  numbers = numbers_of ls;
  bundles = filter_map bundle_in ls;
  insts = insts_of ls;
  sets = filter_map (set_in (insts_of ls)) (numbered ls);
  cables = filter_map (cable_in (insts_of ls)) (numbered ls);
  outs = filter_map (out_in (insts_of ls)) (numbered ls);
  actions = filter_map (action_in (insts_of ls)) (numbered ls);
}
