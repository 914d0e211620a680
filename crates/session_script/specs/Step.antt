-- What one line adds to a draft.
use Rattle.std.specs.Prelude.{◌≡◌, ℕ, List, [], ◌∷◌, ◌++◌, Option, Some, None, Result, Ok, Err}
use Rattle.std.specs.Option.{option_or}
use Rattle.session_script.specs.declared.numbers.Numbers.{Numbers}
use Rattle.session_script.specs.declared.keyword.Section.{Section}
use Rattle.session_script.specs.declared.keyword.Setting.{Setting}
use Rattle.session_script.specs.declared.keyword.Setting.TheVariants.{Rate, Block, Blocks, Workers, Cells, Record}
use Rattle.session_script.specs.declared.draft.Draft.{Draft}
use Rattle.session_script.specs.declared.fault.ScriptFault.{ScriptFault}
use Rattle.session_script.specs.declared.fault.ScriptFault.TheVariants.{Bad, Limit, NoMemory}
use Rattle.session_script.specs.Line.{Line}
use Rattle.session_script.specs.Rules.{broken_rule}
use Rattle.session_script.specs.Sections.{section_of}
use Rattle.session_script.specs.Draft.{latest, rate_in, block_in, blocks_in, workers_in, cells_in, reserve_in, bundle_in, inst_in, set_in, cable_in, out_in, action_in}

-- a list with what a line adds
abbrev pub added : {X : Type 0} → List X → Option X → List X
added xs None = xs
added xs (Some x) = xs ++ x ∷ []

-- a setting's number, where a line gives one
abbrev pub or_given : Option ℕ → Option ℕ → Option ℕ
or_given old None = old
or_given old (Some n) = option_or old (Some n)

abbrev pub moved : Section → Option Section → Section
moved old None = old
moved old (Some section) = latest old section

abbrev pub with_number : Numbers → Line → Numbers
with_number old line = record {
  rate = or_given old.rate (rate_in line);
  block = or_given old.block (block_in line);
  blocks = or_given old.blocks (blocks_in line);
  workers = or_given old.workers (workers_in line);
  cells = or_given old.cells (cells_in line);
  reserve = or_given old.reserve (reserve_in line);
}

-- the numbers with that of one setting
abbrev pub with_setting : Numbers → Setting → ℕ → Numbers
with_setting old Rate n = record old { rate = option_or old.rate (Some n) }
with_setting old Block n = record old { block = option_or old.block (Some n) }
with_setting old Blocks n = record old { blocks = option_or old.blocks (Some n) }
with_setting old Workers n = record old { workers = option_or old.workers (Some n) }
with_setting old Cells n = record old { cells = option_or old.cells (Some n) }
with_setting old Record n = record old { reserve = option_or old.reserve (Some n) }

-- the draft with line n
abbrev pub with_line : Draft → ℕ → Line → Draft
with_line old n line = record {
  section = moved old.section (section_of line);
  numbers = with_number old.numbers line;
  bundles = added old.bundles (bundle_in line);
  insts = added old.insts (inst_in (n, line));
  sets = added old.sets (set_in old.insts (n, line));
  cables = added old.cables (cable_in old.insts (n, line));
  outs = added old.outs (out_in old.insts (n, line));
  actions = added old.actions (action_in old.insts (n, line));
}

-- line n was added since it breaks no rule, or it is the broken one; want of memory says nothing
abbrev pub Takes : {A : Type 0} → Draft → ℕ → Line → Result A ScriptFault → Draft → Type 0
Takes old n line (Ok _) new = (broken_rule old line ≡ None) × (new ≡ with_line old n line)
Takes old n line (Err (Bad m rule)) new = (m ≡ n) × (broken_rule old line ≡ Some rule)
Takes old n line (Err (Limit which number)) new = ⊥
Takes old n line (Err NoMemory) new = Unit {0}
