-- The sections of a script, in their order, and the kind of each line.
use Rattle.std.specs.Prelude.{ℕ, Option, Some, None}
use Rattle.session_script.specs.declared.keyword.Setting.{Setting}
use Rattle.session_script.specs.declared.keyword.Keyword.{Keyword}
use Rattle.session_script.specs.declared.keyword.Keyword.TheVariants.{Number, Bundle, Inst, Set, Cable, Out, At}
use Rattle.session_script.specs.declared.keyword.Section.{Section}
use Rattle.session_script.specs.declared.keyword.Section.TheVariants.{Start, Settings, Bundles, Insts, Sets, Cables, Outs, Actions}
use Rattle.session_script.specs.Line.{Line}
use Rattle.session_script.specs.Line.Line.{skipped, header, setting, bundle, inst, set, cable, out, at, miscounted, unknown}

abbrev pub order : Section → ℕ
order Start = 0
order Settings = 1
order Bundles = 2
order Insts = 3
order Sets = 4
order Cables = 5
order Outs = 6
order Actions = 7

-- the section that a known first word belongs to
abbrev pub section_by : Keyword → Section
section_by (Number kind) = Settings
section_by Bundle = Bundles
section_by Inst = Insts
section_by Set = Sets
section_by Cable = Cables
section_by Out = Outs
section_by At = Actions

-- the section that a line belongs to; one that is skipped or unknown belongs to none
abbrev pub section_of : Line → Option Section
section_of skipped = None
section_of header = Some Settings
section_of (setting kind number) = Some Settings
section_of (bundle path) = Some Bundles
section_of (inst name uri worker) = Some Insts
section_of (set name symbol decimal) = Some Sets
section_of (cable source output target input delayed) = Some Cables
section_of (out name symbol) = Some Outs
section_of (at block name act) = Some Actions
section_of (miscounted keyword) = Some (section_by keyword)
section_of unknown = None

-- the setting that a line is of, however many words it has
abbrev pub setting_in : Line → Option Setting
setting_in (setting kind number) = Some kind
setting_in (miscounted (Number kind)) = Some kind
setting_in _ = None
