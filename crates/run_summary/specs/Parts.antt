-- The summary of a run as a text of its parts: what was counted, and what is reported besides.
use Rattle.std.specs.Prelude.{ℕ, suc, ◌+◌, Bool, true, false, not, ◌&&◌, List, [], ◌∷◌, ◌++◌, filter, codes, slice_get, if◌then◌else◌, drop, Option, option_and_then, unwrap_or}
use Rattle.std.specs.Fmt.{signed_decimal}
use Rattle.lv_base.specs.declared.number.Fixed.{Fixed}
use Rattle.plugin_decl.specs.declared.declaration.Port.{Port}
use Rattle.session_script.specs.declared.session.Action.{Action}
use Rattle.session_script.specs.declared.session.Deed.{Deed}
use Rattle.session_script.specs.declared.session.Deed.TheVariants.{Set, PatchFixed, PatchInt, PatchGet, Save, Restore}
use Rattle.session_script.specs.declared.session.Inst.{Inst}
use Rattle.session_script.specs.declared.session.Session.{Session}
use Rattle.graph_order.specs.declared.setup.Setup.{Setup}
use Rattle.record_law.specs.History.{one_more}
use Rattle.session_play.specs.Setup.{ports_of}
use Rattle.play_outcome.specs.Summary.{counted, count_line, name_of, size_line, is_shown, restore_line}
use Rattle.run_summary.specs.declared.counter.InstTally.{InstTally}
use Rattle.run_summary.specs.declared.report.Report.{Report}
use Rattle.run_summary.specs.declared.tally.Tally.{Tally}
use Rattle.run_summary.specs.Counting.{none}

-- ---- instances

-- what was counted of an instance; of one that isn't there nothing
abbrev pub counts_at : Tally → ℕ → InstTally
counts_at tally inst = unwrap_or (slice_get tally.insts inst) none

-- what became of its jobs, and of the responses to it
abbrev pub jobs_part : InstTally → List ℕ
jobs_part it = counted (codes " jobs ") it.jobs ++ counted (codes " refused ") it.refused ++ counted (codes " worked ") it.worked

abbrev pub responses_part : InstTally → List ℕ
responses_part it = counted (codes " responses ") it.responses ++ counted (codes " dropped ") it.dropped ++ counted (codes " delivered ") it.delivered

abbrev pub inst_line : List ℕ → InstTally → List ℕ
inst_line name it =
    codes "inst " ++ name
    ++ counted (codes " runs ") it.runs
    ++ jobs_part it
    ++ responses_part it
    ++ count_line (codes " errors ") it.errors

-- the value of a control output
abbrev pub value_end : Fixed → List ℕ
value_end value = codes " " ++ signed_decimal value.0 ++ codes "\n"

abbrev pub value_line : List ℕ → List ℕ → Fixed → List ℕ
value_line name symbol value = codes "value " ++ name ++ codes " " ++ symbol ++ value_end value

-- the control outputs with their values, in order
abbrev pub value_lines : List ℕ → List Port → List Fixed → List ℕ
value_lines name [] values = []
value_lines name (port ∷ ports) [] = []
value_lines name (port ∷ ports) (value ∷ values) = value_line name port.symbol value ++ value_lines name ports values

-- the line of one port, if it is shown: with the first of the values that are left; and the values that are left then
abbrev pub shown_line : List ℕ → Port → List Fixed → List ℕ
shown_line name port [] = []
shown_line name port (value ∷ values) = if is_shown port then value_line name port.symbol value else []

abbrev pub values_after : Port → List Fixed → List Fixed
values_after port values = if is_shown port then drop 1 values else values

-- the values that are reported of an instance
abbrev pub values_at : Report → ℕ → List Fixed
values_at report inst = unwrap_or (slice_get report.values inst) []

abbrev pub inst_lines : Setup → Tally → Report → ℕ → List ℕ
inst_lines setup tally report inst =
    inst_line (name_of setup inst) (counts_at tally inst)
    ++ value_lines (name_of setup inst) (filter is_shown (ports_of setup inst)) (values_at report inst)

-- the instances from one on
abbrev pub lines_from : Setup → Tally → Report → ℕ → List Inst → List ℕ
lines_from setup tally report inst [] = []
lines_from setup tally report inst (it ∷ later) = inst_lines setup tally report inst ++ lines_from setup tally report (suc inst) later

-- ---- actions, from one on

-- the status of an action's restore, if it has one
abbrev pub status_at : Report → ℕ → Option ℕ
status_at report action = option_and_then (λ (it : Option ℕ). it) (slice_get report.statuses action)

abbrev pub restores_from : Setup → Report → ℕ → List Action → List ℕ
restores_from setup report action [] = []
restores_from setup report action (it ∷ later) = restore_line setup it.inst (status_at report action) ++ restores_from setup report (suc action) later

-- it sends a value or a message to audio
abbrev pub sends_input : Deed → Bool
sends_input (Set symbol value) = true
sends_input (PatchFixed property value) = true
sends_input (PatchInt property value) = true
sends_input (PatchGet property) = true
sends_input Save = false
sends_input (Restore path place) = false

-- audio took what an action sends
abbrev pub was_taken : Tally → ℕ → Bool
was_taken tally action = unwrap_or (slice_get tally.taken action) false

abbrev pub is_late : Tally → ℕ → Action → Bool
is_late tally action it = sends_input it.deed && not (was_taken tally action)

-- how many of them audio didn't take
abbrev pub late_from : Tally → ℕ → List Action → ℕ
late_from tally action [] = 0
late_from tally action (it ∷ later) = one_more (is_late tally action it) (late_from tally (action + 1) later)

-- ---- the whole

abbrev pub last_lines : Setup → Tally → Report → List ℕ
last_lines setup tally report =
    count_line (codes "saves ") report.saves
    ++ count_line (codes "late ") (late_from tally 0 setup.session.actions)
    ++ count_line (codes "lost ") tally.lost
    ++ count_line (codes "entries ") tally.entries

-- the command's name, and the size of the sound
abbrev pub head_lines : Session → List ℕ → List ℕ
head_lines session command = codes "lv2fx " ++ command ++ codes "\n" ++ size_line session

-- the summary under a command's name
abbrev pub summary_text : Setup → List ℕ → Tally → Report → List ℕ
summary_text setup command tally report =
    head_lines setup.session command
    ++ lines_from setup tally report 0 setup.session.insts
    ++ report.notices
    ++ restores_from setup report 0 setup.session.actions
    ++ last_lines setup tally report
