-- The text of a play's parts is the summary of the play.
use Rattle.std.proofs.Common.{◌≡◌, ℕ, suc, ◌+◌, ◌<◌, ◌≤◌, ◌==◌, Bool, true, false, not, ◌&&◌, cond, List, [], ◌∷◌, ◌++◌, length, map, filter, unwrap_or, Option, Some, slice_get, refl, sym, ap, ap₂, ◌∙◌, append_assoc, arith}
use Rattle.std.specs.Fmt.{signed_decimal}
use Rattle.std.specs.List.{flat_map}
use Rattle.std.specs.Prelude.{codes, option_and_then}
use Rattle.lv_base.specs.declared.number.Fixed.{Fixed}
use Rattle.plugin_decl.specs.declared.declaration.Port.{Port}
use Rattle.session_script.specs.declared.session.Action.{Action}
use Rattle.session_script.specs.declared.session.Deed.{Deed}
use Rattle.session_script.specs.declared.session.Deed.TheVariants.{Set, PatchFixed, PatchInt, PatchGet, Save, Restore}
use Rattle.session_script.specs.declared.session.Inst.{Inst}
use Rattle.graph_order.specs.declared.setup.Setup.{Setup}
use Rattle.plug_api.specs.Inputs.{Outputs, signal_after}
use Rattle.plug_api.specs.Signal.{control, nought, value_in}
use Rattle.record_law.specs.History.{one_more}
use Rattle.record_counts.specs.Table.{IsTable}
use Rattle.session_play.specs.Looking.{steps_of, outputs_of}
use Rattle.session_play.specs.Run.{Run}
use Rattle.session_play.specs.SessionShape.{kind_of, is_safe, action_from}
use Rattle.session_play.specs.Setup.{ports_of}
use Rattle.session_play.specs.Value.{Play}
use Rattle.play_outcome.specs.Counts as counts
use Rattle.play_outcome.specs.Endings.{status_of}
use Rattle.play_outcome.specs.Saves.{numbered}
use Rattle.play_outcome.specs.Summary as summary
use Rattle.run_summary.specs.declared.counter.InstTally.{InstTally}
use Rattle.run_summary.specs.declared.report.Report.{Report}
use Rattle.run_summary.specs.declared.tally.Tally.{Tally}
use Rattle.run_summary.specs.Counting.{none}
use Rattle.run_summary.specs.Parts.{inst_line, value_line, value_lines, values_at, inst_lines, lines_from, status_at, restores_from, sends_input, is_late, late_from, last_lines, head_lines, summary_text}
use Rattle.run_summary.specs.Plays.{TalliesPlay, values_of, ReportsPlay}
use Rattle.run_summary.specs.Tallies.{counts_of}

-- ---- instances

-- three pieces at the end
three_at_end : (x a b c : List ℕ) → x ++ (a ++ b ++ c) ≡ x ++ a ++ b ++ c
three_at_end x a b c = sym (append_assoc x (a ++ b) c) ∙ ap (λ (text : List ℕ). text ++ c) (sym (append_assoc x a b))

value_same : (setup : Setup) (inst : ℕ) (outputs : Outputs) (port : Port)
    → value_line (summary.name_of setup inst) port.symbol (value_in (signal_after (control nought) outputs port.index)) ≡ summary.value_line setup inst outputs port
value_same setup inst outputs port =
    three_at_end (codes "value " ++ summary.name_of setup inst ++ codes " " ++ port.symbol) (codes " ")
    (signed_decimal (value_in (signal_after (control nought) outputs port.index)).0) (codes "\n")

values_same : (setup : Setup) (inst : ℕ) (outputs : Outputs) (ports : List Port)
    → value_lines (summary.name_of setup inst) ports (map (λ (port : Port). value_in (signal_after (control nought) outputs port.index)) ports)
    ≡ flat_map (summary.value_line setup inst outputs) ports
values_same setup inst outputs [] = refl
values_same setup inst outputs (port ∷ ports) = ap₂ (λ (a b : List ℕ). a ++ b) (value_same setup inst outputs port) (values_same setup inst outputs ports)

module _ {F B : Type 0} (run : Run F B) (p : Play F B) (tally : Tally) (report : Report) (tallies : TalliesPlay run.setup p tally) (reports : ReportsPlay run p report) where
  inst_same : (inst : ℕ) → inst < length run.setup.session.insts → inst_lines run.setup tally report inst ≡ summary.inst_lines run.setup p inst
  inst_same inst within =
      let counted = ap (λ (it : Option InstTally). inst_line (summary.name_of run.setup inst) (unwrap_or it none)) (tallies.each inst (omega (arith, tallies.insts, within))) in
      let shown = filter summary.is_shown (ports_of run.setup inst) in
      let valued =
      ap (λ (it : Option (List Fixed)). value_lines (summary.name_of run.setup inst) shown (unwrap_or it [])) (reports.values inst (omega (arith, reports.insts, within)))
      ∙ values_same run.setup inst (unwrap_or (outputs_of inst p) []) shown in
      ap₂ (λ (a b : List ℕ). a ++ b) counted valued

  lines_same : (inst : ℕ) (later : List Inst) → inst + length later ≡ length run.setup.session.insts
      → lines_from run.setup tally report inst later ≡ summary.lines_from run.setup p inst later
  lines_same inst [] all = refl
  lines_same inst (it ∷ later) all =
      ap₂ (λ (a b : List ℕ). a ++ b) (inst_same inst (omega (arith, all))) (lines_same (suc inst) later (omega (arith, all)))

  -- ---- actions

  restores_same : (action : ℕ) (later : List Action) → action + length later ≡ length run.setup.session.actions
      → restores_from run.setup report action later ≡ summary.restore_lines run.setup p action later
  restores_same action [] all = refl
  restores_same action (it ∷ later) all =
      let status = ap (option_and_then (λ (one : Option ℕ). one)) (reports.statuses action (omega (arith, reports.actions, all))) in
      ap₂ (λ (a : Option ℕ) (b : List ℕ). summary.restore_line run.setup it.inst a ++ b) status (restores_same (suc action) later (omega (arith, all)))

  sends_same : (deed : Deed) (safe : Bool) → sends_input deed ≡ counts.sends_input (kind_of safe deed)
  sends_same (Set symbol value) safe = refl
  sends_same (PatchFixed property value) safe = refl
  sends_same (PatchInt property value) safe = refl
  sends_same (PatchGet property) safe = refl
  sends_same Save safe = refl
  sends_same (Restore path place) true = refl
  sends_same (Restore path place) false = refl

  late_same : (action : ℕ) (later : List Action) → action + length later ≡ length run.setup.session.actions
      → late_from tally action later ≡ counts.late_from (steps_of p) action (map (action_from run.setup) later)
  late_same action [] all = refl
  late_same action (it ∷ later) all =
      let taken = ap (λ (one : Option Bool). unwrap_or one false) (tallies.took action (omega (arith, tallies.actions, all))) in
      let sends = sends_same it.deed (is_safe run.setup it.inst) in
      let here = ap₂ (λ (a b : Bool). a && not b) sends taken in
      ap₂ (λ (a : Bool) (b : ℕ). one_more a b) here (late_same (action + 1) later (omega (arith, all)))

  last_same : last_lines run.setup tally report ≡ summary.last_lines run.setup p
  last_same =
      let late = late_same 0 run.setup.session.actions (omega arith) in
      λ t. summary.count_line (codes "saves ") (reports.saves t) ++ summary.count_line (codes "late ") (late t) ++ summary.count_line (codes "lost ") (tallies.losses t)
      ++ summary.count_line (codes "entries ") (tallies.steps t)

  pub text_same : (command : List ℕ) → summary_text run.setup command tally report ≡ summary.summary_of run command p
  text_same command =
      let lines = lines_same 0 run.setup.session.insts (omega arith) in
      let restores = restores_same 0 run.setup.session.actions (omega arith) in
      λ t. head_lines run.setup.session command ++ lines t ++ reports.notices t ++ restores t ++ last_same t
