-- Counts and reports that are those of a play.
use Rattle.std.specs.Prelude.{◌≡◌, ℕ, List, [], length, map, filter, unwrap_or}
use Rattle.lv_base.specs.declared.number.Fixed.{Fixed}
use Rattle.plugin_decl.specs.declared.declaration.Port.{Port}
use Rattle.graph_order.specs.declared.setup.Setup.{Setup}
use Rattle.plug_api.specs.Inputs.{signal_after}
use Rattle.plug_api.specs.Signal.{control, nought, value_in}
use Rattle.record_counts.specs.Table.{IsTable}
use Rattle.session_play.specs.Looking.{steps_of, outputs_of}
use Rattle.session_play.specs.Run.{Run}
use Rattle.session_play.specs.Setup.{ports_of}
use Rattle.session_play.specs.Value.{Play}
use Rattle.play_outcome.specs.Counts.{failures}
use Rattle.play_outcome.specs.Endings.{status_of}
use Rattle.play_outcome.specs.Saves.{saves_of, numbered}
use Rattle.play_outcome.specs.Summary.{is_shown, notice_lines}
use Rattle.run_summary.specs.declared.report.Report.{Report}
use Rattle.run_summary.specs.declared.tally.Tally.{Tally}
use Rattle.run_summary.specs.Tallies.{Tallies}

-- what was counted is what the play says
abbrev pub TalliesPlay : {F B : Type 0} → Setup → Play F B → Tally → Type 0
TalliesPlay setup p tally = Tallies setup (steps_of p) (λ inst. failures inst p) tally

-- what the control outputs of an instance have after its last run, in order of its ports
abbrev pub values_of : {F B : Type 0} → Setup → Play F B → ℕ → List Fixed
values_of setup p inst =
    map (λ (port : Port). value_in (signal_after (control nought) (unwrap_or (outputs_of inst p) []) port.index)) (filter is_shown (ports_of setup inst))

-- what is reported is what the play says
pub record ReportsPlay {F B : Type 0} (run : Run F B) (p : Play F B) (report : Report) : Type 0 where
  pub values : IsTable (values_of run.setup p) report.values
  pub insts : length report.values ≡ length run.setup.session.insts
  pub notices : report.notices ≡ notice_lines run.setup (numbered run p) p
  pub statuses : IsTable (status_of p) report.statuses
  pub actions : length report.statuses ≡ length run.setup.session.actions
  pub saves : report.saves ≡ length (saves_of run.setup p)
