-- What holds of the counts and the summary of all plays.
use Rattle.std.specs.Prelude.{◌≡◌, ℕ, ◌==◌, ◌&&◌, true, false, List, ◌∷◌}
use Rattle.step_law.specs.declared.call.Call.TheVariants.{Work}
use Rattle.step_law.specs.declared.entry.Kind.TheVariants.{End}
use Rattle.step_law.specs.Call.{call_number}
use Rattle.graph_order.specs.declared.setup.Setup.{Setup}
use Rattle.record_law.specs.Entries.{is_kind}
use Rattle.record_law.specs.Message.{Step}
use Rattle.session_play.specs.Looking.{steps_of}
use Rattle.session_play.specs.Run.{Run}
use Rattle.session_play.specs.Value.{Moment, Play}
use Rattle.play_outcome.specs.Counts.{failures, has_failed}
use Rattle.play_outcome.specs.Summary.{summary_of}
use Rattle.run_summary.specs.declared.report.Report.{Report}
use Rattle.run_summary.specs.declared.tally.Tally.{Tally}
use Rattle.run_summary.specs.Parts.{summary_text}
use Rattle.run_summary.specs.Plays.{TalliesPlay, ReportsPlay}
use Rattle.run_summary.specs.Tallies.{Tallies, one_failed}

-- the text of a play's counts and reports is its summary
abbrev pub TellsPlay : Type 0 → Type 0 → Type 0
TellsPlay F B = (run : Run F B) (p : Play F B) (command : List ℕ) (tally : Tally) (report : Report) → TalliesPlay run.setup p tally → ReportsPlay run p report
    → summary_text run.setup command tally report ≡ summary_of run command p

-- where no work failed, the counts of the history go on
abbrev pub GoesOnWell : Type 0 → Type 0 → Type 0
GoesOnWell F B = (setup : Setup) (x : Moment F B) (p : Play F B) (tally : Tally) → has_failed x.value ≡ false
    → Tallies setup (x.step ∷ steps_of p) (λ inst. failures inst p) tally → TalliesPlay setup (x ∷ p) tally

-- where the work of an instance failed, one more has failed
abbrev pub GoesOnFailing : Type 0 → Type 0 → Type 0
GoesOnFailing F B = (setup : Setup) (x : Moment F B) (p : Play F B) (tally : Tally) (inst : ℕ) → (is_kind End x.step.entry && (x.step.entry.a == call_number Work)) ≡ true
    → x.step.entry.b ≡ inst → has_failed x.value ≡ true
    → Tallies setup (x.step ∷ steps_of p) (one_failed inst (λ other. failures other p)) tally → TalliesPlay setup (x ∷ p) tally
