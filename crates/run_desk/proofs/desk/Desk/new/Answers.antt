use Rattle.std.proofs.Common.{rules, [], map, None, sym, subst, ap, ◌∙◌}
use Rattle.block_signals.specs.Board.{Board}
use Rattle.block_signals.specs.Inlets.{HoldsInputs}
use Rattle.block_signals.specs.Outlets.{ShowsOutputs}
use Rattle.run_notices.specs.Answers.{kept}
use Rattle.run_outcome.specs.Outcome.{ShowOutcome}
use Rattle.run_desk.proofs.desk.Desk.new.Goals as goal

pub returns-clause-shown : goal.returns-clause-shown
returns-clause-shown g c k fresh counts =
    let setup = c.args.setup.now in
    record {
      bodies = c.in_ok-bodies.ensures.none k.waiting fresh.no_bodies;
      outputs = subst (λ (board : Board). ShowsOutputs setup board c.in_ok-outlets.outlets) (sym fresh.no_signals) c.in_ok-outlets.ensures;
      inputs = subst (λ (board : Board). HoldsInputs setup board c.in_ok-inlets.inlets) (sym fresh.no_signals) c.in_ok-inlets.ensures;
      channels = c.in_ok-channels.ensures;
      notices = (search rules) ∙ ap (map kept) (sym fresh.no_notices);
      outcome =
          subst (λ sound. ShowOutcome setup sound k.saved k.statuses k.lines c.in_ok-outcome.outcome) (sym fresh.no_sound)
          (subst (λ saved. ShowOutcome setup [] saved k.statuses k.lines c.in_ok-outcome.outcome) (sym fresh.none_saved)
          (subst (λ statuses. ShowOutcome setup [] (λ action. None) statuses k.lines c.in_ok-outcome.outcome) (sym fresh.no_statuses)
          (subst (λ lines. ShowOutcome setup [] (λ action. None) (λ action. None) lines c.in_ok-outcome.outcome) (sym fresh.no_lines) c.in_ok-outcome.ensures)));
      counts = counts;
    }
