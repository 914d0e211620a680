-- What outputs show hangs on what runs gave alone, and what inputs hold on the values and the messages alone.
use Rattle.std.proofs.Common.{ℕ, List, Option, unwrap_or, map, sym, subst, ◌∙◌}
use Rattle.plugin_decl.specs.declared.declaration.Port.{Port}
use Rattle.atom_sequence.specs.Event.{Event}
use Rattle.plug_api.specs.Inputs.{Outputs}
use Rattle.session_play.specs.Setup.{ports_of}
use Rattle.session_play.specs.Signals.{value_before}
use Rattle.block_signals.specs.Messages.{KeepsFor}
use Rattle.block_signals.specs.Outlets.{Show}
use Rattle.block_signals.specs.Parts.{OutputsStay, ValuesStay}

pub outputs_stay : OutputsStay
outputs_stay setup board other outlets now before shows = record {
  all = shows.all;
  shown = λ inst outlet at.
      let was = shows.shown inst outlet at in
      record {
        now = subst (λ (given : ℕ → Option Outputs). Show setup.session.block (ports_of setup inst) (given inst) outlet.now) (sym now) was.now;
        before = subst (λ (given : ℕ → Option Outputs). Show setup.session.block (ports_of setup inst) (given inst) outlet.before) (sym before) was.before;
      };
}

pub values_stay : ValuesStay
values_stay setup board other inlets values messages holds = record {
  all = holds.all;
  sums = holds.sums;
  kept = λ inst inlet at.
      let was = holds.kept inst inlet at in (
        was.0,
        was.1 ∙ (λ t. map (λ (port : Port). unwrap_or (sym values t inst port) (value_before setup inst port)) (ports_of setup inst)),
        subst (λ (taken : ℕ → List Event). KeepsFor (ports_of setup inst) (taken inst) inlet.messages) (sym messages) was.2,
      );
}
