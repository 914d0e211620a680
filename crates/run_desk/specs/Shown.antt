-- What a run holds besides its instances shows what is known.
use Rattle.std.specs.Prelude.{◌≡◌, [], map, None}
use Rattle.block_signals.specs.Board.{blank}
use Rattle.block_signals.specs.Channels.{AreChannels}
use Rattle.block_signals.specs.Inlets.{HoldsInputs}
use Rattle.block_signals.specs.Outlets.{ShowsOutputs}
use Rattle.graph_order.specs.declared.setup.Setup.{Setup}
use Rattle.held_bodies.specs.Waiting.{ShowBodies}
use Rattle.play_known.specs.Known.{Known}
use Rattle.run_notices.specs.Answers.{kept}
use Rattle.run_outcome.specs.Outcome.{ShowOutcome}
use Rattle.run_summary.specs.Tallies.{Tallies}
use Rattle.step_law.specs.declared.ring.Ring.{Ring}
use Rattle.run_desk.specs.declared.desk.Desk.{Desk}

-- the bodies that wait, the signals of the block at hand, the notices to tell, what was given and what was counted
pub record ShowDesk {F B : Type 0} (setup : Setup) (k : Known F B) (desk : Desk) : Type 0 where
  pub bodies : ShowBodies k.waiting desk.bodies
  pub outputs : ShowsOutputs setup k.board desk.outlets
  pub inputs : HoldsInputs setup k.board desk.inlets
  pub channels : AreChannels setup desk.channels
  pub notices : desk.untold.items ≡ map kept k.untold
  pub outcome : ShowOutcome setup k.sound k.saved k.statuses k.lines desk.outcome
  pub counts : Tallies setup k.history k.failures desk.tally

-- nothing was played yet: no body waits, no signal stands, there is nothing to tell, and nothing was given
pub record IsFresh {F B : Type 0} (k : Known F B) : Type 0 where
  pub no_bodies : (ring : Ring) → k.waiting ring ≡ []
  pub no_signals : k.board ≡ blank
  pub no_notices : k.untold ≡ []
  pub no_sound : k.sound ≡ []
  pub none_saved : k.saved ≡ (λ action. None)
  pub no_statuses : k.statuses ≡ (λ action. None)
  pub no_lines : k.lines ≡ []
