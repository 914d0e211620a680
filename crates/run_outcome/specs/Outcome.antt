-- What a run gave so far, as it is kept.
use Rattle.std.specs.Prelude.{◌≡◌, ℕ, nat_eq, ◌*◌, List, length, Option, Some}
use Rattle.graph_order.specs.declared.setup.Setup.{Setup}
use Rattle.record_counts.specs.Table.{IsTable}
use Rattle.session_play.specs.Looking.{newer, if_so}
use Rattle.state_store.specs.declared.prop.Prop.{Prop}
use Rattle.run_outcome.specs.declared.outcome.Outcome.{Outcome}

-- of each action what it saved, or the status of its restore
pub record OfActions {X : Type 0} (setup : Setup) (known : ℕ → Option X) (kept : List (Option X)) : Type 0 where
  pub each : IsTable known kept
  pub all : length kept ≡ length setup.session.actions

-- the sound of the blocks that have ended, what actions saved, the statuses of restores, and the lines on notices
pub record ShowOutcome (setup : Setup) (sound : List ℕ) (saved : ℕ → Option (List (ℕ × Prop))) (statuses : ℕ → Option ℕ) (lines : List ℕ) (outcome : Outcome) : Type 0 where
  pub is_sound : outcome.sound ≡ sound
  pub are_saved : OfActions setup saved outcome.saved
  pub are_statuses : OfActions setup statuses outcome.statuses
  pub are_lines : outcome.lines ≡ lines
  -- there is room for the PCM of one block
  pub room : length outcome.block.items ≡ 2 * length setup.session.outs * setup.session.block

-- an action has this, and all others have what they had
abbrev pub with_known : {X : Type 0} → ℕ → X → (ℕ → Option X) → ℕ → Option X
with_known action x known other = newer (if_so (nat_eq action other) (Some x)) (known other)
