-- What is kept of a token.
use Rattle.std.specs.Prelude.{◌≡◌, ◌+◌, ◌^◌, length}
use Rattle.cable_ring.specs.declared.pass.Pass.TheInside.{Inside}
use Rattle.cable_ring.specs.Passes.{PassView, pass_at, IsResting, IsSized, AreCounts}

module _ {M : Type 0} where
  abbrev pub pass_view : Inside M → PassView M
  pass_view pass = pass_at pass.place

  -- It is at rest; it knows how many cells a ring has, how many tickets it may still draw, and what it did on each ring.
  pub record IsPass (pass : Inside M) : Type 0 where
    pub resting : IsResting pass.place
    pub sized : IsSized (pass_at pass.place)
    pub cells_are : pass.cells ≡ (pass_at pass.place).plan.cells
    pub left_is : pass.left + length (pass_at pass.place).events ≡ 2 ^ 56
    pub counted : AreCounts pass.counts.items (pass_at pass.place)
