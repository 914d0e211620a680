use Rattle.std.proofs.Common.{arith}
use Rattle.run_summary.specs.Tallies.{counts_of}
use Rattle.run_summary.proofs.Going.{after_failure}
use Rattle.run_summary.proofs.tally.Tally.failed.Goals as goal

pub returns : goal.returns
returns c setup h failed less told =
    after_failure setup h failed c.args.inst c.args.self.now c.raise.new.self told (c.raise.ensures.each (counts_of h failed) (omega (arith, less)) told.each) c.raise.ensures.all
    c.raise.ensures.rest
