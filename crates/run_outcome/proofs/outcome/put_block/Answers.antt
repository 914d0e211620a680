use Rattle.std.proofs.Common.{rules, ◌∙◌, drop, length}
use Rattle.run_outcome.proofs.Nothing.{front_of}
use Rattle.run_outcome.proofs.outcome.put_block.Goals as goal

pub returns-clause-given : goal.returns-clause-given
returns-clause-given c setup board ready shows chans =
    front_of c.put.new.out (drop (length c.put.new.out) c.args.block.now.items) c.args.block.now.len (search rules)
    ∙ c.put.ensures setup board ready shows chans
