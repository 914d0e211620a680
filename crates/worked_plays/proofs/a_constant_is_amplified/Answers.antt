use Rattle.worked_plays.proofs.Rows.{two_blocks, no_block, delayed_blocks}
use Rattle.worked_plays.proofs.a_constant_is_amplified.Goals as goal

pub returns-clause-two : goal.returns-clause-two
returns-clause-two c = two_blocks

pub returns-clause-none : goal.returns-clause-none
returns-clause-none c = no_block

pub returns-clause-delayed : goal.returns-clause-delayed
returns-clause-delayed c = delayed_blocks
