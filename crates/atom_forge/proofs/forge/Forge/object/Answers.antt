use Rattle.std.proofs.Common.{arith}
use Rattle.atom_forge.proofs.Stacks.{object_begins}
use Rattle.atom_forge.proofs.forge.Forge.object.Goals as goal

pub container-requires-clause-begins : goal.container-requires-clause-begins
container-requires-clause-begins c = object_begins c.args.id c.args.otype (omega (arith, c.ranges.id)) (omega (arith, c.ranges.otype))
