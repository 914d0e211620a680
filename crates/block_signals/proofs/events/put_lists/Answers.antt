use Rattle.std.proofs.Common.{map, refl, ap, arith}
use Rattle.std.proofs.lemmas.Grind.{take-set_at}
use Rattle.block_signals.specs.Merging.{bytes_in}
use Rattle.block_signals.proofs.events.put_lists.Goals as goal

pub loop-place-init : goal.loop-place-init
loop-place-init c =
    let there = c.requires.long in record { long = refl; put = ap (map bytes_in) (take-set_at c.args.lists.now 0 1 c.args.first refl (omega (arith, there))) }
