use Rattle.std.proofs.Common.{sym, ◌∙◌, arith}
use Rattle.std.proofs.lemmas.Int.{ints, to_z-of_z}
use Rattle.stock_sound.proofs.Mixing.{mix_of_two}
use Rattle.stock_sound.proofs.mixer.mix_of_two.Goals as goal

pub returns : goal.returns
returns c = rw (mix_of_two c.args.a c.args.b) (grind (arith, ints, to_z-of_z))
