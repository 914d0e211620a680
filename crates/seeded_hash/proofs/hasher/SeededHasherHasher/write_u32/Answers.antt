use Rattle.std.proofs.Common.{ap, sym, ◌∙◌, arith, rules}
use Rattle.std.specs.Hash.{le_bytes}
use Rattle.seeded_hash.specs.SipHash.{compress}
use Rattle.seeded_hash.proofs.Words.{absorb-short}
use Rattle.seeded_hash.proofs.hasher.SeededHasherHasher.write_u32.Goals as goal

pub returns : goal.returns
unfolding le_bytes
returns c = c.compress.ensures ∙ ap (compress c.args.self.now) (omega arith) ∙ sym (absorb-short c.args.self.now _ (search rules))
