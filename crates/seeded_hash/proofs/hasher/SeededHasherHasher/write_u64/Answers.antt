use Rattle.std.proofs.Common.{◌*◌, ◌^◌, ap, sym, ◌∙◌, arith, refl}
use Rattle.std.specs.Hash.{le_bytes}
use Rattle.seeded_hash.specs.SipHash.{compress}
use Rattle.seeded_hash.proofs.Words.{absorb-word}
use Rattle.seeded_hash.proofs.hasher.SeededHasherHasher.write_u64.Goals as goal

pub returns : goal.returns
unfolding le_bytes
returns c =
    c.compress-2.ensures ∙ ap (λ s. compress s (8 * 2 ^ 56)) (c.compress.ensures ∙ ap (compress c.args.self.now) (omega arith)) ∙ sym (absorb-word c.args.self.now _ refl)
