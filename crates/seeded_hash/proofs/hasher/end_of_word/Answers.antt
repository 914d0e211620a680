use Rattle.std.proofs.Common.{ap, ◌∙◌, ◌/◌, ◌*◌, ◌-◌, ◌^◌}
use Rattle.seeded_hash.proofs.Words.{from_le_bytes-drop}
use Rattle.seeded_hash.proofs.hasher.end_of_word.Goals as goal

pub returns-clause-value : goal.returns-clause-value
returns-clause-value c =
    ap (λ n. n / 2 ^ (8 * (7 - c.args.count)) / 256) c.from_le_bytes.ensures ∙ from_le_bytes-drop c.args.bytes.now c.args.count c.told-bytes c.fits-bytes c.requires
