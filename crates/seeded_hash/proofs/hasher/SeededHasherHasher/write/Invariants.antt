use Rattle.seeded_hash.proofs.Words.{IsAt}
use Rattle.seeded_hash.proofs.hasher.SeededHasherHasher.write.Given as goal

abbrev pub invariant-loop-word : goal.invariant-loop-word
invariant-loop-word l = IsAt l.fn.self l.self l.bytes l.word-index
