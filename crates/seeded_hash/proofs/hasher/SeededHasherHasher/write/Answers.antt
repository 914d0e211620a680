use Rattle.std.proofs.Common.{◌≡◌, ◌*◌, ◌/◌, ◌%◌, ◌+◌, ◌^◌, ◌≤◌, [], length, ap, ◌∙◌, arith, get_or}
use Rattle.std.specs.Int.{w64, from_le_bytes}
use Rattle.seeded_hash.specs.SipHash.{compress}
use Rattle.seeded_hash.proofs.Words.{at-start, at-more, at-end, get_or-first_chunks}
use Rattle.seeded_hash.proofs.hasher.SeededHasherHasher.write.Goals as goal

pub loop-word-init : goal.loop-word-init
loop-word-init c = at-start c.args.self.now c.args.bytes.now

pub loop-word-preserved : goal.loop-word-preserved
loop-word-preserved c =
    let m = c.args.bytes.now in
    let i = c.loop-word.word-index in
    let s = c.loop-word.self in
    let chunk = ap (λ words. get_or words i []) c.as_chunks.ensures.front ∙ get_or-first_chunks (length m / 8) i m [] (omega arith) in
    let after = c.compress.ensures ∙ ap (compress s) (c.from_le_bytes.ensures ∙ ap (from_le_bytes w64) chunk) in
    let within : 8 * i + 8 ≤ length m = omega arith in
    rw after (at-more c.args.self.now s m i within c.loop-word.invariant)

pub returns : goal.returns
returns c =
    let m = c.args.bytes.now in
    let s = c.loop-word.self in
    let all_words : c.loop-word.word-index ≡ length m / 8 = omega arith in
    let count : length m * 2 ^ 56 % 2 ^ 64 ≡ length m % 256 * 2 ^ 56 = omega arith in
    c.compress-2.ensures ∙ ap (compress s) (λ i. c.left_over.ensures.value i + count i)
    ∙ at-end c.args.self.now s m (rw (← all_words) c.loop-word.invariant)
