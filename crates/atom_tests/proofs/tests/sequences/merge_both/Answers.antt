use Rattle.std.proofs.Common.{◌≡◌, ℕ, zero, suc, ◌<◌, List, [], ◌∷◌, ◌++◌, length, All, sym, ap, ◌∙◌, subst, arith}
use Rattle.atom_sequence.specs.Views.{IsSequence}
use Rattle.atom_tests.proofs.tests.sequences.merge_both.Goals as goal

both : (P : List ℕ → Type 0) (a b : List ℕ) → P a → P b → All P (a ∷ b ∷ [])
both P a b p q zero d lt = p
both P a b p q (suc zero) d lt = q
both P a b p q (suc (suc k)) d lt = absurd (omega (arith, lt))

pub write-written-requires-clause-sequences : goal.write-written-requires-clause-sequences
write-written-requires-clause-sequences c =
    let a = c.args.first.bytes.now in
    let b = c.args.second.bytes.now in
    let none : length c.new-merger.result ≡ 0 = ap length c.new-merger.ensures in
    let one : c.add.new.self ≡ a ∷ [] = c.add.ensures.added (c.add.ensures.room.1 (omega (arith, none))) ∙ ap (λ (l : List (List ℕ)). l ++ a ∷ []) c.new-merger.ensures in
    let count : length c.add.new.self ≡ 1 = ap length one in
    let two : c.add-2.new.self ≡ a ∷ b ∷ [] = c.add-2.ensures.added (c.add-2.ensures.room.1 (omega (arith, count))) ∙ ap (λ (l : List (List ℕ)). l ++ b ∷ []) one in
    subst (All IsSequence) (sym two) (both IsSequence a b (c.requires.first.0) (c.requires.second.0))
