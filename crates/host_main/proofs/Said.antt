-- A line that is put in pieces.
use Rattle.std.proofs.Common.{◌≡◌, ℕ, ◌≤◌, List, ◌++◌, IsTrue, ◌∙◌, ap, append_assoc, arith}
use Rattle.lv_outside.specs.World.{SinkState, IsSaid}

-- a piece was put, and then the rest was said
pub said_more : (k k' k'' : SinkState) (piece rest : List ℕ) → (IsTrue k.tells → IsTrue k'.tells) → k.faults ≤ k'.faults
    → (IsTrue k.tells → k'.taken ≡ k.taken ++ piece) → IsSaid k' k'' rest → IsSaid k k'' (piece ++ rest)
said_more k k' k'' piece rest tells later put said = λ known calm.
    let there = said (tells known) (λ rose. calm (omega arith)) in
    there ∙ (ap (λ (taken : List ℕ). taken ++ rest) (put known) ∙ append_assoc k.taken piece rest)
