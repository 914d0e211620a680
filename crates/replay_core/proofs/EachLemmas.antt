-- Facts on `each`.
use Rattle.std.proofs.Common.{◌≡◌, ℕ, zero, suc, ◌+◌, ◌<◌, List, ◌++◌, refl, add-one, append_assoc, arith}
use Rattle.replay_core.specs.Each.{each}

-- one more
pub each-more : {X : Type 0} (n : ℕ) (f : ℕ → List X) → each (n + 1) f ≡ each n f ++ f n
each-more n f = rw add-one

-- lists that are the same below n
pub each-same : {X : Type 0} (n : ℕ) (f g : ℕ → List X) → ((k : ℕ) → k < n → f k ≡ g k) → each n f ≡ each n g
each-same zero f g same = refl
each-same (suc n) f g same =
    let before : each n f ≡ each n g = each-same n f g (λ k h. same k (omega arith)) in
    let here : f n ≡ g n = same n (omega arith) in
    cc

-- a list that grew by one more
pub each-grown : {X : Type 0} (begun before now piece : List X) (n : ℕ) (f : ℕ → List X) → before ≡ begun ++ each n f → now ≡ before ++ piece → piece ≡ f n → now ≡ begun ++ each (n + 1) f
each-grown begun before now piece n f was grew is = rw (each-more, grew, was, is) (simp append_assoc)
