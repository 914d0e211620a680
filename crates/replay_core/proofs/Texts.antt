-- Texts that were made piece by piece.
use Rattle.std.proofs.Common.{◌≡◌, ℕ, List, ◌++◌, append_assoc}

-- four pieces, and a fifth at the end
pub five-pieces : (t t1 t2 t3 t4 a b c d e : List ℕ) → t1 ≡ t ++ a → t2 ≡ t1 ++ b → t3 ≡ t2 ++ c → t4 ≡ t3 ++ d → t4 ++ e ≡ t ++ (a ++ b ++ c ++ d ++ e)
five-pieces t t1 t2 t3 t4 a b c d e p q r s = rw (s, r, q, p) (simp append_assoc)
