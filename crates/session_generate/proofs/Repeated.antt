-- Steps that are repeated for each number of a range.
use Rattle.std.proofs.Common.{◌≡◌, ℕ, zero, suc, ◌+◌, sym, ap, subst, ◌∙◌, add-one, arith}
use Rattle.std.specs.Prelude.{fold}
use Rattle.std.specs.List.{range_with_len}
use Rattle.session_generate.specs.Lines.{Written}
use Rattle.session_generate.specs.Generated.{WritesEach}

from : {B : Type 0} (f : B → ℕ → B) (b : B) (a n : ℕ) → fold f b (range_with_len a (suc n)) ≡ f (fold f b (range_with_len a n)) (a + n)
from f b a zero = ap (f b) (omega arith)
from f b a (suc n) =
    from f (f b a) (a + 1) n ∙ ap (f (fold f (f b a) (range_with_len (a + 1) n))) (omega arith)

-- one step more
pub one_more : (lines : Written → ℕ → Written) (old it now : Written) (n : ℕ) → WritesEach lines n old it → now ≡ lines it n → WritesEach lines (n + 1) old now
one_more lines old it now n before is = record {
  each = is ∙ ap (λ x. lines x n) before.each ∙ ap (lines (fold lines old (range_with_len 0 n))) (omega arith) ∙ sym (from lines old 0 n)
      ∙ ap (λ k. fold lines old (range_with_len 0 k)) (sym (add-one n));
}

-- all steps
pub all_steps : (lines : Written → ℕ → Written) (old now : Written) (n count : ℕ) → n ≡ count → WritesEach lines n old now → WritesEach lines count old now
all_steps lines old now n count e h = subst (λ k. WritesEach lines k old now) e h
