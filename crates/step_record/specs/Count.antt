-- The tickets of a plain counter.
use Rattle.std.specs.Prelude.{ℕ, zero, suc, ◌+◌, ◌-◌, ◌^◌, List, [], ◌∷◌, ◌++◌}

-- a counter: the first number that it draws, and the next
pub record Counter : Type 0 where
  pub first : ℕ
  pub next : ℕ

-- so many numbers from one on, without a gap
abbrev pub numbers_from : ℕ → ℕ → List ℕ
numbers_from first zero = []
numbers_from first (suc n) = numbers_from first n ++ (first + n) ∷ []

-- how many tickets a counter has drawn
abbrev pub count_drawn : Counter → ℕ
count_drawn count = count.next - count.first

-- its tickets, and how many are left of 2^56
abbrev pub tickets_of : Counter → List ℕ
tickets_of count = numbers_from count.first (count_drawn count)

abbrev pub tickets_left : Counter → ℕ
tickets_left count = 2 ^ 56 - count_drawn count
