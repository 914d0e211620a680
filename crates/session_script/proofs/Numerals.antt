-- What digits say grows with each digit.
use Rattle.std.proofs.Common.{◌≡◌, ℕ, ◌+◌, ◌-◌, ◌*◌, ◌<◌, List, length, get_or, take}
use Rattle.std.proofs.lemmas.List.Sums.{fold_more}
use Rattle.session_script.specs.Words.{value_of}

pub value_of-more : (word : List ℕ) (i : ℕ) → i < length word → value_of (take (i + 1) word) ≡ value_of (take i word) * 10 + (get_or word i 0 - 48)
value_of-more word i h = fold_more (λ (sum digit : ℕ). sum * 10 + (digit - 48)) 0 word i 0 h
