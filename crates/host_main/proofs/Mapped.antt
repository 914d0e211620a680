-- A list that is written over, element by element, by the values of a function.
use Rattle.std.proofs.Common.{◌≡◌, ℕ, zero, suc, ◌+◌, ◌<◌, List, [], ◌∷◌, ◌++◌, length, get_or, set, take, drop, refl, ap, arith, add-one}
use Rattle.std.specs.Prelude.{map}

step : {X Y : Type 0} (f : X → Y) (i : ℕ) (xs : List X) (ys : List Y) (d : X) → i < length xs → length xs ≡ length ys
    → set (map f (take i xs) ++ drop i ys) i (f (get_or xs i d)) ≡ map f (take (suc i) xs) ++ drop (suc i) ys
step f i [] ys d h e = absurd (omega arith)
step f i (x ∷ xs) [] d h e = absurd (omega arith)
step f zero (x ∷ xs) (y ∷ ys) d h e = refl
step f (suc i) (x ∷ xs) (y ∷ ys) d h e = ap (λ r. f x ∷ r) (step f i xs ys d (omega arith) (omega arith))

-- the next element is written
pub map_onto_more : {X Y : Type 0} (f : X → Y) (i : ℕ) (xs : List X) (ys : List Y) (d : X) → i < length xs → length xs ≡ length ys
    → set (map f (take i xs) ++ drop i ys) i (f (get_or xs i d)) ≡ map f (take (i + 1) xs) ++ drop (i + 1) ys
map_onto_more f i xs ys d h e = rw add-one (step f i xs ys d h e)
