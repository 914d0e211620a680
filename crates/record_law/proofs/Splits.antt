-- A list taken apart at a place.
use Rattle.std.proofs.Common.{◌≡◌, suc, List, [], ◌∷◌, ◌++◌, length, refl, ap, arith}

abbrev pub first_or : {X : Type 0} → X → List X → X
first_or d [] = d
first_or d (x ∷ xs) = x

abbrev pub rest_of : {X : Type 0} → List X → List X
rest_of [] = []
rest_of (x ∷ xs) = xs

pub same_first : {X : Type 0} (x y : X) (xs ys : List X) → x ∷ xs ≡ y ∷ ys → x ≡ y
same_first x y xs ys e = ap (first_or x) e

pub same_rest : {X : Type 0} (x y : X) (xs ys : List X) → x ∷ xs ≡ y ∷ ys → xs ≡ ys
same_rest x y xs ys e = ap rest_of e

-- an empty list has no place
pub no_place : {X : Type 0} (before later : List X) (x : X) → [] ≡ before ++ x ∷ later → ⊥
no_place [] later x e = let no : 0 ≡ suc (length later) = ap length e in omega (arith, no)
no_place (y ∷ before) later x e = let no : 0 ≡ suc (length (before ++ x ∷ later)) = ap length e in omega (arith, no)

-- two places after equally many are one
pub record SamePlace {X : Type 0} (before also : List X) (x y : X) (later other : List X) : Type 0 where
  pub before_same : before ≡ also
  pub here_same : x ≡ y
  pub later_same : later ≡ other

pub same_place : {X : Type 0} (before also later other : List X) (x y : X) → before ++ x ∷ later ≡ also ++ y ∷ other → length before ≡ length also
    → SamePlace before also x y later other
same_place [] [] later other x y e n = record { before_same = refl; here_same = same_first x y later other e; later_same = same_rest x y later other e }
same_place [] (z ∷ also) later other x y e n = absurd (omega (arith, n))
same_place (z ∷ before) [] later other x y e n = absurd (omega (arith, n))
same_place (z ∷ before) (w ∷ also) later other x y e n =
    let n' : length before ≡ length also = omega (arith, n) in
    let rest = same_place before also later other x y (same_rest z w (before ++ x ∷ later) (also ++ y ∷ other) e) n' in
    let z' : z ≡ w = same_first z w (before ++ x ∷ later) (also ++ y ∷ other) e in
    record {
      before_same = (λ i. z' i ∷ rest.before_same i);
      here_same = rest.here_same;
      later_same = rest.later_same;
    }
