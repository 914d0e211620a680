-- Tests of all numbers of a range.
use Rattle.std.proofs.Common.{◌≡◌, ℕ, zero, suc, ◌+◌, ◌<◌, ◌≤◌, Bool, true, false, ◌&&◌, ◌||◌, List, [], ◌∷◌, length, Some, slice_get, refl, ap, ap₂, subst, ◌∙◌, ⊎_elim, arith}
use Rattle.std.specs.List.{list_all, list_any, range_with_len}
use Rattle.std.proofs.lemmas.Bool.{and_left, and_right, and_from, or_left, or_right, cases_eq}
use Rattle.record_counts.specs.Table.{IsTable}

pub any_some : (p : ℕ → Bool) (k n i : ℕ) → k ≤ i → i < k + n → p i ≡ true → list_any p (range_with_len k n) ≡ true
any_some p k zero i least most is = absurd (omega (arith, least, most))
any_some p k (suc n) i least most is =
    ⊎_elim
    (λ same. or_left (p k) (list_any p (range_with_len (k + 1) n)) (subst (λ (it : ℕ). p it ≡ true) same is))
    (λ other. or_right (p k) (list_any p (range_with_len (k + 1) n)) (any_some p (k + 1) n i (omega (arith, least, other)) (omega (arith, most)) is))
    (cases_eq i k)

neither : (a b : Bool) → a ≡ false → b ≡ false → (a || b) ≡ false
neither true b x y = x
neither false b x y = y

pub any_none : (p : ℕ → Bool) (k n : ℕ) → ((i : ℕ) → k ≤ i → i < k + n → p i ≡ false) → list_any p (range_with_len k n) ≡ false
any_none p k zero none = refl
any_none p k (suc n) none =
    neither (p k) (list_any p (range_with_len (k + 1) n)) (none k (omega arith) (omega arith))
    (any_none p (k + 1) n (λ i least most. none i (omega (arith, least)) (omega (arith, most))))

pub all_hold : (p : ℕ → Bool) (k n : ℕ) → ((i : ℕ) → k ≤ i → i < k + n → p i ≡ true) → list_all p (range_with_len k n) ≡ true
all_hold p k zero hold = refl
all_hold p k (suc n) hold =
    and_from (p k) (list_all p (range_with_len (k + 1) n)) (hold k (omega arith) (omega arith))
    (all_hold p (k + 1) n (λ i least most. hold i (omega (arith, least)) (omega (arith, most))))

pub all_fail : (p : ℕ → Bool) (k n i : ℕ) → k ≤ i → i < k + n → p i ≡ false → list_all p (range_with_len k n) ≡ false
all_fail p k zero i least most is = absurd (omega (arith, least, most))
all_fail p k (suc n) i least most is =
    ⊎_elim
    (λ same. and_left (p k) (list_all p (range_with_len (k + 1) n)) (subst (λ (it : ℕ). p it ≡ false) same is))
    (λ other. and_right (p k) (list_all p (range_with_len (k + 1) n)) (all_fail p (k + 1) n i (omega (arith, least, other)) (omega (arith, most)) is))
    (cases_eq i k)

-- a test of all items of a table
table_all : {A : Type 0} (p : A → Bool) (f : ℕ → A) (k : ℕ) (xs : List A) → ((i : ℕ) → i < length xs → slice_get xs i ≡ Some (f (k + i)))
    → list_all p xs ≡ list_all (λ i. p (f i)) (range_with_len k (length xs))
table_all p f k [] table = refl
table_all {A} p f k (x ∷ xs) table =
    let some : Some x ≡ Some (f (k + 0)) = table 0 (omega arith) in
    let here : x ≡ f (k + 0) = cc in
    let place : k + 0 ≡ k = omega arith in
    ap₂ (λ (a b : Bool). a && b) (ap p (here ∙ ap f place))
    (table_all p f (k + 1) xs (λ i less.
    let next : k + suc i ≡ k + 1 + i = omega arith in table (suc i) (omega (arith, less)) ∙ ap (λ (n : ℕ). Some (f n)) next))

pub all_of_table : {A : Type 0} (p : A → Bool) (f : ℕ → A) (xs : List A) → IsTable f xs → list_all p xs ≡ list_all (λ i. p (f i)) (range_with_len 0 (length xs))
all_of_table p f xs table = table_all p f 0 xs (λ i less. let place : i ≡ 0 + i = omega arith in table i less ∙ ap (λ (n : ℕ). Some (f n)) place)
