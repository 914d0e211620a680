-- Names lead to instances, also after one more.
use Rattle.std.proofs.Common.{◌≡◌, ℕ, ◌+◌, ◌<◌, ◌≤◌, Bool, true, false, cond, not, eqb, Option, Some, None, List, [], ◌∷◌, ◌++◌, length, refl, sym, ap, subst, ◌∙◌, ⊎_elim, arith}
use Rattle.std.specs.Prelude.{nat_lt}
use Rattle.std.specs.List.{position, position_or_len}
use Rattle.std.specs.Str.{bytes_eq}
use Rattle.std.proofs.lemmas.Bool.{cases_lt}
use Rattle.std.proofs.lemmas.Bool.Decides.{nat_tests}
use Rattle.std.proofs.lemmas.Slice.Eq.{bytes_eq-Decides}
use Rattle.std.proofs.lemmas.List.{length_push}
use Rattle.std.proofs.lemmas.List.Folds.{position_or_len_push}
use Rattle.std.proofs.lemmas.List.Sums.{prefix_len-le-length}
use Rattle.session_script.specs.declared.session.Inst.{Inst}
use Rattle.session_script.specs.Places.{place}
use Rattle.session_script.proofs.Segments.{lost}

-- a position, from what decides it
at_place : {X : Type 0} (p : X → Bool) (xs : List X) (n : ℕ) → position_or_len p xs ≡ n → position p xs ≡ cond (nat_lt n (length xs)) (Some n) None
at_place p xs n e = ap (λ k. cond (nat_lt k (length xs)) (Some k) None) e

below : (n m : ℕ) → n < m → nat_lt n m ≡ true
below n m h = grind (arith, nat_tests)

not_below : (n m : ℕ) → m ≤ n → nat_lt n m ≡ false
not_below n m h = grind (arith, nat_tests)

same : (n : ℕ) → eqb n n ≡ true
same n = grind (arith, nat_tests)

other : (n m : ℕ) → n < m → eqb n m ≡ false
other n m h = grind (arith, nat_tests)

-- one more that passes, where none does
pub position_new : {X : Type 0} (p : X → Bool) (xs : List X) (y : X) → position_or_len p xs ≡ length xs → p y ≡ true → position p (xs ++ y ∷ []) ≡ Some (length xs)
position_new p xs y none h =
    let n = length xs in
    let more : length (xs ++ y ∷ []) ≡ n + 1 = length_push xs y in
    let at : position_or_len p (xs ++ y ∷ []) ≡ n + 0 =
    position_or_len_push p xs y ∙ ap (λ k. cond (eqb k n) (n + cond (p y) 0 1) k) none ∙ ap (λ b. cond b (n + cond (p y) 0 1) n) (same n) ∙ ap (λ b. n + cond b 0 1) h in
    let here : position_or_len p (xs ++ y ∷ []) ≡ n = omega arith in
    at_place p (xs ++ y ∷ []) n here ∙ ap (λ b. cond b (Some n) None) (below n (length (xs ++ y ∷ [])) (omega arith))

-- one more that doesn't pass
pub position_kept : {X : Type 0} (p : X → Bool) (xs : List X) (y : X) → p y ≡ false → position p (xs ++ y ∷ []) ≡ position p xs
position_kept {X} p xs y h =
    let n : ℕ = length xs in
    let k : ℕ = position_or_len p xs in
    ⊎_elim
    (λ l. let at : position_or_len p (xs ++ y ∷ []) ≡ k = position_or_len_push p xs y ∙ ap (λ b. cond b (n + cond (p y) 0 1) k) (other k n l) in
    at_place p (xs ++ y ∷ []) k at ∙ ap (λ b. cond b (Some k) None) (below k (length (xs ++ y ∷ [])) (omega (arith, length_push xs y)) ∙ sym (below k n l)))
    (λ l. let most : k ≤ n = prefix_len-le-length (λ x. not (p x)) xs in
    let all : k ≡ n = omega arith in
    let at : position_or_len p (xs ++ y ∷ []) ≡ n + 1 =
    position_or_len_push p xs y ∙ ap (λ j. cond (eqb j n) (n + cond (p y) 0 1) j) all ∙ ap (λ b. cond b (n + cond (p y) 0 1) n) (same n) ∙ ap (λ b. n + cond b 0 1) h in
    at_place p (xs ++ y ∷ []) (n + 1) at ∙ ap (λ b. cond b (Some (n + 1)) None) (not_below (n + 1) (length (xs ++ y ∷ [])) (omega (arith, length_push xs y)))
    ∙ sym (ap (λ b. cond b (Some k) None) (not_below k n (omega arith))))
    (cases_lt k n)

by_name : (insts : List Inst) (new : Inst) (name : List ℕ) (given : Option ℕ) → place insts new.name ≡ length insts
    → given ≡ cond (bytes_eq new.name name) (Some (length insts)) (position (λ (one : Inst). bytes_eq one.name name) insts)
    → (b : Bool) → bytes_eq new.name name ≡ b → given ≡ position (λ (one : Inst). bytes_eq one.name name) (insts ++ new ∷ [])
by_name insts new name given none step true e =
    let eq : new.name ≡ name = (bytes_eq-Decides new.name name).0 e in
    let here : place insts name ≡ length insts = subst (λ n. place insts n ≡ length insts) eq none in
    step ∙ ap (λ b. cond b (Some (length insts)) (position (λ (one : Inst). bytes_eq one.name name) insts)) e
    ∙ sym (position_new (λ (one : Inst). bytes_eq one.name name) insts new here e)
by_name insts new name given none step false e =
    step ∙ ap (λ b. cond b (Some (length insts)) (position (λ (one : Inst). bytes_eq one.name name) insts)) e
    ∙ sym (position_kept (λ (one : Inst). bytes_eq one.name name) insts new e)

pub found_more : (insts : List Inst) (new : Inst) (name : List ℕ) (given : Option ℕ) → place insts new.name ≡ length insts
    → given ≡ cond (bytes_eq new.name name) (Some (length insts)) (position (λ (one : Inst). bytes_eq one.name name) insts)
    → given ≡ position (λ (one : Inst). bytes_eq one.name name) (insts ++ new ∷ [])
found_more insts new name given none step = by_name insts new name given none step (bytes_eq new.name name) refl

-- where there is no such name
pub place_none : (insts : List Inst) (name : List ℕ) → position (λ (one : Inst). bytes_eq one.name name) insts ≡ None → length insts ≡ place insts name
place_none insts name h =
    let n = place insts name in
    let high : length insts ≤ n = lost n (length insts) (nat_lt n (length insts)) refl h in
    let low : n ≤ length insts = prefix_len-le-length (λ (one : Inst). not (bytes_eq one.name name)) insts in
    omega arith
