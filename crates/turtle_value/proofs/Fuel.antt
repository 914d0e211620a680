-- How many turns are allowed doesn't matter to a text's value, where they are enough.
use Rattle.std.proofs.Common.{◌≡◌, ℕ, zero, suc, ◌≤◌, ◌==◌, Bool, true, false, List, [], ◌∷◌, length, drop, if◌then◌else◌, refl, ap, arith}
use Rattle.std.proofs.lemmas.List.{length-drop}
use Rattle.turtle_grammar.specs.Value.{unescaped_up_to, unescaped, escape_len, escape_value}

same_choice : (b : Bool) (x y u v : List ℕ) → x ≡ u → y ≡ v → (if b then x else y) ≡ (if b then u else v)
same_choice true x y u v p q = p
same_choice false x y u v p q = q

pub enough : (n m : ℕ) (text : List ℕ) → length text ≤ n → length text ≤ m → unescaped_up_to n text ≡ unescaped_up_to m text
enough zero zero text p q = refl
enough zero (suc m) [] p q = refl
enough zero (suc m) (c ∷ rest) p q = absurd (omega (arith, p))
enough (suc n) zero [] p q = refl
enough (suc n) zero (c ∷ rest) p q = absurd (omega (arith, q))
enough (suc n) (suc m) [] p q = refl
enough (suc n) (suc m) (c ∷ rest) p q =
    let behind : List ℕ = drop (escape_len rest) rest in
    let shorter = length-drop (escape_len rest) rest in
    same_choice (c == 92)
    (escape_value rest ∷ unescaped_up_to n behind) (c ∷ unescaped_up_to n rest)
    (escape_value rest ∷ unescaped_up_to m behind) (c ∷ unescaped_up_to m rest)
    (ap (λ x. escape_value rest ∷ x) (enough n m behind (omega (arith, p, shorter)) (omega (arith, q, shorter))))
    (ap (λ x. c ∷ x) (enough n m rest (omega (arith, p)) (omega (arith, q))))

-- what a backslash begins
pub behind_backslash : (rest : List ℕ) → unescaped (92 ∷ rest) ≡ escape_value rest ∷ unescaped (drop (escape_len rest) rest)
behind_backslash rest =
    let shorter = length-drop (escape_len rest) rest in
    ap (λ x. escape_value rest ∷ x) (enough (length rest) (length (drop (escape_len rest) rest)) (drop (escape_len rest) rest) (omega (arith, shorter)) (omega arith))
