-- How many tickets are below a number, as a list of tickets grows.
use Rattle.std.proofs.Common.{◌≡◌, ℕ, ◌+◌, ◌<◌, ◌≤◌, cond, List, [], ◌∷◌, ◌++◌, length, nat_lt, refl, ap, ◌∙◌, arith}
use Rattle.std.specs.List.{All}
use Rattle.std.proofs.lemmas.Bool.{lt-ltb, le-ltb}
use Rattle.std.proofs.lemmas.List.Elements.{All-head, All-tail}
use Rattle.std.proofs.lemmas.List.Sums.{sum_by-append, sum_by-cons, sum_by_push, count_by-le-length}
use Rattle.cable_trace.specs.Order.{below}

-- one more ticket counts where it is below the number, and else it doesn't
pub below_low : (number ticket : ℕ) (tickets : List ℕ) → ticket < number → below number (tickets ++ ticket ∷ []) ≡ below number tickets + 1
unfolding below
below_low number ticket tickets h =
    let e : cond (nat_lt ticket number) 1 0 ≡ 1 = ap (λ b. cond b 1 0) (lt-ltb ticket number h) in
    sum_by_push (λ t. cond (nat_lt t number) 1 0) tickets ticket ∙ ap (λ n. below number tickets + n) e

pub below_high : (number ticket : ℕ) (tickets : List ℕ) → number ≤ ticket → below number (tickets ++ ticket ∷ []) ≡ below number tickets
unfolding below
below_high number ticket tickets h =
    let e : cond (nat_lt ticket number) 1 0 ≡ 0 = ap (λ b. cond b 1 0) (le-ltb ticket number h) in
    sum_by_push (λ t. cond (nat_lt t number) 1 0) tickets ticket ∙ ap (λ n. below number tickets + n) e ∙ omega arith

-- so it never counts less
pub below-more : (number ticket : ℕ) (tickets : List ℕ) → below number tickets ≤ below number (tickets ++ ticket ∷ [])
unfolding below
below-more number ticket tickets = omega (arith, sum_by_push (λ t. cond (nat_lt t number) 1 0) tickets ticket)

-- no more than all are below a number, and all are where each is
pub below-le : (number : ℕ) (tickets : List ℕ) → below number tickets ≤ length tickets
unfolding below
below-le number tickets = count_by-le-length (λ t. nat_lt t number) tickets

pub below-all : (number : ℕ) (tickets : List ℕ) → All (λ t. t < number) tickets → below number tickets ≡ length tickets
unfolding below
below-all number [] h = refl
below-all number (t ∷ tickets) h =
    let e : cond (nat_lt t number) 1 0 ≡ 1 = ap (λ b. cond b 1 0) (lt-ltb t number (All-head (λ x. x < number) t tickets h)) in
    let rest : below number tickets ≡ length tickets = below-all number tickets (All-tail (λ x. x < number) t tickets h) in
    sum_by-cons (λ x. cond (nat_lt x number) 1 0) t tickets ∙ ap (λ n. n + below number tickets) e ∙ omega arith

-- the numbers of two lists add up, and none is where each is at least the number
pub below-append : (number : ℕ) (first second : List ℕ) → below number (first ++ second) ≡ below number first + below number second
unfolding below
below-append number first second = sum_by-append (λ t. cond (nat_lt t number) 1 0) first second

pub below-none : (number : ℕ) (tickets : List ℕ) → All (λ t. number ≤ t) tickets → below number tickets ≡ 0
unfolding below
below-none number [] h = refl
below-none number (t ∷ tickets) h =
    let e : cond (nat_lt t number) 1 0 ≡ 0 = ap (λ b. cond b 1 0) (le-ltb t number (All-head (λ x. number ≤ x) t tickets h)) in
    let rest : below number tickets ≡ 0 = below-none number tickets (All-tail (λ x. number ≤ x) t tickets h) in
    sum_by-cons (λ x. cond (nat_lt x number) 1 0) t tickets ∙ ap (λ n. n + below number tickets) e ∙ omega arith
