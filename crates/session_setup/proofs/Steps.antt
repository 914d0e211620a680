-- Work step by step: how a loop comes to it, what holds of its faults, and that it ends in one way.
use Rattle.std.proofs.Common.{◌≡◌, ℕ, ◌+◌, ◌<◌, List, [], ◌∷◌, ◌++◌, length, take, drop, get_or, Result, Ok, Err, refl, sym, ◌∙◌, ap, subst, arith, inl, inr, add-zero, zero-add, add-one, ◌≤◌}
use Rattle.std.proofs.lemmas.List.{take_more, take-append-drop, take_all, length-take-le}
use Rattle.std.proofs.Math.Seq.{drop-cons}
use Rattle.session_setup.specs.Steps.{Then, Each}

-- a value, and a fault, as an end of work whose other side has this type
abbrev good : (A E : Type 0) → A → Result A E
good A E x = Ok x

abbrev bad : (A E : Type 0) → E → Result A E
bad A E e = Err e

ok-same : {A E : Type 0} (x y : A) → good A E x ≡ good A E y → x ≡ y
ok-same x y e = cc

ok-err : {A E : Type 0} (x : A) (e : E) → Ok x ≡ Err e → ⊥
ok-err x e same = cc

-- ---- a loop over items

next-place : (n k : ℕ) → n + (k + 1) ≡ n + 1 + k
next-place n k = omega arith

-- one more item gives its value
push : {X A E : Type 0} (Step : ℕ → X → Result A E → Type 0) (n : ℕ) (front : List X) (x : X) (values : List A) (a : A)
    → Each Step n front (Ok values) → Step (n + length front) x (Ok a) → Each Step n (front ++ x ∷ []) (Ok (values ++ a ∷ []))
push {A = A} {E = E} Step n [] x values a each here =
    (a, subst (λ k. Step k x (Ok a)) (add-zero n) here, ([], refl, ap (λ (vs : List A). good (List A) E (vs ++ a ∷ [])) (ok-same {E = E} values [] each)))
push {A = A} {E = E} Step n (y ∷ front) x values a each here =
    let more = push Step (n + 1) front x each.2.0 a each.2.1 (subst (λ k. Step k x (Ok a)) (ap (λ k. n + k) (sym (add-one (length front))) ∙ next-place n (length front)) here) in
    (each.0, each.1, (each.2.0 ++ a ∷ [], more, ap (λ (vs : List A). good (List A) E (vs ++ a ∷ [])) (ok-same {E = E} values (each.0 ∷ each.2.0) each.2.2)))

-- one more item ends in a fault
stop : {X A E : Type 0} (Step : ℕ → X → Result A E → Type 0) (n : ℕ) (front : List X) (x : X) (back : List X) (values : List A) (fault : E)
    → Each Step n front (Ok values) → Step (n + length front) x (Err fault) → Each Step n (front ++ x ∷ back) (Err fault)
stop {A = A} Step n [] x back values fault each here = inl (subst (λ k. Step k x (Err fault)) (add-zero n) here)
stop {A = A} Step n (y ∷ front) x back values fault each here =
    let more = stop Step (n + 1) front x back each.2.0 fault each.2.1 (subst (λ k. Step k x (Err fault)) (ap (λ k. n + k) (sym (add-one (length front))) ∙ next-place n (length front)) here) in
    inr (each.0, each.1, inl more)

within-le : (k n : ℕ) → k < n → k ≤ n
within-le k n h = omega (arith, h)

place-of : {X : Type 0} (xs : List X) (k : ℕ) → k < length xs → k ≡ 0 + length (take k xs)
place-of xs k within = sym (zero-add (length (take k xs)) ∙ length-take-le k xs (within-le k (length xs) within))

parted : {X : Type 0} (xs : List X) (k : ℕ) (x : X) → k < length xs → x ≡ get_or xs k x → xs ≡ take k xs ++ x ∷ drop (k + 1) xs
parted xs k x within is =
    sym (take-append-drop k xs)
    ∙ ap (λ rest. take k xs ++ rest) (drop-cons xs k x within ∙ ap (λ n. get_or xs k x ∷ drop n xs) (sym (add-one k)))
    ∙ ap (λ one. take k xs ++ one ∷ drop (k + 1) xs) (sym is)

pub each-more : {X A E : Type 0} (Step : ℕ → X → Result A E → Type 0) (xs : List X) (k : ℕ) (x : X) (values : List A) (a : A) → k < length xs
    → x ≡ get_or xs k x → Each Step 0 (take k xs) (Ok values) → Step k x (Ok a) → Each Step 0 (take (k + 1) xs) (Ok (values ++ a ∷ []))
each-more Step xs k x values a within is each here =
    subst (λ front. Each Step 0 front (Ok (values ++ a ∷ []))) (sym (take_more xs k x within ∙ ap (λ one. take k xs ++ one ∷ []) (sym is)))
    (push Step 0 (take k xs) x values a each (subst (λ n. Step n x (Ok a)) (place-of xs k within) here))

pub each-stop : {X A E : Type 0} (Step : ℕ → X → Result A E → Type 0) (xs : List X) (k : ℕ) (x : X) (values : List A) (fault : E) → k < length xs
    → x ≡ get_or xs k x → Each Step 0 (take k xs) (Ok values) → Step k x (Err fault) → Each Step 0 xs (Err fault)
each-stop Step xs k x values fault within is each here =
    subst (λ all. Each Step 0 all (Err fault)) (sym (parted xs k x within is))
    (stop Step 0 (take k xs) x (drop (k + 1) xs) values fault each (subst (λ n. Step n x (Err fault)) (place-of xs k within) here))

-- all items have given their values
pub each-all : {X A E : Type 0} (Step : ℕ → X → Result A E → Type 0) (xs : List X) (k : ℕ) (values : List A) → length xs ≤ k
    → Each Step 0 (take k xs) (Ok values) → Each Step 0 xs (Ok values)
each-all Step xs k values past each = subst (λ front. Each Step 0 front (Ok values)) (take_all k xs past) each

-- ---- what holds of each fault of the steps holds of the whole

pub each-fault : {X A E : Type 0} (Step : ℕ → X → Result A E → Type 0) (P : E → Type 0) (n : ℕ) (xs : List X) (fault : E)
    → ((k : ℕ) (x : X) → Step k x (Err fault) → P fault) → Each Step n xs (Err fault) → P fault
each-fault {A = A} Step P n [] fault all each = absurd (ok-err {A = List A} [] fault (sym each))
each-fault {A = A} Step P n (x ∷ xs) fault all (inl here) = all n x here
each-fault {A = A} Step P n (x ∷ xs) fault all (inr (a, given, inl later)) = each-fault Step P (n + 1) xs fault all later
each-fault {A = A} Step P n (x ∷ xs) fault all (inr (a, given, inr (rest, each, e))) = absurd (ok-err {A = List A} (a ∷ rest) fault (sym e))

-- ---- steps that say more

pub then-as : {A B E : Type 0} (First First' : Result A E → Type 0) (Second Second' : A → Result B E → Type 0) (end : Result B E)
    → ((x : Result A E) → First x → First' x) → ((a : A) (x : Result B E) → Second a x → Second' a x) → Then First Second end → Then First' Second' end
then-as First First' Second Second' (Ok b) first second (a, x, y) = (a, first (Ok a) x, second a (Ok b) y)
then-as First First' Second Second' (Err e) first second (inl x) = inl (first (Err e) x)
then-as First First' Second Second' (Err e) first second (inr (a, x, y)) = inr (a, first (Ok a) x, second a (Err e) y)

pub each-as : {X A E : Type 0} (Step Step' : ℕ → X → Result A E → Type 0) → ((n : ℕ) (x : X) (end : Result A E) → Step n x end → Step' n x end)
    → (n : ℕ) (xs : List X) (end : Result (List A) E) → Each Step n xs end → Each Step' n xs end
each-as Step Step' step n [] end h = h
each-as {A = A} {E = E} Step Step' step n (x ∷ xs) end h =
    let All : A → List A → Result (List A) E → Type 0 = λ value values all. all ≡ Ok (value ∷ values) in
    then-as (Step n x) (Step' n x) (λ value. Then (λ rest. Each Step (n + 1) xs rest) (All value)) (λ value. Then (λ rest. Each Step' (n + 1) xs rest) (All value)) end
    (step n x)
    (λ value more. then-as (λ rest. Each Step (n + 1) xs rest) (λ rest. Each Step' (n + 1) xs rest) (All value) (All value) more
    (λ rest. each-as Step Step' step (n + 1) xs rest) (λ values all same. same))
    h

-- ---- at most one end, of those that are fine

abbrev pub Fine : {A E : Type 0} → (E → Type 0) → Result A E → Type 0
Fine fine (Ok value) = Unit {0}
Fine fine (Err fault) = fine fault

abbrev pub HasOne : {A E : Type 0} → (E → Type 0) → (Result A E → Type 0) → Type 0
HasOne {A = A} {E = E} fine Step = (x y : Result A E) → Fine fine x → Fine fine y → Step x → Step y → x ≡ y

same-between : {A B E : Type 0} (fine : E → Type 0) (First : Result A E → Type 0) (Second : A → Result B E → Type 0) (a c : A) (end : Result B E)
    → HasOne fine First → First (Ok a) → First (Ok c) → Second c end → Second a end
same-between {E = E} fine First Second a c end first x y then =
    subst (λ one. Second one end) (sym (ok-same {E = E} a c (first (Ok a) (Ok c) tt tt x y))) then

pub one-then : {A B E : Type 0} (fine : E → Type 0) (First : Result A E → Type 0) (Second : A → Result B E → Type 0) → HasOne fine First
    → ((a : A) → First (Ok a) → HasOne fine (Second a)) → HasOne fine (Then First Second)
one-then fine First Second first second (Ok b) (Ok c) fx fy x y =
    second x.0 x.1 (Ok b) (Ok c) tt tt x.2 (same-between fine First Second x.0 y.0 (Ok c) first x.1 y.1 y.2)
one-then fine First Second first second (Ok b) (Err f) fx fy x (inl h) = absurd (ok-err x.0 f (first (Ok x.0) (Err f) tt fy x.1 h))
one-then fine First Second first second (Ok b) (Err f) fx fy x (inr y) =
    second x.0 x.1 (Ok b) (Err f) tt fy x.2 (same-between fine First Second x.0 y.0 (Err f) first x.1 y.1 y.2)
one-then fine First Second first second (Err e) (Ok c) fx fy (inl h) y = absurd (ok-err y.0 e (first (Ok y.0) (Err e) tt fx y.1 h))
one-then fine First Second first second (Err e) (Ok c) fx fy (inr x) y =
    second x.0 x.1 (Err e) (Ok c) fx tt x.2 (same-between fine First Second x.0 y.0 (Ok c) first x.1 y.1 y.2)
one-then {A = A} {B = B} {E = E} fine First Second first second (Err e) (Err f) fx fy (inl h) (inl k) = err-same (first (Err e) (Err f) fx fy h k)
  where
    err-same : bad A E e ≡ bad A E f → bad B E e ≡ bad B E f
    err-same same = cc
one-then fine First Second first second (Err e) (Err f) fx fy (inl h) (inr y) = absurd (ok-err y.0 e (first (Ok y.0) (Err e) tt fx y.1 h))
one-then fine First Second first second (Err e) (Err f) fx fy (inr x) (inl k) = absurd (ok-err x.0 f (first (Ok x.0) (Err f) tt fy x.1 k))
one-then fine First Second first second (Err e) (Err f) fx fy (inr x) (inr y) =
    second x.0 x.1 (Err e) (Err f) fx fy x.2 (same-between fine First Second x.0 y.0 (Err f) first x.1 y.1 y.2)

pub one-each : {X A E : Type 0} (fine : E → Type 0) (Step : ℕ → X → Result A E → Type 0) → ((n : ℕ) (x : X) → HasOne fine (Step n x))
    → (n : ℕ) (xs : List X) → HasOne fine (Each Step n xs)
one-each fine Step step n [] = λ p q fp fq x y. x ∙ sym y
one-each {A = A} {E = E} fine Step step n (x ∷ xs) =
    one-then fine (Step n x) (λ value. Then (λ rest. Each Step (n + 1) xs rest) (λ values all. all ≡ Ok (value ∷ values))) (step n x)
    (λ value given. one-then fine (λ rest. Each Step (n + 1) xs rest) (λ values all. all ≡ Ok (value ∷ values)) (one-each fine Step step (n + 1) xs)
    (λ values each p q fp fq e f. e ∙ sym f))

-- ---- and some

abbrev pub HasSome : {A E : Type 0} → (E → Type 0) → (Result A E → Type 0) → Type 0
HasSome {A = A} {E = E} fine Step = (x : Result A E) × Fine fine x × Step x

pub some-then : {A B E : Type 0} (fine : E → Type 0) (First : Result A E → Type 0) (Second : A → Result B E → Type 0) → HasSome fine First
    → ((a : A) → First (Ok a) → HasSome fine (Second a)) → HasSome fine (Then First Second)
some-then {A = A} {B = B} {E = E} fine First Second (Err e, f, h) second = (Err e, f, inl h)
some-then {A = A} {B = B} {E = E} fine First Second (Ok a, f, h) second = by (second a h)
  where
    by : HasSome fine (Second a) → HasSome fine (Then First Second)
    by (Ok b, g, k) = (Ok b, tt, (a, h, k))
    by (Err e, g, k) = (Err e, g, inr (a, h, k))

pub some-each : {X A E : Type 0} (fine : E → Type 0) (Step : ℕ → X → Result A E → Type 0) → ((n : ℕ) (x : X) → HasSome fine (Step n x))
    → (n : ℕ) (xs : List X) → HasSome fine (Each Step n xs)
some-each fine Step step n [] = (Ok [], tt, refl)
some-each {A = A} {E = E} fine Step step n (x ∷ xs) =
    some-then fine (Step n x) (λ value. Then (λ rest. Each Step (n + 1) xs rest) (λ values all. all ≡ Ok (value ∷ values))) (step n x)
    (λ value given. some-then fine (λ rest. Each Step (n + 1) xs rest) (λ values all. all ≡ Ok (value ∷ values)) (some-each fine Step step (n + 1) xs)
    (λ values all. (Ok (value ∷ values), tt, refl)))
