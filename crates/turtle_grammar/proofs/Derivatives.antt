-- The computing test of a pattern agrees with what it means.
use Rattle.std.proofs.Common.{◌≡◌, ◌⊎◌, inl, inr, ⊎_elim, ℕ, Bool, true, false, ◌&&◌, ◌||◌, cond, List, [], ◌∷◌, ◌++◌, refl, sym, ap, ◌∙◌, subst}
use Rattle.std.specs.List.{AllByRecursion}
use Rattle.turtle_grammar.specs.Pattern.{Pattern, fails, nothing, one, ◌then◌, ◌or◌, many, joined, Matches, is_empty, in_row, either, after, matches, TestAgrees}

-- `in_row` means `then`
pub from_in_row : (p q : Pattern) (t : List ℕ) → Matches (in_row p q) t → Matches (p then q) t
from_in_row fails q t h = absurd h
from_in_row nothing q t h = ([], t, refl, h, refl)
from_in_row (one f) q t h = h
from_in_row (a then b) q t h = h
from_in_row (a or b) q t h = h
from_in_row (many a) q t h = h

pub to_in_row : (p q : Pattern) (t : List ℕ) → Matches (p then q) t → Matches (in_row p q) t
to_in_row fails q t h = absurd h.2
to_in_row nothing q t h =
    let e : h.1 ≡ t = sym (h.4 ∙ ap (λ x. x ++ h.1) h.2) in
    let P : List ℕ → Type 0 = λ x. Matches q x in subst P e h.3
to_in_row (one f) q t h = h
to_in_row (a then b) q t h = h
to_in_row (a or b) q t h = h
to_in_row (many a) q t h = h

-- the other side of a choice that fails on the right
right_fails : (p : Pattern) (t : List ℕ) → Matches p t ⊎ ⊥ → Matches p t
right_fails p t (inl h) = h
right_fails p t (inr h) = absurd h

left_fails : (p : Pattern) (t : List ℕ) → ⊥ ⊎ Matches p t → Matches p t
left_fails p t (inl h) = absurd h
left_fails p t (inr h) = h

-- `either` means `or`
pub from_either : (p q : Pattern) (t : List ℕ) → Matches (either p q) t → Matches p t ⊎ Matches q t
from_either fails q t h = inr h
from_either nothing fails t h = inl h
from_either nothing nothing t h = h
from_either nothing (one f) t h = h
from_either nothing (a then b) t h = h
from_either nothing (a or b) t h = h
from_either nothing (many a) t h = h
from_either (one g) fails t h = inl h
from_either (one g) nothing t h = h
from_either (one g) (one f) t h = h
from_either (one g) (a then b) t h = h
from_either (one g) (a or b) t h = h
from_either (one g) (many a) t h = h
from_either (u then v) fails t h = inl h
from_either (u then v) nothing t h = h
from_either (u then v) (one f) t h = h
from_either (u then v) (a then b) t h = h
from_either (u then v) (a or b) t h = h
from_either (u then v) (many a) t h = h
from_either (u or v) fails t h = inl h
from_either (u or v) nothing t h = h
from_either (u or v) (one f) t h = h
from_either (u or v) (a then b) t h = h
from_either (u or v) (a or b) t h = h
from_either (u or v) (many a) t h = h
from_either (many u) fails t h = inl h
from_either (many u) nothing t h = h
from_either (many u) (one f) t h = h
from_either (many u) (a then b) t h = h
from_either (many u) (a or b) t h = h
from_either (many u) (many a) t h = h

pub to_either : (p q : Pattern) (t : List ℕ) → Matches p t ⊎ Matches q t → Matches (either p q) t
to_either fails q t h = left_fails q t h
to_either nothing fails t h = right_fails nothing t h
to_either nothing nothing t h = h
to_either nothing (one f) t h = h
to_either nothing (a then b) t h = h
to_either nothing (a or b) t h = h
to_either nothing (many a) t h = h
to_either (one g) fails t h = right_fails (one g) t h
to_either (one g) nothing t h = h
to_either (one g) (one f) t h = h
to_either (one g) (a then b) t h = h
to_either (one g) (a or b) t h = h
to_either (one g) (many a) t h = h
to_either (u then v) fails t h = right_fails (u then v) t h
to_either (u then v) nothing t h = h
to_either (u then v) (one f) t h = h
to_either (u then v) (a then b) t h = h
to_either (u then v) (a or b) t h = h
to_either (u then v) (many a) t h = h
to_either (u or v) fails t h = right_fails (u or v) t h
to_either (u or v) nothing t h = h
to_either (u or v) (one f) t h = h
to_either (u or v) (a then b) t h = h
to_either (u or v) (a or b) t h = h
to_either (u or v) (many a) t h = h
to_either (many u) fails t h = right_fails (many u) t h
to_either (many u) nothing t h = h
to_either (many u) (one f) t h = h
to_either (many u) (a then b) t h = h
to_either (many u) (a or b) t h = h
to_either (many u) (many a) t h = h

both : (x y : Bool) → x && y ≡ true → (x ≡ true) × (y ≡ true)
both true y e = (refl, e)
both false y e = cc

from_both : (x y : Bool) → x ≡ true → y ≡ true → x && y ≡ true
from_both true y e f = f
from_both false y e f = cc

some_of : (x y : Bool) → x || y ≡ true → (x ≡ true) ⊎ (y ≡ true)
some_of true y e = inl refl
some_of false y e = inr e

from_left : (x y : Bool) → x ≡ true → x || y ≡ true
from_left true y e = refl
from_left false y e = cc

from_right : (x y : Bool) → y ≡ true → x || y ≡ true
from_right true y e = refl
from_right false y e = e

-- a text in two parts that is empty has two empty parts
empty_parts : (a b : List ℕ) → [] ≡ a ++ b → (a ≡ []) × (b ≡ [])
empty_parts [] b e = (refl, sym e)
empty_parts (x ∷ a) b e = cc

pub from_empty : (p : Pattern) → is_empty p ≡ true → Matches p []
from_empty fails e = cc
from_empty nothing e = refl
from_empty (one f) e = cc
from_empty (p then q) e = let h = both (is_empty p) (is_empty q) e in ([], [], from_empty p h.0, from_empty q h.1, refl)
from_empty (p or q) e = ⊎_elim (λ h. inl (from_empty p h)) (λ h. inr (from_empty q h)) (some_of (is_empty p) (is_empty q) e)
from_empty (many p) e = ([], tt, refl)

at_empty : (p : Pattern) (a : List ℕ) → a ≡ [] → Matches p a → Matches p []
at_empty p a e h = let P : List ℕ → Type 0 = λ x. Matches p x in subst P e h

pub to_empty : (p : Pattern) → Matches p [] → is_empty p ≡ true
to_empty fails h = absurd h
to_empty nothing h = refl
to_empty (one f) h = let e = h.2 in cc
to_empty (p then q) h =
    let e = empty_parts h.0 h.1 h.4 in
    from_both (is_empty p) (is_empty q) (to_empty p (at_empty p h.0 e.0 h.2)) (to_empty q (at_empty q h.1 e.1 h.3))
to_empty (p or q) h = ⊎_elim (λ k. from_left (is_empty p) (is_empty q) (to_empty p k)) (λ k. from_right (is_empty p) (is_empty q) (to_empty q k)) h
to_empty (many p) h = refl

chosen : (b : Bool) (t : List ℕ) → Matches (cond b nothing fails) t → (b ≡ true) × (t ≡ [])
chosen true t h = (refl, h)
chosen false t h = absurd h

choose : (b : Bool) (t : List ℕ) → b ≡ true → t ≡ [] → Matches (cond b nothing fails) t
choose true t e h = h
choose false t e h = cc

guarded : (b : Bool) (q : Pattern) (t : List ℕ) → Matches (cond b q fails) t → (b ≡ true) × Matches q t
guarded true q t h = (refl, h)
guarded false q t h = absurd h

guard : (b : Bool) (q : Pattern) (t : List ℕ) → b ≡ true → Matches q t → Matches (cond b q fails) t
guard true q t e h = h
guard false q t e h = cc

-- a text in two parts that begins with c: the first part is empty, or begins with it
pub parted : (c : ℕ) (t a b : List ℕ) → c ∷ t ≡ a ++ b → ((a ≡ []) × (b ≡ c ∷ t)) ⊎ ((x : List ℕ) × (a ≡ c ∷ x) × (t ≡ x ++ b))
parted c t [] b e = inl (refl, sym e)
parted c t (d ∷ a) b e = let h : c ≡ d = cc in let k : t ≡ a ++ b = cc in inr (a, cc, k)

pub from_after : (c : ℕ) (p : Pattern) (t : List ℕ) → Matches (after c p) t → Matches p (c ∷ t)
from_after c fails t h = absurd h
from_after c nothing t h = absurd h
from_after c (one f) t h = let k = chosen (f c) t h in (c, k.0, ap (λ x. c ∷ x) k.1)
from_after c (p then q) t h =
    ⊎_elim
    (λ k. let r = from_in_row (after c p) q t k in (c ∷ r.0, r.1, from_after c p r.0 r.2, r.3, ap (λ x. c ∷ x) r.4))
    (λ k. let r = guarded (is_empty p) (after c q) t k in ([], c ∷ t, from_empty p r.0, from_after c q t r.1, refl))
    (from_either (in_row (after c p) q) (cond (is_empty p) (after c q) fails) t h)
from_after c (p or q) t h = ⊎_elim (λ k. inl (from_after c p t k)) (λ k. inr (from_after c q t k)) (from_either (after c p) (after c q) t h)
from_after c (many p) t h =
    let r = from_in_row (after c p) (many p) t h in
    let m = r.3 in
    ((c ∷ r.0) ∷ m.0, (from_after c p r.0 r.2, m.1), ap (λ x. c ∷ x) (r.4 ∙ ap (λ x. r.0 ++ x) m.2))

pub moved : (p : Pattern) (a b : List ℕ) → a ≡ b → Matches p a → Matches p b
moved p a b e h = let P : List ℕ → Type 0 = λ x. Matches p x in subst P e h

-- the first part that isn't empty begins with c
pub first_part : (c : ℕ) (p : Pattern) (t : List ℕ) (parts : List (List ℕ)) → AllByRecursion (Matches p) parts → c ∷ t ≡ joined parts
    → (x : List ℕ) × (rest : List (List ℕ)) × Matches p (c ∷ x) × AllByRecursion (Matches p) rest × (t ≡ x ++ joined rest)
first_part c p t [] h e = cc
first_part c p t ([] ∷ parts) h e = first_part c p t parts h.1 e
first_part c p t ((d ∷ a) ∷ parts) h e =
    let same : d ∷ a ≡ c ∷ a = cc in (a, parts, moved p (d ∷ a) (c ∷ a) same h.0, h.1, cc)

pub to_after : (c : ℕ) (p : Pattern) (t : List ℕ) → Matches p (c ∷ t) → Matches (after c p) t
to_after c fails t h = absurd h
to_after c nothing t h = let e = h in cc
to_after c (one f) t h =
    let e = h.2 in let same : h.0 ≡ c = cc in let rest : t ≡ [] = cc in
    choose (f c) t (ap f (sym same) ∙ h.1) rest
to_after c (p then q) t h =
    to_either (in_row (after c p) q) (cond (is_empty p) (after c q) fails) t (⊎_elim
    (λ k. inr (guard (is_empty p) (after c q) t (to_empty p (moved p h.0 [] k.0 h.2)) (to_after c q t (moved q h.1 (c ∷ t) k.1 h.3))))
    (λ k. inl (to_in_row (after c p) q t (k.0, h.1, to_after c p k.0 (moved p h.0 (c ∷ k.0) k.1 h.2), h.3, k.2)))
    (parted c t h.0 h.1 h.4))
to_after c (p or q) t h = to_either (after c p) (after c q) t (⊎_elim (λ k. inl (to_after c p t k)) (λ k. inr (to_after c q t k)) h)
to_after c (many p) t h =
    let r = first_part c p t h.0 h.1 h.2 in
    to_in_row (after c p) (many p) t (r.0, joined r.1, to_after c p r.0 r.2, (r.1, r.3, refl), r.4)

-- The test is true where the text is of the pattern, and only there.
pub sound : (p : Pattern) (t : List ℕ) → matches p t ≡ true → Matches p t
sound p [] e = from_empty p e
sound p (c ∷ t) e = from_after c p t (sound (after c p) t e)

pub complete : (p : Pattern) (t : List ℕ) → Matches p t → matches p t ≡ true
complete p [] h = to_empty p h
complete p (c ∷ t) h = complete (after c p) t (to_after c p t h)

pub test_agrees : TestAgrees
test_agrees p t = (sound p t, complete p t)
