-- What the texts of a pattern have in common: what they begin with, which characters they have and which not.
use Rattle.std.proofs.Common.{◌≡◌, ◌⊎◌, ⊎_elim, ℕ, Bool, true, false, not, ◌&&◌, ◌||◌, ◌==◌, List, [], ◌∷◌, ◌++◌, refl, sym, ap, ◌∙◌, eqb-true, true≢false}
use Rattle.std.specs.List.{list_any, AllByRecursion}
use Rattle.turtle_grammar.specs.Characters.{among}
use Rattle.turtle_grammar.specs.Pattern.{Pattern, fails, nothing, one, ◌then◌, ◌or◌, many, joined, Matches, is_empty}
use Rattle.turtle_grammar.proofs.Derivatives.{to_empty, parted, first_part, moved}

or_left : (x y : Bool) → x ≡ true → x || y ≡ true
or_left true y e = refl
or_left false y e = cc

or_right : (x y : Bool) → y ≡ true → x || y ≡ true
or_right true y e = refl
or_right false y e = e

and_true : (x y : Bool) → x ≡ true → y ≡ true → x && y ≡ true
and_true true y e f = f
and_true false y e f = cc

both : (x y : Bool) → x && y ≡ true → (x ≡ true) × (y ≡ true)
both true y e = (refl, e)
both false y e = cc

neither : (x y : Bool) → x || y ≡ false → (x ≡ false) × (y ≡ false)
neither true y e = cc
neither false y e = (refl, e)

none_of : (x y : Bool) → x ≡ false → y ≡ false → x || y ≡ false
none_of true y e f = cc
none_of false y e f = f

not_true : (x : Bool) → not x ≡ true → x ≡ false
not_true true e = cc
not_true false e = refl

-- ---- the first character

abbrev pub starts : Pattern → ℕ → Bool
starts fails c = false
starts nothing c = false
starts (one class) c = class c
starts (p then q) c = starts p c || (is_empty p && starts q c)
starts (p or q) c = starts p c || starts q c
starts (many p) c = starts p c

pub starts_is : (p : Pattern) (c : ℕ) (t : List ℕ) → Matches p (c ∷ t) → starts p c ≡ true
starts_is fails c t h = absurd h
starts_is nothing c t h = let e = h in cc
starts_is (one f) c t h = let e = h.2 in let same : h.0 ≡ c = cc in ap f (sym same) ∙ h.1
starts_is (p then q) c t h =
    ⊎_elim
    (λ k. or_right (starts p c) (is_empty p && starts q c) (and_true (is_empty p) (starts q c) (to_empty p (moved p h.0 [] k.0 h.2)) (starts_is q c t (moved q h.1 (c ∷ t) k.1 h.3))))
    (λ k. or_left (starts p c) (is_empty p && starts q c) (starts_is p c k.0 (moved p h.0 (c ∷ k.0) k.1 h.2)))
    (parted c t h.0 h.1 h.4)
starts_is (p or q) c t h =
    ⊎_elim (λ k. or_left (starts p c) (starts q c) (starts_is p c t k)) (λ k. or_right (starts p c) (starts q c) (starts_is q c t k)) h
starts_is (many p) c t h = let r = first_part c p t h.0 h.1 h.2 in starts_is p c r.0 r.2

-- ---- characters that no text has

any_append : (f : ℕ → Bool) (a b : List ℕ) → list_any f a ≡ false → list_any f b ≡ false → list_any f (a ++ b) ≡ false
any_append f [] b e k = k
any_append f (c ∷ a) b e k =
    let h = neither (f c) (list_any f a) e in none_of (f c) (list_any f (a ++ b)) h.0 (any_append f a b h.1 k)

-- no class has one of these characters
abbrev pub lacks : List ℕ → Pattern → Bool
lacks ks fails = true
lacks ks nothing = true
lacks ks (one class) = not (list_any class ks)
lacks ks (p then q) = lacks ks p && lacks ks q
lacks ks (p or q) = lacks ks p && lacks ks q
lacks ks (many p) = lacks ks p

apart : (class : ℕ → Bool) (ks : List ℕ) (c : ℕ) → class c ≡ true → list_any class ks ≡ false → among ks c ≡ false
apart class [] c e none = refl
apart class (k ∷ ks) c e none =
    let h = neither (class k) (list_any class ks) none in
    none_of (c == k) (among ks c) (by (c == k) refl h.0) (apart class ks c e h.1)
  where
    by : (b : Bool) → (c == k) ≡ b → class k ≡ false → b ≡ false
    by false e_not h = refl
    by true same h = absurd (true≢false (sym e ∙ ap class (eqb-true c k same) ∙ h))

pub lacks_is : (ks : List ℕ) (p : Pattern) (t : List ℕ) → lacks ks p ≡ true → Matches p t → list_any (among ks) t ≡ false
lacks_is ks fails t e h = absurd h
lacks_is ks nothing t e h = ap (list_any (among ks)) h
lacks_is ks (one f) t e h = ap (list_any (among ks)) h.2 ∙ none_of (among ks h.0) false (apart f ks h.0 h.1 (not_true (list_any f ks) e)) refl
lacks_is ks (p then q) t e h =
    let k = both (lacks ks p) (lacks ks q) e in
    ap (list_any (among ks)) h.4 ∙ any_append (among ks) h.0 h.1 (lacks_is ks p h.0 k.0 h.2) (lacks_is ks q h.1 k.1 h.3)
lacks_is ks (p or q) t e h =
    let k = both (lacks ks p) (lacks ks q) e in
    ⊎_elim (λ m. lacks_is ks p t k.0 m) (λ m. lacks_is ks q t k.1 m) h
lacks_is ks (many p) t e h = ap (list_any (among ks)) h.2 ∙ each (λ part m. lacks_is ks p part e m) h.0 h.1
  where
    each : ((part : List ℕ) → Matches p part → list_any (among ks) part ≡ false) → (parts : List (List ℕ)) → AllByRecursion (Matches p) parts → list_any (among ks) (joined parts) ≡ false
    each one_part [] m = refl
    each one_part (part ∷ parts) m = any_append (among ks) part (joined parts) (one_part part m.0) (each one_part parts m.1)

-- ---- characters that each text has

any_left : (f : ℕ → Bool) (a b : List ℕ) → list_any f a ≡ true → list_any f (a ++ b) ≡ true
any_left f [] b e = cc
any_left f (c ∷ a) b e = by (f c) e (λ h. any_left f a b h)
  where
    by : (x : Bool) → x || list_any f a ≡ true → (list_any f a ≡ true → list_any f (a ++ b) ≡ true) → x || list_any f (a ++ b) ≡ true
    by true h rest = refl
    by false h rest = rest h

any_right : (f : ℕ → Bool) (a b : List ℕ) → list_any f b ≡ true → list_any f (a ++ b) ≡ true
any_right f [] b e = e
any_right f (c ∷ a) b e = or_right (f c) (list_any f (a ++ b)) (any_right f a b e)

-- a part that each text has is of a class within this one
abbrev pub Has : (ℕ → Bool) → Pattern → Type 0
Has f fails = Unit {0}
Has f nothing = ⊥
Has f (one class) = (c : ℕ) → class c ≡ true → f c ≡ true
Has f (p then q) = Has f p ⊎ Has f q
Has f (p or q) = Has f p × Has f q
Has f (many p) = ⊥

pub has_is : (f : ℕ → Bool) (p : Pattern) (t : List ℕ) → Has f p → Matches p t → list_any f t ≡ true
has_is f fails t has h = absurd h
has_is f nothing t has h = absurd has
has_is f (one class) t has h = ap (list_any f) h.2 ∙ or_left (f h.0) false (has h.0 h.1)
has_is f (p then q) t has h =
    ap (list_any f) h.4 ∙ ⊎_elim (λ k. any_left f h.0 h.1 (has_is f p h.0 k h.2)) (λ k. any_right f h.0 h.1 (has_is f q h.1 k h.3)) has
has_is f (p or q) t has h = ⊎_elim (λ m. has_is f p t has.0 m) (λ m. has_is f q t has.1 m) h
has_is f (many p) t has h = absurd has
