-- Lists that a loop makes or changes, item by item.
use Rattle.std.proofs.Common.{◌≡◌, ℕ, zero, suc, ◌+◌, ◌-◌, ◌<◌, List, [], ◌∷◌, ◌++◌, length, get_or, set, map, take, drop, slice_get, option_map, Some, refl, sym, ap, ◌∙◌, ◌⊎◌, inl, inr, append_assoc, arith}
use Rattle.std.proofs.lemmas.List.{length-map, length-take-le, drop_more, set_at, map_more, get_or-append_right, get_or-drop}
use Rattle.std.proofs.lemmas.Option.{none-some, same_Some, slice_get-map, get_or_from_slice_get}

-- an item that is found in a list with one more is that one, or was there
pub pushed_get : {X : Type 0} → (xs : List X) (y : X) (i : ℕ) (x : X) → slice_get (xs ++ y ∷ []) i ≡ Some x → (slice_get xs i ≡ Some x) ⊎ ((i ≡ length xs) × (y ≡ x))
pushed_get [] y zero x e = inr (refl, same_Some y x e)
pushed_get [] y (suc i) x e = absurd (none-some x e)
pushed_get (z ∷ xs) y zero x e = inl e
pushed_get (z ∷ xs) y (suc i) x e = by (pushed_get xs y i x e)
  where
    by : (slice_get xs i ≡ Some x) ⊎ ((i ≡ length xs) × (y ≡ x)) → (slice_get (z ∷ xs) (suc i) ≡ Some x) ⊎ ((suc i ≡ length (z ∷ xs)) × (y ≡ x))
    by (inl h) = inl h
    by (inr h) = inr (ap suc h.0, h.1)

-- one more item of a list is put over another list
pub put_next : {X Y : Type 0} → (f : X → Y) (xs : List X) (ys : List Y) (i : ℕ) (x : X) → i < length xs → length ys ≡ length xs → x ≡ get_or xs i x
    → set (map f (take i xs) ++ drop i ys) i (f x) ≡ map f (take (i + 1) xs) ++ drop (i + 1) ys
put_next f xs ys i x h same is =
    let long : length (map f (take i xs)) ≡ i = length-map (take i xs) f ∙ length-take-le i xs (omega arith) in
    ap (λ rest. set (map f (take i xs) ++ rest) i (f x)) (drop_more ys i (f x) (omega arith))
    ∙ set_at (map f (take i xs)) (get_or ys i (f x)) (drop (i + 1) ys) (f x) i long
    ∙ ap (λ y. map f (take i xs) ++ f y ∷ drop (i + 1) ys) is
    ∙ sym (append_assoc (map f (take i xs)) (f (get_or xs i x) ∷ []) (drop (i + 1) ys))
    ∙ ap (λ front. front ++ drop (i + 1) ys) (sym (map_more f xs i x h))

-- an item stands at each place within a list
pub item_there : {X : Type 0} → (xs : List X) (i : ℕ) → i < length xs → (x : X) × (slice_get xs i ≡ Some x)
item_there [] i h = absurd (omega (arith, h))
item_there (x ∷ xs) zero h = (x, refl)
item_there (x ∷ xs) (suc i) h = item_there xs i (omega (arith, h))

pub map_at : {X Y : Type 0} → (f : X → Y) (xs : List X) (i : ℕ) (x : X) (d : Y) → slice_get xs i ≡ Some x → get_or (map f xs) i d ≡ f x
map_at f xs i x d here = get_or_from_slice_get (map f xs) i (f x) d (slice_get-map f xs i ∙ ap (option_map f) here)

pub set_here : {X : Type 0} → (xs : List X) (i : ℕ) (x : X) → i < length xs → slice_get (set xs i x) i ≡ Some x
set_here [] i x h = absurd (omega (arith, h))
set_here (y ∷ xs) zero x h = refl
set_here (y ∷ xs) (suc i) x h = set_here xs i x (omega (arith, h))

pub set_apart : {X : Type 0} → (xs : List X) (i : ℕ) (x : X) (k : ℕ) → (i ≡ k → ⊥) → slice_get (set xs i x) k ≡ slice_get xs k
set_apart [] i x k ne = refl
set_apart (y ∷ xs) zero x zero ne = absurd (ne refl)
set_apart (y ∷ xs) zero x (suc k) ne = refl
set_apart (y ∷ xs) (suc i) x zero ne = refl
set_apart (y ∷ xs) (suc i) x (suc k) ne = set_apart xs i x k (λ same. ne (ap suc same))

-- an item that a loop over a list has not come to yet is still the list's
pub over_next : {X : Type 0} → (f : X → X) (xs items : List X) (i : ℕ) (d : X) → items ≡ map f (take i xs) ++ drop i xs → i < length xs → get_or items i d ≡ get_or xs i d
over_next f xs items i d is h =
    let long : length (map f (take i xs)) ≡ i = length-map (take i xs) f ∙ length-take-le i xs (omega arith) in
    ap (λ (l : List _). get_or l i d) is ∙ get_or-append_right (map f (take i xs)) (drop i xs) i i d long (omega arith)
    ∙ get_or-drop i xs (i - i) d ∙ ap (λ (n : ℕ). get_or xs n d) (omega arith)
