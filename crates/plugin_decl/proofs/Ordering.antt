-- The ports in order of index, as the code finds them.
use Rattle.std.proofs.Common.{◌≡◌, ℕ, zero, suc, ◌+◌, ◌<◌, ◌≤◌, Bool, cond, List, [], ◌∷◌, ◌++◌, length, map, Option, None, Some, refl, sym, ◌∙◌, ap, ⊎_elim, arith, add-one, add-zero}
use Rattle.std.specs.Prelude.{nat_lt, not, find, slice_get, position}
use Rattle.std.specs.List.{cons_option, filter_map, range_with_len, position_or_len}
use Rattle.std.specs.Option.{option_and_then}
use Rattle.std.proofs.lemmas.Bool.{cases_lt, le-ltb, lt-ltb}
use Rattle.std.proofs.lemmas.List.Elements.{filter_map-append}
use Rattle.std.proofs.lemmas.List.Folds.{find_at}
use Rattle.triple_store.specs.declared.term.Term.{Term}
use Rattle.triple_store.specs.declared.term.Triple.{Triple}
use Rattle.plugin_decl.specs.Ports.{index_of}
use Rattle.plugin_decl.specs.Declaration.{ports_in_rows, indexes_of, is_index, port_at, ports_of}

-- nothing stands past the end
pub get-past : {X : Type 0} (xs : List X) (n : ℕ) → length xs ≤ n → slice_get xs n ≡ None
get-past [] n h = refl
get-past (x ∷ xs) zero h = absurd (omega arith)
get-past (x ∷ xs) (suc n) h = get-past xs n (omega arith)

get-by : {X : Type 0} (xs : List X) (n m : ℕ) → m ≡ length xs → option_and_then (slice_get xs) (cond (nat_lt n m) (Some n) None) ≡ slice_get xs n
get-by xs n m e = ⊎_elim
    (λ (within : n < m). rw (lt-ltb n m within) refl)
    (λ (past : m ≤ n). rw (le-ltb n m past) (sym (get-past xs n (omega arith))))
    (cases_lt n m)

pub length-map : {X Y : Type 0} (f : X → Y) (xs : List X) → length (map f xs) ≡ length xs
length-map f [] = refl
length-map f (x ∷ xs) = ap suc (length-map f xs)

position-map : {X Y : Type 0} (f : X → Y) (p : Y → Bool) (xs : List X) → position_or_len p (map f xs) ≡ position_or_len (λ x. p (f x)) xs
position-map f p [] = refl
position-map f p (x ∷ xs) = ap (λ n. cond (not (p (f x))) (1 + n) 0) (position-map f p xs)

-- the item whose image passes, by the place of that image
find-position : {X Y : Type 0} (f : X → Y) (p : Y → Bool) (xs : List X) → option_and_then (slice_get xs) (position p (map f xs)) ≡ find (λ x. p (f x)) xs
find-position f p xs =
    get-by xs (position_or_len p (map f xs)) (length (map f xs)) (length-map f xs)
    ∙ ap (slice_get xs) (position-map f p xs) ∙ sym (find_at (λ x. p (f x)) xs)

pub port_at-found : (rows : List Triple) (plugin : Term) (ports : List Term) (indexes : List (Option ℕ)) (i : ℕ) → ports ≡ ports_in_rows rows plugin → indexes ≡ indexes_of rows plugin → option_and_then (slice_get ports) (position (is_index i) indexes) ≡ port_at rows plugin i
port_at-found rows plugin ports indexes i p q =
    ap (λ xs. option_and_then (slice_get xs) (position (is_index i) indexes)) p
    ∙ ap (λ xs. option_and_then (slice_get (ports_in_rows rows plugin)) (position (is_index i) xs)) q
    ∙ find-position (index_of rows) (is_index i) (ports_in_rows rows plugin)

-- one more number
range-more : (a n : ℕ) → range_with_len a (suc n) ≡ range_with_len a n ++ (a + n) ∷ []
range-more a zero = rw add-zero refl
range-more a (suc n) = let e : a + 1 + n ≡ a + suc n = omega arith in ap (λ xs. a ∷ xs) (range-more (a + 1) n ∙ ap (λ k. range_with_len (a + 1) n ++ k ∷ []) e)

next : {X : Type 0} (f : ℕ → Option X) (n : ℕ) → filter_map f (range_with_len 0 (n + 1)) ≡ filter_map f (range_with_len 0 n) ++ cons_option (f n) []
next f n = let e : 0 + n ≡ n = omega arith in
    rw add-one (ap (filter_map f) (range-more 0 n ∙ ap (λ k. range_with_len 0 n ++ k ∷ []) e) ∙ filter_map-append f (range_with_len 0 n) (n ∷ []))

-- one more port, where there is one
pub ordered-some : {X : Type 0} (f : ℕ → Option X) (n : ℕ) (x : X) (old new : List X) → old ≡ filter_map f (range_with_len 0 n) → f n ≡ Some x → new ≡ old ++ x ∷ [] → new ≡ filter_map f (range_with_len 0 (n + 1))
ordered-some f n x old new e at more = more ∙ ap (λ xs. xs ++ x ∷ []) e ∙ ap (λ o. filter_map f (range_with_len 0 n) ++ cons_option o []) (sym at) ∙ sym (next f n)

append-nil : {X : Type 0} (xs : List X) → xs ≡ xs ++ []
append-nil [] = refl
append-nil (x ∷ xs) = ap (λ ys. x ∷ ys) (append-nil xs)

-- and where there is none
pub ordered-none : {X : Type 0} (f : ℕ → Option X) (n : ℕ) (old : List X) → old ≡ filter_map f (range_with_len 0 n) → f n ≡ None → old ≡ filter_map f (range_with_len 0 (n + 1))
ordered-none f n old e at = e ∙ append-nil _ ∙ ap (λ o. filter_map f (range_with_len 0 n) ++ cons_option o []) (sym at) ∙ sym (next f n)

cons-length : {X : Type 0} (o : Option X) (xs : List X) → length (cons_option o xs) ≤ suc (length xs)
cons-length None xs = omega arith
cons-length (Some x) xs = omega arith

-- no more ports than numbers
pub ordered-few : {X : Type 0} (f : ℕ → Option X) (a n : ℕ) → length (filter_map f (range_with_len a n)) ≤ n
ordered-few f a zero = omega arith
ordered-few f a (suc n) = let rest = ordered-few f (a + 1) n in let one = cons-length (f a) (filter_map f (range_with_len (a + 1) n)) in omega arith

pub ports_of-is : (rows : List Triple) (plugin : Term) (n : ℕ) (indexes : List (Option ℕ)) → indexes ≡ indexes_of rows plugin → n ≡ length indexes → filter_map (port_at rows plugin) (range_with_len 0 n) ≡ ports_of rows plugin
unfolding ports_of
ports_of-is rows plugin n indexes e h = ap (λ k. filter_map (port_at rows plugin) (range_with_len 0 k)) (h ∙ ap length e ∙ length-map (index_of rows) (ports_in_rows rows plugin))
