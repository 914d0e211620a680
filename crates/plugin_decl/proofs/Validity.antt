-- What every declaration keeps.
use Rattle.std.proofs.Common.{◌≡◌, ℕ, zero, suc, ◌+◌, ◌<◌, ◌≤◌, Bool, true, false, cond, List, [], ◌∷◌, length, map, Option, None, Some, IfSome, refl, sym, ◌∙◌, ap, subst, ⊎_elim, arith}
use Rattle.std.specs.Prelude.{nat_lt, not, ◌&&◌, ◌||◌, find, slice_get, unwrap_or, is_some, All}
use Rattle.std.specs.List.{cons_option, list_any, filter_map, range_with_len}
use Rattle.std.specs.Option.{option_map, option_and_then}
use Rattle.std.proofs.lemmas.Bool.{cases_lt, lt-ltb, false≢true}
use Rattle.std.proofs.lemmas.Bool.Decides.{nat_tests}
use Rattle.triple_store.specs.declared.term.Term.{Term}
use Rattle.triple_store.specs.declared.term.Term.TheVariants.{Iri}
use Rattle.triple_store.specs.declared.term.Triple.{Triple}
use Rattle.plugin_decl.specs.declared.declaration.Port.{Port}
use Rattle.plugin_decl.specs.declared.declaration.PortKind.{PortKind}
use Rattle.plugin_decl.specs.declared.declaration.PortKind.TheVariants.{Audio, Cv, Control, Atom, Unsupported}
use Rattle.vocabulary.specs.declared.word.Word.TheVariants.{RszMinimumSize}
use Rattle.plugin_decl.specs.Objects.{objects_of, first}
use Rattle.plugin_decl.specs.Values.{natural_in}
use Rattle.plugin_decl.specs.Ports.{index_of, kind_of, stated_size, asked_size, buffer_size, room_by, port_of}
use Rattle.plugin_decl.specs.Declaration.{ports_in_rows, indexes_of, is_index, port_at, ports_of, declared_ports, declaration_of}
use Rattle.plugin_decl.specs.Rules.{breaks, IsKept, AreAllKept}
use Rattle.plugin_decl.specs.Rules.Rule.{gap}
use Rattle.plugin_decl.specs.Valid.{IsRoom, FitsKind, HasRoom, IsValid}
use Rattle.plugin_decl.proofs.IndexRules.{natural_in-within}
use Rattle.plugin_decl.proofs.Ordering.{length-map, get-past, ordered-few}

-- ---- rooms

room-fits : (asked : ℕ) → asked ≤ 1048576 → IsRoom (buffer_size asked)
room-fits asked h = record { least = omega arith; most = omega arith; aligned = omega arith }

asked-within : (size : Option ℕ) → IfSome size (λ n. n ≤ 1048576) → unwrap_or size 0 ≤ 1048576
asked-within None h = omega arith
asked-within (Some n) h = h

stated-within : (term : Option Term) → IfSome (option_and_then (natural_in 1048576) term) (λ n. n ≤ 1048576)
stated-within None = tt
stated-within (Some term) = natural_in-within 1048576 term

asked-most : (rows : List Triple) (port : Term) → asked_size rows port ≤ 1048576
unfolding stated_size
asked-most rows port = asked-within (option_and_then (natural_in 1048576) (first (objects_of rows port RszMinimumSize))) (stated-within (first (objects_of rows port RszMinimumSize)))

fits-kind : (kind : PortKind) (asked : ℕ) → asked ≤ 1048576 → FitsKind kind (room_by kind asked)
fits-kind Audio asked h = refl
fits-kind Cv asked h = refl
fits-kind Control asked h = refl
fits-kind Atom asked h = room-fits asked h
fits-kind Unsupported asked h = refl

has-room : (rows : List Triple) (port : Term) → HasRoom (port_of rows port)
unfolding port_of
has-room rows port = fits-kind (kind_of rows port) (asked_size rows port) (asked-most rows port)

all-room : (rows : List Triple) (nodes : List Term) → All HasRoom (map (port_of rows) nodes)
all-room rows [] k d h = absurd (omega arith)
all-room rows (node ∷ nodes) zero d h = has-room rows node
all-room rows (node ∷ nodes) (suc k) d h = all-room rows nodes k d (omega arith)

-- ---- places

map-get : {X Y : Type 0} (f : X → Y) (xs : List X) (k : ℕ) → slice_get (map f xs) k ≡ option_map f (slice_get xs k)
map-get f [] k = refl
map-get f (x ∷ xs) zero = refl
map-get f (x ∷ xs) (suc k) = map-get f xs k

found_by : {X : Type 0} (b : Bool) (x : X) (o : Option X) (any : Bool) → is_some o ≡ any → is_some (cond b (Some x) o) ≡ (b || any)
found_by true x o any h = refl
found_by false x o any h = h

-- something is found where something passes
found : {X Y : Type 0} (f : X → Y) (p : Y → Bool) (xs : List X) → is_some (find (λ x. p (f x)) xs) ≡ list_any p (map f xs)
found f p [] = refl
found f p (x ∷ xs) = found_by (p (f x)) x (find (λ y. p (f y)) xs) (list_any p (map f xs)) (found f p xs)

find-by : {X : Type 0} (b : Bool) (p : X → Bool) (x y : X) (o : Option X) → p y ≡ b → (o ≡ Some x → p x ≡ true) → cond b (Some y) o ≡ Some x → p x ≡ true
find-by true p x y o h more e = let same : y ≡ x = cc in subst (λ z. p z ≡ true) same h
find-by false p x y o h more e = more e

-- what is found passes
find-passes : {X : Type 0} (p : X → Bool) (xs : List X) (x : X) → find p xs ≡ Some x → p x ≡ true
find-passes p [] x e = cc
find-passes p (y ∷ ys) x e = find-by (p y) p x y (find p ys) refl (find-passes p ys x) e

-- where there is an item for each number, item k is that of k
cons-get : {X : Type 0} (o : Option X) (xs : List X) → is_some o ≡ true → (slice_get (cons_option o xs) 0 ≡ o) × ((k : ℕ) → slice_get (cons_option o xs) (suc k) ≡ slice_get xs k)
cons-get None xs h = absurd (false≢true h)
cons-get (Some x) xs h = (refl, λ k. refl)

all-get : {X : Type 0} (f : ℕ → Option X) (a n k : ℕ) → ((i : ℕ) → a ≤ i → i < a + n → is_some (f i) ≡ true) → k < n → slice_get (filter_map f (range_with_len a n)) k ≡ f (a + k)
all-get f a zero k there h = absurd (omega arith)
all-get f a (suc n) zero there h = let e : a ≡ a + 0 = omega arith in (cons-get (f a) (filter_map f (range_with_len (a + 1) n)) (there a (omega arith) (omega arith))).0 ∙ ap f e
all-get f a (suc n) (suc k) there h =
    let e : a + 1 + k ≡ a + suc k = omega arith in
    (cons-get (f a) (filter_map f (range_with_len (a + 1) n)) (there a (omega arith) (omega arith))).1 k
    ∙ all-get f (a + 1) n k (λ i low high. there i (omega arith) (omega arith)) (omega arith) ∙ ap f e

-- ---- indexes

index-is : (i : ℕ) (o : Option ℕ) → is_index i o ≡ true → unwrap_or o 0 ≡ i
index-is i None h = absurd (false≢true h)
index-is i (Some j) h = grind (arith, nat_tests)

port-index : (rows : List Triple) (plugin : Term) (i : ℕ) (port : Term) → port_at rows plugin i ≡ Some port → (port_of rows port).index ≡ i
unfolding port_of
port-index rows plugin i port e = index-is i (index_of rows port) (find-passes (λ at. is_index i (index_of rows at)) (ports_in_rows rows plugin) port e)

stands : (there : Bool) (i n : ℕ) → i < n → (nat_lt i n && not there) ≡ false → there ≡ true
stands true i n h e = refl
stands false i n h e = absurd (false≢true (sym e ∙ rw (lt-ltb i n h) refl))

none-some : {X : Type 0} (x : X) → None ≡ Some x → ⊥
none-some x e = cc

-- each index below the number of ports has a port
there-at : (rows : List Triple) (plugin : Term) (block i : ℕ) → IsKept rows plugin block gap → i < length (ports_in_rows rows plugin) → is_some (port_at rows plugin i) ≡ true
unfolding breaks
there-at rows plugin block i kept h =
    let n : length (indexes_of rows plugin) ≡ length (ports_in_rows rows plugin) = length-map (index_of rows) (ports_in_rows rows plugin) in
    found (index_of rows) (is_index i) (ports_in_rows rows plugin) ∙ stands (list_any (is_index i) (indexes_of rows plugin)) i (length (indexes_of rows plugin)) (omega arith) (kept i)

get-port : (rows : List Triple) (plugin : Term) (block i : ℕ) → IsKept rows plugin block gap → i < length (ports_in_rows rows plugin) → slice_get (ports_of rows plugin) i ≡ port_at rows plugin i
unfolding ports_of
get-port rows plugin block i kept h =
    let e : 0 + i ≡ i = omega arith in
    all-get (port_at rows plugin) 0 (length (ports_in_rows rows plugin)) i (λ k low high. there-at rows plugin block k kept (omega arith)) h ∙ ap (port_at rows plugin) e

get-none : (rows : List Triple) (plugin : Term) (i : ℕ) → length (ports_in_rows rows plugin) ≤ i → slice_get (ports_of rows plugin) i ≡ None
unfolding ports_of
get-none rows plugin i h = let few = ordered-few (port_at rows plugin) 0 (length (ports_in_rows rows plugin)) in get-past _ i (omega arith)

port-at-place : (rows : List Triple) (plugin : Term) (block i : ℕ) (port : Term) → IsKept rows plugin block gap → slice_get (ports_of rows plugin) i ≡ Some port → (port_of rows port).index ≡ i
port-at-place rows plugin block i port kept e = ⊎_elim
    (λ (within : i < length (ports_in_rows rows plugin)). port-index rows plugin i port (sym (get-port rows plugin block i kept within) ∙ e))
    (λ (past : length (ports_in_rows rows plugin) ≤ i). absurd (none-some port (sym (get-none rows plugin i past) ∙ e)))
    (cases_lt i (length (ports_in_rows rows plugin)))

numbered_by : (rows : List Triple) (o : Option Term) (i : ℕ) → ((port : Term) → o ≡ Some port → (port_of rows port).index ≡ i) → IfSome (option_map (port_of rows) o) (λ (port : Port). port.index ≡ i)
numbered_by rows None i h = tt
numbered_by rows (Some port) i h = h port refl

numbered : (rows : List Triple) (plugin : Term) (block i : ℕ) → IsKept rows plugin block gap → IfSome (slice_get (declared_ports rows plugin) i) (λ (port : Port). port.index ≡ i)
numbered rows plugin block i kept =
    subst (λ o. IfSome o (λ (port : Port). port.index ≡ i)) (sym (map-get (port_of rows) (ports_of rows plugin) i))
    (numbered_by rows (slice_get (ports_of rows plugin) i) i (λ port e. port-at-place rows plugin block i port kept e))

pub IsValid-declared : (rows : List Triple) (uri : List ℕ) (block : ℕ) → AreAllKept rows (Iri uri) block → length (ports_of rows (Iri uri)) ≤ 256 → IsValid (declaration_of rows uri)
unfolding declaration_of
IsValid-declared rows uri block kept few = record {
  few = rw (length-map (port_of rows) (ports_of rows (Iri uri))) few;
  numbered = λ i. numbered rows (Iri uri) block i (kept gap);
  rooms = all-room rows (ports_of rows (Iri uri));
}
