-- The sources of an input, cable by cable.
use Rattle.std.proofs.Common.{◌≡◌, ℕ, ◌+◌, ◌<◌, Bool, true, List, [], ◌∷◌, ◌++◌, length, get_or, take, slice_get, Option, Some, None, refl, sym, ap, subst, ◌∙◌, arith}
use Rattle.std.specs.Prelude.{filter_map, IfSome, find}
use Rattle.std.specs.List.{position_or_len}
use Rattle.std.specs.Option.{option_to_list}
use Rattle.std.specs.Str.{bytes_eq}
use Rattle.std.proofs.lemmas.List.{take_more}
use Rattle.std.proofs.lemmas.List.Elements.{filter_map-append}
use Rattle.std.proofs.lemmas.List.Folds.{find_at}
use Rattle.std.proofs.lemmas.List.Sums.{passes_at_first}
use Rattle.std.proofs.lemmas.Option.{slice_get_within, get_or_from_slice_get}
use Rattle.plugin_decl.specs.declared.declaration.Decl.{Decl}
use Rattle.plugin_decl.specs.declared.declaration.Port.{Port}
use Rattle.plugin_decl.specs.Valid as decl
use Rattle.graph_order.specs.Ports.{port_in}

-- ---- what a test keeps of a list, one item more

map_one : {X Y : Type 0} → (f : X → Option Y) (x : X) → filter_map f (x ∷ []) ≡ option_to_list (f x)
map_one f x = by (f x) refl
  where
    by : (found : Option _) → f x ≡ found → filter_map f (x ∷ []) ≡ option_to_list found
    by None e = rw e refl
    by (Some y) e = rw e refl

pub kept_more : {X Y : Type 0} → (f : X → Option Y) (xs : List X) (i : ℕ) (x : X) (old new : List Y) (found : Option Y) → i < length xs
    → x ≡ get_or xs i x → old ≡ filter_map f (take i xs) → found ≡ f x → new ≡ old ++ option_to_list found → new ≡ filter_map f (take (i + 1) xs)
kept_more f xs i x old new found h is before finds after =
    after ∙ (λ t. before t ++ option_to_list (finds t)) ∙ ap (λ ys. filter_map f (take i xs) ++ ys) (sym (map_one f x))
    ∙ sym (filter_map-append f (take i xs) (x ∷ [])) ∙ ap (λ y. filter_map f (take i xs ++ y ∷ [])) is ∙ ap (filter_map f) (sym (take_more xs i x h))

-- ---- a port that is found has its place

pub found_there : (p : Port → Bool) (ports : List Port) (port : Port) → find p ports ≡ Some port → (i : ℕ) × (slice_get ports i ≡ Some port)
found_there p ports port is = (position_or_len p ports, sym (find_at p ports) ∙ is)

-- and it passes
pub found_passes : (p : Port → Bool) (ports : List Port) (port : Port) → find p ports ≡ Some port → p port ≡ true
found_passes p ports port is =
    let here : slice_get ports (position_or_len p ports) ≡ Some port = sym (find_at p ports) ∙ is in
    ap p (sym (get_or_from_slice_get ports (position_or_len p ports) port port here))
    ∙ passes_at_first p ports port (slice_get_within ports (position_or_len p ports) port here)

pub index_of : (one : Decl) (i : ℕ) (port : Port) → decl.IsValid one → slice_get one.ports i ≡ Some port → port.index ≡ i
index_of one i port valid here = let P : Option Port → Type 0 = λ found. IfSome found (λ (it : Port). it.index ≡ i) in subst P here (valid.numbered i)

pub index_within : (one : Decl) (symbol : List ℕ) (port : Port) → decl.IsValid one → port_in symbol one ≡ Some port → port.index < length one.ports
index_within one symbol port valid is =
    let found = found_there (λ (it : Port). bytes_eq it.symbol symbol) one.ports port is in
    let same : port.index ≡ found.0 = index_of one found.0 port valid found.1 in
    let within : found.0 < length one.ports = slice_get_within one.ports found.0 port found.1 in
    omega (arith, same, within)
