-- URIs that were mapped are held.
use Rattle.std.proofs.Common.{◌≡◌, ℕ, suc, ◌≤◌, Bool, true, false, cond, List, [], ◌∷◌, ◌++◌, length, fold, refl, ap, ◌∙◌, arith}
use Rattle.std.specs.Prelude.{◌||◌}
use Rattle.std.specs.List.{list_any, list_all}
use Rattle.std.specs.Str.{bytes_eq}
use Rattle.std.proofs.lemmas.List.Folds.{list_any-append}
use Rattle.std.proofs.lemmas.Slice.Eq.{bytes_eq-Decides}
use Rattle.urid_map.specs.Numbers.{holds, with_uri, with_uris}

-- a URI is held once it is mapped
pub holds-mapped : (urids : List (List ℕ)) (uri : List ℕ) → holds (with_uri urids uri) uri ≡ true
holds-mapped urids uri = by (holds urids uri) refl
  where
    by : (b : Bool) → holds urids uri ≡ b → holds (cond b urids (urids ++ uri ∷ [])) uri ≡ true
    by true held = held
    by false new =
        let own : bytes_eq uri uri ≡ true = (bytes_eq-Decides uri uri).1 refl in
        list_any-append (bytes_eq uri) urids (uri ∷ []) ∙ (ap (λ b. b || (bytes_eq uri uri || false)) new ∙ ap (λ b. b || false) own)

-- and stays so
holds-kept : (urids : List (List ℕ)) (next uri : List ℕ) → holds urids uri ≡ true → holds (with_uri urids next) uri ≡ true
holds-kept urids next uri held = by (holds urids next)
  where
    by : (b : Bool) → holds (cond b urids (urids ++ next ∷ [])) uri ≡ true
    by true = held
    by false = list_any-append (bytes_eq uri) urids (next ∷ []) ∙ ap (λ b. b || list_any (bytes_eq uri) (next ∷ [])) held

stays : (uris urids : List (List ℕ)) (uri : List ℕ) → holds urids uri ≡ true → holds (fold with_uri urids uris) uri ≡ true
stays [] urids uri held = held
stays (next ∷ uris) urids uri held = stays uris (with_uri urids next) uri (holds-kept urids next uri held)

all-held : (uris urids : List (List ℕ)) → list_all (holds (fold with_uri urids uris)) uris ≡ true
all-held [] urids = refl
all-held (uri ∷ uris) urids = rw (stays uris (with_uri urids uri) uri (holds-mapped urids uri)) (all-held uris (with_uri urids uri))

-- all that were mapped are held
pub all-mapped : (urids uris : List (List ℕ)) → list_all (holds (with_uris urids uris)) uris ≡ true
unfolding with_uris
all-mapped urids uris = all-held uris urids

-- mapping in two parts
with-two : (urids a b : List (List ℕ)) → fold with_uri urids (a ++ b) ≡ fold with_uri (fold with_uri urids a) b
with-two urids [] b = refl
with-two urids (uri ∷ a) b = with-two (with_uri urids uri) a b

pub mapped-two : (urids a b : List (List ℕ)) → with_uris urids (a ++ b) ≡ with_uris (with_uris urids a) b
unfolding with_uris
mapped-two urids a b = with-two urids a b

longer : (a b : List (List ℕ)) → length a ≤ length (a ++ b)
longer [] b = omega arith
longer (x ∷ a) b = let more : length a ≤ length (a ++ b) = longer a b in omega arith

pub longer-one : (a : List (List ℕ)) (x : List ℕ) → length (a ++ x ∷ []) ≡ suc (length a)
longer-one [] x = refl
longer-one (y ∷ a) x = ap suc (longer-one a x)

-- there are never fewer
no-fewer : (urids : List (List ℕ)) (uri : List ℕ) (b : Bool) → length urids ≤ length (cond b urids (urids ++ uri ∷ []))
no-fewer urids uri true = omega arith
no-fewer urids uri false = longer urids (uri ∷ [])

grows : (uris urids : List (List ℕ)) → length urids ≤ length (fold with_uri urids uris)
grows [] urids = omega arith
grows (uri ∷ uris) urids =
    let one : length urids ≤ length (with_uri urids uri) = no-fewer urids uri (holds urids uri) in
    let more : length (with_uri urids uri) ≤ length (fold with_uri (with_uri urids uri) uris) = grows uris (with_uri urids uri) in
    omega arith

pub mapped-more : (urids uris : List (List ℕ)) → length urids ≤ length (with_uris urids uris)
unfolding with_uris
mapped-more urids uris = grows uris urids

-- mapping none, and one
pub mapped_none : (urids : List (List ℕ)) → with_uris urids [] ≡ urids
unfolding with_uris
mapped_none urids = refl

pub mapped-one : (urids : List (List ℕ)) (uri : List ℕ) → with_uris urids (uri ∷ []) ≡ with_uri urids uri
unfolding with_uris
mapped-one urids uri = refl
