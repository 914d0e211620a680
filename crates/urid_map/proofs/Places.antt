-- A URI stands at one place, and stays there.
use Rattle.std.proofs.Common.{◌≡◌, ℕ, zero, suc, ◌+◌, ◌<◌, Bool, true, false, not, IsTrue, cond, ◌&&◌, ◌||◌, List, [], ◌∷◌, ◌++◌, length, Option, None, Some, get_or, slice_get, unwrap_or, refl, sym, ap, subst, arith}
use Rattle.std.specs.List.{position_or_len, list_any, list_all, IsDistinct}
use Rattle.std.specs.Borrow.{Bor}
use Rattle.std.specs.Option.{option_copied, IfSome}
use Rattle.std.specs.Str.{bytes_eq}
use Rattle.std.proofs.lemmas.List.Folds.{list_any_at}
use Rattle.std.proofs.lemmas.List.Sums.{position_or_len_is}
use Rattle.std.proofs.lemmas.Map.Keys.{apart_from_distinct}
use Rattle.std.proofs.lemmas.Option.{slice_get_within, get_or_from_slice_get}
use Rattle.std.proofs.lemmas.Slice.Eq.{bytes_eq-Decides}
use Rattle.urid_map.specs.Numbers.{holds, number_of, uri_of, AreNumbered, AreKept}

own_bytes : (a : List ℕ) → bytes_eq a a ≡ true
own_bytes a = (bytes_eq-Decides a a).1 refl

swapped : (a b : List ℕ) → bytes_eq a b ≡ false → bytes_eq b a ≡ false
swapped a b e = by (bytes_eq b a) refl
  where
    by : (v : Bool) → bytes_eq b a ≡ v → bytes_eq b a ≡ false
    by false h = h
    by true h = absurd (let same : b ≡ a = (bytes_eq-Decides b a).0 h in let t : bytes_eq a b ≡ true = subst (λ x. bytes_eq x b ≡ true) same (own_bytes b) in cc)

-- a URI at a place is held, and stands there first
first_place : (urids : List (List ℕ)) → IsDistinct bytes_eq urids → (uri : List ℕ) (place : ℕ) → slice_get urids place ≡ Some uri
    → (list_any (bytes_eq uri) urids ≡ true) × (place ≡ position_or_len (bytes_eq uri) urids)
first_place urids distinct uri place e =
    let within : place < length urids = slice_get_within urids place uri e in
    let here : bytes_eq uri (get_or urids place uri) ≡ true = rw (get_or_from_slice_get urids place uri uri e) (own_bytes uri) in (
      list_any_at (bytes_eq uri) urids place uri within here,
      sym (position_or_len_is (bytes_eq uri) urids place uri (omega arith)
          (λ k below. swapped (get_or urids k uri) uri (subst (λ x. bytes_eq (get_or urids k uri) x ≡ false) (get_or_from_slice_get urids place uri uri e) (apart_from_distinct bytes_eq urids k place uri distinct below within)))
          (λ less. here)),
    )

and_true : (a b : Bool) → (a && b) ≡ true → (a ≡ true) × (b ≡ true)
and_true true b h = (refl, h)
and_true false b h = cc

-- what is held stands at its place
at_place : (urids : List (List ℕ)) (uri : List ℕ) → list_any (bytes_eq uri) urids ≡ true → slice_get urids (position_or_len (bytes_eq uri) urids) ≡ Some uri
at_place [] uri h = cc
at_place (x ∷ xs) uri h = by (at_place xs uri) (bytes_eq uri x) refl h
  where
    next : (n : ℕ) → slice_get xs n ≡ Some uri → slice_get (x ∷ xs) (1 + n) ≡ Some uri
    next n e = let same : suc n ≡ 1 + n = omega arith in subst (λ k. slice_get (x ∷ xs) k ≡ Some uri) same e

    by : (list_any (bytes_eq uri) xs ≡ true → slice_get xs (position_or_len (bytes_eq uri) xs) ≡ Some uri) → (b : Bool) → bytes_eq uri x ≡ b → (b || list_any (bytes_eq uri) xs) ≡ true
        → slice_get (x ∷ xs) (cond (not b) (1 + position_or_len (bytes_eq uri) xs) 0) ≡ Some uri
    by more true same found = ap Some (sym ((bytes_eq-Decides uri x).0 same))
    by more false same found = next (position_or_len (bytes_eq uri) xs) (more found)

pub numbered : (urids : List (List ℕ)) → IsDistinct bytes_eq urids → AreNumbered urids
numbered urids distinct uri number = (to number, λ h. from number h)
  where
    to : (n : ℕ) → uri_of urids n ≡ Some uri → IsTrue (holds urids uri) × (n ≡ number_of urids uri)
    to zero e = cc
    to (suc place) e =
        let h = first_place urids distinct uri place e in
        (h.0, let same : place ≡ position_or_len (bytes_eq uri) urids = h.1 in omega arith)

    from : (n : ℕ) → IsTrue (holds urids uri) × (n ≡ number_of urids uri) → uri_of urids n ≡ Some uri
    from n h =
        let same : suc (position_or_len (bytes_eq uri) urids) ≡ n = let e : n ≡ number_of urids uri = h.1 in omega arith in
        subst (λ k. uri_of urids k ≡ Some uri) same (at_place urids uri h.0)

-- what follows a list moves none of it
before_more : (urids more : List (List ℕ)) (uri : List ℕ) (place : ℕ) → slice_get urids place ≡ Some uri → slice_get (urids ++ more) place ≡ Some uri
before_more [] more uri place e = cc
before_more (x ∷ xs) more uri zero e = e
before_more (x ∷ xs) more uri (suc place) e = before_more xs more uri place e

pub kept : (urids : List (List ℕ)) → AreKept urids
kept urids next uri zero e = e
kept urids next uri (suc place) e = by (holds urids next)
  where
    by : (b : Bool) → slice_get (cond b urids (urids ++ next ∷ [])) place ≡ Some uri
    by true = e
    by false = before_more urids (next ∷ []) uri place e

-- a test that all pass is passed at each place
passes_at : (test : List ℕ → Bool) (urids : List (List ℕ)) (place : ℕ) (uri : List ℕ) → list_all test urids ≡ true → slice_get urids place ≡ Some uri → test uri ≡ true
passes_at test [] place uri all e = cc
passes_at test (x ∷ xs) zero uri all e = let same : x ≡ uri = ap (λ o. unwrap_or o x) e in subst (λ u. test u ≡ true) same (and_true (test x) (list_all test xs) all).0
passes_at test (x ∷ xs) (suc place) uri all e = passes_at test xs place uri (and_true (test x) (list_all test xs) all).1 e

pub passes_some : (test : List ℕ → Bool) (urids : List (List ℕ)) (place : ℕ) (found : Option (Bor (List ℕ))) → list_all test urids ≡ true
    → option_copied found ≡ slice_get urids place → IfSome found (λ uri. IsTrue (test uri.now))
passes_some test urids place None all e = tt
passes_some test urids place (Some uri) all e = passes_at test urids place uri.now all (sym e)
