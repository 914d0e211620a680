-- How the segments of a path follow from where its first `/` is.
use Rattle.std.proofs.Common.{◌≡◌, ℕ, ◌+◌, ◌<◌, ◌≤◌, Bool, true, false, cond, not, ◌-◌, Some, None, List, [], ◌∷◌, length, take, drop, refl, sym, ap, subst, ◌∙◌, arith}
use Rattle.std.specs.Prelude.{nat_lt, ◌&&◌}
use Rattle.std.specs.List.{slice_split, position, position_or_len, All, list_all}
use Rattle.std.proofs.lemmas.List.{take_rest, length-drop}
use Rattle.std.proofs.lemmas.List.Elements.{All-from_get_or}
use Rattle.std.proofs.lemmas.List.Splits.{slice_split_first, slice_split_none}
use Rattle.std.proofs.lemmas.List.Sums.{prefix_len_passes}
use Rattle.std.proofs.lemmas.Bool.{ltb-false}
use borrow.Author.Tests.{ltb-true}
use Rattle.session_script.specs.Sorts.{is_slash, is_segment}
use Rattle.session_script.proofs.Booleans.{not-true}

pub found : (n len k : ℕ) (b : Bool) → nat_lt n len ≡ b → cond b (Some n) None ≡ Some k → (n ≡ k) × (n < len)
found n len k true e h = (cc, ltb-true n len e)
found n len k false e h = absurd (cc)

pub lost : (n len : ℕ) (b : Bool) → nat_lt n len ≡ b → cond b (Some n) None ≡ None → len ≤ n
lost n len true e h = absurd (cc)
lost n len false e h = ltb-false n len e

-- the first segment ends at the first `/`
pub cut_segment : (path : List ℕ) (k : ℕ) → position is_slash path ≡ Some k → (k < length path) × (slice_split is_slash path ≡ take k path ∷ slice_split is_slash (drop (k + 1) path))
cut_segment path k h =
    let n = position_or_len is_slash path in
    let t = found n (length path) k (nat_lt n (length path)) refl h in
    let P : ℕ → Type 0 = λ m. (m < length path) × (slice_split is_slash path ≡ take m path ∷ slice_split is_slash (drop (m + 1) path)) in
    subst P t.0 (t.1, slice_split_first is_slash path 0 t.1)

-- a path without a `/` is one segment
pub last_segment : (path : List ℕ) → position is_slash path ≡ None → slice_split is_slash path ≡ path ∷ []
last_segment path h =
    let all : length path ≤ position_or_len is_slash path = lost (position_or_len is_slash path) (length path) (nat_lt (position_or_len is_slash path) (length path)) refl h in
    let none : All (λ byte. is_slash byte ≡ false) path = All-from_get_or (λ byte. is_slash byte ≡ false) path 0
    (λ i below. not-true _ (prefix_len_passes (λ byte. not (is_slash byte)) path i 0 (omega arith))) in
    slice_split_none is_slash path none

-- what is left of a path, cut at its first `/`
pub cut_some : (path : List ℕ) (k : ℕ) → position is_slash path ≡ Some k → slice_split is_slash path ≡ take k path ∷ slice_split is_slash (take (length path - (k + 1)) (drop (k + 1) path))
cut_some path k h = (cut_segment path k h).1 ∙ ap (λ rest. take k path ∷ slice_split is_slash rest) (sym (take_rest path (k + 1)))

pub shorter : (path : List ℕ) (k : ℕ) → position is_slash path ≡ Some k → length (take (length path - (k + 1)) (drop (k + 1) path)) < length path
shorter path k h =
    let low : k < length path = (cut_segment path k h).0 in
    let e = ap length (take_rest path (k + 1)) in
    omega (arith, e, length-drop (k + 1) path)

-- a segment that is one leaves it to the others, and one that isn't decides
pub rest_decides : (path : List ℕ) (segment : List ℕ) (rest : List (List ℕ)) (b : Bool) → slice_split is_slash path ≡ segment ∷ rest → is_segment segment ≡ b → list_all is_segment (slice_split is_slash path) ≡ (b && list_all is_segment rest)
rest_decides path segment rest b e h = ap (list_all is_segment) e ∙ ap (λ t. t && list_all is_segment rest) h
