-- A text in UTF-8 that is cut beside ASCII characters leaves texts in UTF-8.
use Rattle.std.proofs.Common.{◌≡◌, ℕ, ◌+◌, ◌-◌, ◌<◌, ◌≤◌, Bool, true, false, ◌&&◌, not, nat_lt, List, [], ◌∷◌, length, take, drop, reverse, get_or, refl, sym, ◌∙◌, ap, subst, arith, IsUtf8}
use Rattle.std.specs.List.{position_or_len, suffix_len, list_all}
use Rattle.std.specs.Str.{IsCharBoundary}
use Rattle.std.proofs.lemmas.Bool.{ltb-true, ltb-false, eqb-true, not-false}
use Rattle.std.proofs.lemmas.List.{get_or-reverse, length-reverse}
use Rattle.std.proofs.lemmas.List.Sums.{passes_at_first, prefix_len-le-length, prefix_len_stops}
use Rattle.std.proofs.lemmas.Str.{IsUtf8-nil, IsUtf8-drop, IsUtf8-take, IsCharBoundary-after_ascii}
use Rattle.iri_resolve.specs.Dots.{begins, is_slash, without_last}
use Rattle.iri_resolve.specs.Target.{directory}

pub and_true : (a b : Bool) → (a && b) ≡ true → (a ≡ true) × (b ≡ true)
and_true true b h = (refl, h)
and_true false b h = cc

-- a test that only ASCII characters pass
pub record IsAsciiTest (test : ℕ → Bool) : Type 0 where
  pub ascii : (c : ℕ) → test c ≡ true → c < 128

-- a character begins where an ASCII one stands, and at the end
pub boundary : (text : List ℕ) (i : ℕ) → i ≤ length text → (i < length text → get_or text i 0 < 128) → IsCharBoundary text i
boundary text i within ascii = (within, λ less high. absurd (let low : get_or text i 0 < 128 = ascii less in omega arith))

-- so it does at the first character that passes such a test
pub boundary_at_first : (test : ℕ → Bool) → IsAsciiTest test → (text : List ℕ) → IsCharBoundary text (position_or_len test text)
boundary_at_first test ascii text =
    boundary text (position_or_len test text) (prefix_len-le-length _ text) (λ less. ascii.ascii _ (passes_at_first test text 0 less))

-- what follows an ASCII character
pub IsUtf8-past_ascii : (c : ℕ) (rest : List ℕ) → c < 128 → IsUtf8 (c ∷ rest) → IsUtf8 rest
IsUtf8-past_ascii c rest low h = IsUtf8-drop (c ∷ rest) 1 h (IsCharBoundary-after_ascii (c ∷ rest) 0 h (omega arith) low)

-- what follows ASCII characters
pub IsUtf8-past_front : (front text : List ℕ) → list_all (λ c. nat_lt c 128) front ≡ true → begins text front ≡ true → IsUtf8 text → IsUtf8 (drop (length front) text)
IsUtf8-past_front [] text ascii starts h = h
IsUtf8-past_front (f ∷ front) [] ascii starts h = cc
IsUtf8-past_front (f ∷ front) (c ∷ text) ascii starts h =
    let low = and_true _ _ ascii in
    let same = and_true _ _ starts in
    IsUtf8-past_front front text low.1 same.1
    (IsUtf8-past_ascii c text (let e : f ≡ c = eqb-true f c same.0 in let b : f < 128 = ltb-true f 128 low.0 in omega arith) h)

-- a text is as long as what it begins with
pub begins-le : (front text : List ℕ) → begins text front ≡ true → length front ≤ length text
begins-le [] text starts = omega arith
begins-le (f ∷ front) [] starts = cc
begins-le (f ∷ front) (c ∷ text) starts =
    let rest : length front ≤ length text = begins-le front text (and_true _ _ starts).1 in omega arith

-- unless no character is a `/`, one stands before the run of others at the end
pub slash_before : (path : List ℕ) → suffix_len (λ c. not (is_slash c)) path < length path
    → get_or path (length path - suffix_len (λ c. not (is_slash c)) path - 1) 0 ≡ 47
slash_before path less =
    let n = suffix_len (λ c. not (is_slash c)) path in
    let stops : not (is_slash (get_or (reverse path) n 0)) ≡ false =
    prefix_len_stops (λ c. not (is_slash c)) (reverse path) 0 (rw length-reverse less) in
    let same : length path - n - 1 ≡ length path - 1 - n = omega arith in
    ap (λ i. get_or path i 0) same ∙ sym (get_or-reverse path n 0 less) ∙ eqb-true _ 47 (not-false _ stops)

directory_by : (path : List ℕ) → IsUtf8 path → (found : Bool) → nat_lt (suffix_len (λ c. not (is_slash c)) path) (length path) ≡ found → IsUtf8 (directory path)
directory_by path h true e =
    let n : ℕ = suffix_len (λ c. not (is_slash c)) path in
    let less : suffix_len (λ c. not (is_slash c)) path < length path = ltb-true _ _ e in
    let slash = slash_before path less in
    let last : ℕ = length path - suffix_len (λ c. not (is_slash c)) path - 1 in
    let after : last + 1 ≡ length path - suffix_len (λ c. not (is_slash c)) path = omega arith in
    let P : ℕ → Type 0 = λ i. IsUtf8 (take i path) in
    subst P after (IsUtf8-take path (last + 1) h (IsCharBoundary-after_ascii path last h (omega arith) (omega (arith, slash))))
directory_by path h false e =
    let none : length path - suffix_len (λ c. not (is_slash c)) path ≡ 0 = omega (arith, ltb-false _ _ e) in
    let P : ℕ → Type 0 = λ i. IsUtf8 (take i path) in
    subst P (sym none) IsUtf8-nil

last_by : (output : List ℕ) → IsUtf8 output → (found : Bool) → nat_lt (suffix_len (λ c. not (is_slash c)) output) (length output) ≡ found → IsUtf8 (without_last output)
last_by output h true e =
    let less : suffix_len (λ c. not (is_slash c)) output < length output = ltb-true _ _ e in
    let slash = slash_before output less in
    let last : ℕ = length output - suffix_len (λ c. not (is_slash c)) output - 1 in
    IsUtf8-take output last h (boundary output last (omega arith) (λ below. omega (arith, slash)))
last_by output h false e =
    let none : length output - suffix_len (λ c. not (is_slash c)) output - 1 ≡ 0 = omega (arith, ltb-false _ _ e) in
    let P : ℕ → Type 0 = λ i. IsUtf8 (take i output) in
    subst P (sym none) IsUtf8-nil

-- a path up to its last `/` with it
pub IsUtf8-directory : (path : List ℕ) → IsUtf8 path → IsUtf8 (directory path)
IsUtf8-directory path h = directory_by path h (nat_lt (suffix_len (λ c. not (is_slash c)) path) (length path)) refl

-- an output without its last segment
pub IsUtf8-without_last : (output : List ℕ) → IsUtf8 output → IsUtf8 (without_last output)
IsUtf8-without_last output h = last_by output h (nat_lt (suffix_len (λ c. not (is_slash c)) output) (length output)) refl
