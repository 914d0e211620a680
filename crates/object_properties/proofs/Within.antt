-- Properties are found one after the other, however many steps are allowed.
use Rattle.std.proofs.Common.{◌≡◌, ℕ, zero, suc, ◌+◌, ◌-◌, ◌<◌, ◌≤◌, nat_lt, if◌then◌else◌, Bool, true, false, List, [], ◌∷◌, length, take, drop, slice_range, refl, sym, ap, ◌∙◌, arith, length-drop}
use Rattle.std.proofs.lemmas.List.{drop-drop}
use Rattle.std.proofs.lemmas.Bool.{lt-ltb, le-ltb, ltb-false}
use Rattle.atom_core.specs.Place.{number_at, size_at, padded}
use Rattle.session_play.specs.Patch.{Property, first_property, properties_within, properties_of}
use Rattle.object_properties.specs.Properties.{properties_in}

-- the bytes after the first
abbrev pub after_first : List ℕ → List ℕ
after_first bytes = drop (16 + padded (size_at bytes 8)) bytes

one_step : (more : ℕ) (bytes : List ℕ) → 16 ≤ length bytes → properties_within (suc more) bytes ≡ first_property bytes ∷ properties_within more (after_first bytes)
one_step more bytes long = rw (le-ltb (length bytes) 16 long) refl

no_step : (n : ℕ) (bytes : List ℕ) → length bytes < 16 → properties_within n bytes ≡ []
no_step zero bytes short = refl
no_step (suc n) bytes short = rw (lt-ltb (length bytes) 16 short) refl

-- as many steps as there are bytes are enough
pub enough : (n m : ℕ) (bytes : List ℕ) → length bytes ≤ n → length bytes ≤ m → properties_within n bytes ≡ properties_within m bytes
enough zero m bytes a b = no_step zero bytes (omega (arith, a)) ∙ sym (no_step m bytes (omega (arith, a)))
enough (suc n) zero bytes a b = no_step (suc n) bytes (omega (arith, b)) ∙ sym (no_step zero bytes (omega (arith, b)))
enough (suc n) (suc m) bytes a b = by (enough n m (after_first bytes)) (nat_lt (length bytes) 16) refl
  where
    by : (length (after_first bytes) ≤ n → length (after_first bytes) ≤ m → properties_within n (after_first bytes) ≡ properties_within m (after_first bytes))
        → (short : Bool) → nat_lt (length bytes) 16 ≡ short → properties_within (suc n) bytes ≡ properties_within (suc m) bytes
    by more true e = rw e refl
    by more false e =
        let less = length-drop (16 + padded (size_at bytes 8)) bytes in
        rw e (ap (λ l. first_property bytes ∷ l) (more (omega (arith, less, a, ltb-false (length bytes) 16 e)) (omega (arith, less, b, ltb-false (length bytes) 16 e))))

pub none_here : (bytes : List ℕ) → length bytes < 16 → properties_in bytes ≡ []
unfolding properties_in
none_here bytes short = no_step (length bytes) bytes short

pub first_here : (bytes : List ℕ) → 16 ≤ length bytes → properties_in bytes ≡ first_property bytes ∷ properties_in (after_first bytes)
unfolding properties_in
first_here bytes long = here (length bytes) refl
  where
    here : (n : ℕ) → length bytes ≡ n → properties_within n bytes ≡ first_property bytes ∷ properties_within (length (after_first bytes)) (after_first bytes)
    here zero e = absurd (omega (arith, e, long))
    here (suc n) e =
        let less = length-drop (16 + padded (size_at bytes 8)) bytes in
        one_step n bytes long ∙ ap (λ l. first_property bytes ∷ l) (enough n (length (after_first bytes)) (after_first bytes) (omega (arith, e, less)) (omega arith))

-- those of an object with this body
pub of_body : (body : List ℕ) → properties_in (drop 8 body) ≡ properties_of body
unfolding properties_in
of_body body = enough (length (drop 8 body)) (length body) (drop 8 body) (omega arith) (omega (arith, length-drop 8 body))

abbrev property : ℕ → ℕ → List ℕ → Property
property key kind body = record { key = key; kind = kind; body = body }

-- what was cut is the first
pub cut_here : (bytes : List ℕ) (key kind size : ℕ) (body atom rest : List ℕ) → 16 ≤ length bytes → key ≡ number_at bytes 0 → kind ≡ number_at bytes 12 → size ≡ size_at bytes 8
    → atom ≡ drop 16 bytes → body ≡ take size atom → rest ≡ drop (padded size) atom
    → properties_in bytes ≡ record { key = key; kind = kind; body = body } ∷ properties_in rest
cut_here bytes key kind size body atom rest long key_is kind_is size_is atom_is body_is rest_is =
    let many : (16 + size_at bytes 8) - 16 ≡ size_at bytes 8 = omega arith in
    let inner : body ≡ slice_range bytes 16 (16 + size_at bytes 8) =
    body_is ∙ ap (λ n. take n atom) size_is ∙ ap (take (size_at bytes 8)) atom_is ∙ sym (ap (λ n. take n (drop 16 bytes)) many) in
    let others : rest ≡ after_first bytes =
    rest_is ∙ ap (λ n. drop (padded n) atom) size_is ∙ ap (drop (padded (size_at bytes 8))) atom_is ∙ drop-drop (padded (size_at bytes 8)) 16 bytes in
    first_here bytes long
    ∙ ap (λ n. property n (number_at bytes 12) (slice_range bytes 16 (16 + size_at bytes 8)) ∷ properties_in (after_first bytes)) (sym key_is)
    ∙ ap (λ n. property key n (slice_range bytes 16 (16 + size_at bytes 8)) ∷ properties_in (after_first bytes)) (sym kind_is)
    ∙ ap (λ (b : List ℕ). property key kind b ∷ properties_in (after_first bytes)) (sym inner)
    ∙ ap (λ (b : List ℕ). property key kind body ∷ properties_in b) (sym others)
