-- A part with eight bytes before its atom, read off its bytes: the atom's header, its body, and what stands after what fills it up.
use Rattle.std.proofs.Common.{◌≡◌, ℕ, ◌+◌, ◌-◌, ◌^◌, ◌<◌, ◌≤◌, List, ◌++◌, length, take, drop, slice_range, replicate, refl, sym, ap, ◌∙◌, append_assoc, arith}
use Rattle.std.specs.Int.{w32, from_le_bytes}
use Rattle.std.proofs.lemmas.List.{take_at, drop_at, drop-drop, get_or-drop, length-append, length-replicate}
use Rattle.atom_core.specs.Place.{number_at, size_at, kind_at, padded}
use Rattle.atom_core.specs.Value.{Value}
use Rattle.atom_core.specs.Spelling.{u32, kind_of, body_of, framed, with_padding, atom_of}
use Rattle.atom_core.specs.Fits.{Fits}
use Rattle.atom_core.proofs.Numbers.{u32-length}
use Rattle.atom_core.proofs.OneValue.{u32_back, small_body, small_kind}
use Rattle.atom_core.proofs.Padding.{padded_above}

-- ---- numbers

pub number_first : (bytes : List ℕ) → number_at bytes 0 ≡ from_le_bytes w32 bytes
unfolding number_at
number_first bytes = refl

pub number_fourth : (bytes : List ℕ) → number_at bytes 4 ≡ from_le_bytes w32 (drop 4 bytes)
unfolding number_at
number_fourth bytes = simp get_or-drop refl

number_eighth : (bytes : List ℕ) → number_at bytes 8 ≡ from_le_bytes w32 (drop 8 bytes)
unfolding number_at
number_eighth bytes = simp get_or-drop refl

number_twelfth : (bytes : List ℕ) → number_at bytes 12 ≡ from_le_bytes w32 (drop 12 bytes)
unfolding number_at
number_twelfth bytes = simp get_or-drop refl

-- four bytes are read, whatever stands after them
four_of : (n : ℕ) (rest : List ℕ) → from_le_bytes w32 (u32 n ++ rest) ≡ from_le_bytes w32 (u32 n)
unfolding u32
four_of n rest = refl

pub front : (n : ℕ) (rest : List ℕ) → n < 2 ^ 32 → from_le_bytes w32 (u32 n ++ rest) ≡ n
front n rest small = four_of n rest ∙ u32_back n small

-- ---- atoms

pub atom-length : (v : Value) → length (atom_of v) ≡ 8 + length (body_of v)
atom-length v =
    omega (
      arith,
      length-append (u32 (length (body_of v))) (u32 (kind_of v) ++ body_of v),
      length-append (u32 (kind_of v)) (body_of v),
      u32-length (length (body_of v)),
      u32-length (kind_of v),
    )

pub record Parted (bytes : List ℕ) (v : Value) (others : List ℕ) : Type 0 where
  pub long : 16 ≤ length bytes
  pub less : length others + 16 ≤ length bytes
  pub room : 16 + length (body_of v) ≤ length bytes
  pub size : size_at bytes 8 ≡ length (body_of v)
  pub kind : kind_at bytes 8 ≡ kind_of v
  pub body : slice_range bytes 16 (16 + size_at bytes 8) ≡ body_of v
  pub atom : slice_range bytes 8 (16 + length (body_of v)) ≡ atom_of v
  pub after : drop (16 + padded (size_at bytes 8)) bytes ≡ others

pub parted : (n : ℕ) (lead : List ℕ) (v : Value) (others : List ℕ) → length lead ≡ 8 → Fits n v → Parted ((lead ++ with_padding (atom_of v)) ++ others) v others
parted n lead v others eight fits =
    let body : List ℕ = body_of v in
    let pad : List ℕ = replicate (padded (length (atom_of v)) - length (atom_of v)) 0 in
    let bytes : List ℕ = (lead ++ with_padding (atom_of v)) ++ others in
    let rest : List ℕ = pad ++ others in
    let flat : bytes ≡ lead ++ (atom_of v ++ rest) =
    append_assoc lead (with_padding (atom_of v)) others ∙ ap (λ l. lead ++ l) (append_assoc (atom_of v) pad others) in
    let here : drop 8 bytes ≡ atom_of v ++ rest = ap (drop 8) flat ∙ drop_at lead (atom_of v ++ rest) 8 eight in
    let spread : atom_of v ++ rest ≡ u32 (length body) ++ (u32 (kind_of v) ++ (body ++ rest)) =
    append_assoc (u32 (length body)) (u32 (kind_of v) ++ body) rest ∙ ap (λ l. u32 (length body) ++ l) (append_assoc (u32 (kind_of v)) body rest) in
    let second : drop 12 bytes ≡ u32 (kind_of v) ++ (body ++ rest) =
    sym (drop-drop 4 8 bytes) ∙ ap (drop 4) (here ∙ spread) ∙ drop_at (u32 (length body)) (u32 (kind_of v) ++ (body ++ rest)) 4 (u32-length (length body)) in
    let third : drop 16 bytes ≡ body ++ rest =
    sym (drop-drop 4 12 bytes) ∙ ap (drop 4) second ∙ drop_at (u32 (kind_of v)) (body ++ rest) 4 (u32-length (kind_of v)) in
    let size : size_at bytes 8 ≡ length body = number_eighth bytes ∙ ap (from_le_bytes w32) (here ∙ spread) ∙ front (length body) _ (small_body n v fits) in
    let many : (16 + size_at bytes 8) - 16 ≡ length body = omega (arith, size) in
    let whole : (16 + length body) - 8 ≡ length (atom_of v) = omega (arith, atom-length v) in
    let filled : length (body ++ pad) ≡ padded (size_at bytes 8) =
    omega (arith, size, atom-length v, length-append body pad, length-replicate {A = ℕ} (padded (length (atom_of v)) - length (atom_of v)) 0) in
    let all : length bytes ≡ 16 + (length body + (length pad + length others)) =
    omega (arith, ap length flat, length-append lead (atom_of v ++ rest), length-append (atom_of v) rest, length-append pad others, atom-length v, eight) in
    record {
      long = omega (arith, all);
      less = omega (arith, all);
      room = omega (arith, all);
      size = size;
      kind = number_twelfth bytes ∙ ap (from_le_bytes w32) second ∙ front (kind_of v) _ (small_kind n v fits);
      body = ap (λ k. take k (drop 16 bytes)) many ∙ ap (take (length body)) third ∙ take_at body rest (length body) refl;
      atom = ap (λ k. take k (drop 8 bytes)) whole ∙ ap (take (length (atom_of v))) here ∙ take_at (atom_of v) rest (length (atom_of v)) refl;
      after =
          sym (drop-drop (padded (size_at bytes 8)) 16 bytes)
          ∙ ap (drop (padded (size_at bytes 8))) (third ∙ sym (append_assoc body pad others))
          ∙ drop_at (body ++ pad) others (padded (size_at bytes 8)) filled;
    }
