-- Numbers in bytes, both ways.
use Rattle.std.proofs.Common.{◌≡◌, ℕ, zero, suc, ◌+◌, ◌-◌, ◌^◌, ◌<◌, ◌≤◌, List, [], ◌∷◌, length, get_or, take, drop, slice_range, slice_index, replicate, ℤ, FitsSigned, refl, sym, ap, ◌∙◌, subst, arith}
use Rattle.std.specs.Int.{w32, w64, to_le_bytes, from_le_bytes, cast_signed}
use Rattle.std.proofs.Math.Facts.{sfits_to_z}
use Rattle.std.proofs.lemmas.Int.{of_z-to_z}
use Rattle.std.proofs.lemmas.Nat.{le_bytes_4, le_bytes_8}
use Rattle.std.proofs.lemmas.List.{drop_more, get_or-drop, get_or-take, get_or_past, length-take, same_lists, get_or-replicate, length-replicate, get_or_default}
use Rattle.std.proofs.lemmas.Bool.{cases_lt}
use Rattle.std.proofs.lemmas.List.Edits.{get_or-between, length-between}
use Rattle.std.proofs.Common.{inl, inr}
use Rattle.atom_core.specs.Place.{number_at, Stands, AreZero}
use Rattle.atom_core.specs.Spelling.{u32, i32, i64}
use Rattle.atom_core.proofs.Ranges.{renamed, itself}

abbrev pub IsBytes : List ℕ → Type 0
IsBytes bytes = (i : ℕ) → get_or bytes i 0 < 256

pub IsBytes-range : (bytes : List ℕ) (a b : ℕ) → IsBytes bytes → IsBytes (slice_range bytes a b)
IsBytes-range bytes a b h i =
    elim (cases_lt i (b - a)) [
      | inl lt ↦ subst (λ n. n < 256) (sym (get_or-take (b - a) (drop a bytes) i 0 lt ∙ get_or-drop a bytes i 0)) (h (a + i))
      | inr le ↦ subst (λ n. n < 256) (sym (get_or_past (take (b - a) (drop a bytes)) i 0 (omega (arith, length-take (b - a) (drop a bytes))))) (omega arith)
    ]

abbrev pub cells : List ℕ → ℕ → List ℕ
cells bytes at = slice_index bytes at ∷ slice_index bytes (at + 1) ∷ slice_index bytes (at + 2) ∷ slice_index bytes (at + 3) ∷ []

pub cells_are : (bytes : List ℕ) (at : ℕ) → at + 4 ≤ length bytes → cells bytes at ≡ slice_range bytes at (at + 4)
cells_are bytes at le =
    let four : (at + 4) - at ≡ 4 = omega arith in
    let e0 = drop_more bytes at 0 (omega arith) in
    let e1 = drop_more bytes (at + 1) 0 (omega arith) in
    let e2 = drop_more bytes (at + 1 + 1) 0 (omega arith) in
    let e3 = drop_more bytes (at + 1 + 1 + 1) 0 (omega arith) in
    let p2 : at + 1 + 1 ≡ at + 2 = omega arith in
    let p3 : at + 1 + 1 + 1 ≡ at + 3 = omega arith in
    sym (ap (λ n. take n (drop at bytes)) four
    ∙ ap (take 4) e0
    ∙ ap (λ l. slice_index bytes at ∷ take 3 l) e1
    ∙ ap (λ l. slice_index bytes at ∷ slice_index bytes (at + 1) ∷ take 2 l) e2
    ∙ ap (λ l. slice_index bytes at ∷ slice_index bytes (at + 1) ∷ slice_index bytes (at + 1 + 1) ∷ take 1 l) e3
    ∙ ap (λ n. slice_index bytes at ∷ slice_index bytes (at + 1) ∷ slice_index bytes n ∷ slice_index bytes (at + 1 + 1 + 1) ∷ []) p2
    ∙ ap (λ n. slice_index bytes at ∷ slice_index bytes (at + 1) ∷ slice_index bytes (at + 2) ∷ slice_index bytes n ∷ []) p3)

cells_fit : (bytes : List ℕ) (at : ℕ) → IsBytes bytes → (i : ℕ) → get_or (cells bytes at) i 0 < 256
cells_fit bytes at h zero = h at
cells_fit bytes at h (suc zero) = h (at + 1)
cells_fit bytes at h (suc (suc zero)) = h (at + 2)
cells_fit bytes at h (suc (suc (suc zero))) = h (at + 3)
cells_fit bytes at h (suc (suc (suc (suc i)))) = omega arith

pub number_below : (bytes : List ℕ) (at : ℕ) → IsBytes bytes → number_at bytes at < 2 ^ 32
unfolding number_at
number_below bytes at h = omega (arith, h at, h (at + 1), h (at + 2), h (at + 3))

-- the four bytes from here on are the number's
pub number_stands : (bytes : List ℕ) (at : ℕ) → IsBytes bytes → at + 4 ≤ length bytes → Stands bytes at (at + 4) (u32 (number_at bytes at))
unfolding number_at u32
number_stands bytes at h le = record {
  ends = refl;
  text_is = sym (le_bytes_4 (cells bytes at) (number_at bytes at) refl (cells_fit bytes at h) refl ∙ cells_are bytes at le);
}

pub u32-length : (n : ℕ) → length (u32 n) ≡ 4
unfolding u32
u32-length n = refl

pub i32-length : (z : ℤ) → length (i32 z) ≡ 4
unfolding i32
i32-length z = refl

pub i64-length : (z : ℤ) → length (i64 z) ≡ 8
unfolding i64
i64-length z = refl

-- bytes of a signed number
pub record Signed (spelled : ℤ → List ℕ) (Small : ℤ → Type 0) (bytes : List ℕ) : Type 0 where
  pub number : ℤ
  pub small : Small number
  pub spells : bytes ≡ spelled number

-- any four bytes are a signed number's, and a number's without a sign
pub i32_of : (bytes : List ℕ) → length bytes ≡ 4 → IsBytes bytes → Signed i32 (FitsSigned w32) bytes
unfolding i32
i32_of bytes len h =
    let n = from_le_bytes w32 bytes in
    let below : n < 2 ^ 32 = omega (arith, h 0, h 1, h 2, h 3) in
    record {
      number = cast_signed w32 n;
      small = sfits_to_z {w = w32} {n = n} (omega (arith, below));
      spells = sym (ap (to_le_bytes w32) (of_z-to_z w32 n below) ∙ le_bytes_4 bytes n len h refl);
    }

pub i64_of : (bytes : List ℕ) → length bytes ≡ 8 → IsBytes bytes → Signed i64 (FitsSigned w64) bytes
unfolding i64
i64_of bytes len h =
    let n = from_le_bytes w64 bytes in
    let below : n < 2 ^ 64 = omega (arith, h 0, h 1, h 2, h 3, h 4, h 5, h 6, h 7) in
    record {
      number = cast_signed w64 n;
      small = sfits_to_z {w = w64} {n = n} (omega (arith, below));
      spells = sym (ap (to_le_bytes w64) (of_z-to_z w64 n below) ∙ le_bytes_8 bytes n len h refl);
    }

-- zero bytes stand where all are zero
pub zeros_stand : (bytes : List ℕ) (a b : ℕ) → a ≤ b → b ≤ length bytes → AreZero bytes a b → Stands bytes a b (replicate (b - a) 0)
zeros_stand bytes a b le within all =
    let long : length (slice_range bytes a b) ≡ b - a = length-between bytes a b within in
    renamed bytes a b (slice_range bytes a b) (replicate (b - a) 0)
    (same_lists (slice_range bytes a b) (replicate (b - a) 0) (long ∙ sym (length-replicate (b - a) 0))
    (λ k d h.
    let small : k < b - a = omega arith in
    let inside : a + k < b = omega arith in
    get_or-between bytes a b k d inside
    ∙ default bytes (a + k) d (omega arith)
    ∙ all (a + k) (omega arith) inside
    ∙ sym (get_or-replicate (b - a) k 0 d small)))
    (itself bytes a b le within)
  where
    default : (xs : List ℕ) (k d : ℕ) → k < length xs → get_or xs k d ≡ get_or xs k 0
    default xs k d h = get_or_default xs k d 0 h
