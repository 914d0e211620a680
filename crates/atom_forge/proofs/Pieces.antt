-- How long the pieces are.
use Rattle.std.proofs.Common.{◌≡◌, ℕ, zero, suc, FitsSigned, sym, subst, ◌+◌, ◌≤◌, ◌==◌, Bool, true, false, List, ◌++◌, length, if◌then◌else◌, replicate, ap, ◌∙◌, ◌-◌, refl, arith, length-append}
use Rattle.std.specs.Int.{w64, to_le_bytes}
use Rattle.std.proofs.lemmas.List.{append-nil, append_assoc}
use Rattle.atom_core.specs.Place.{padded}
use Rattle.atom_core.specs.Spelling.{u32, i64, framed, with_padding}
use Rattle.atom_core.proofs.Numbers.{IsBytes, Signed, u32-length, i64_of}
use Rattle.atom_core.proofs.Padding.{padded_above, with_padding-length}
use Rattle.atom_forge.specs.declared.level.Level.{Level}
use Rattle.atom_forge.specs.Forged.{laid, opening}

pub opening-length : (kind first second : ℕ) → length (opening kind first second) ≡ 16
unfolding u32
opening-length kind first second = refl

pub framed-length : (kind : ℕ) (body : List ℕ) → length (framed kind body) ≡ 8 + length body
framed-length kind body =
    omega (arith, length-append (u32 (length body)) (u32 kind ++ body), length-append (u32 kind) body, u32-length (length body), u32-length kind)

either_way : (outer : Bool) (bytes : List ℕ) → length bytes ≤ length (if outer then bytes else with_padding bytes)
either_way true bytes = omega arith
either_way false bytes = omega (arith, with_padding-length bytes, padded_above (length bytes))

-- padding takes nothing away
pub laid-above : (levels : List Level) (bytes : List ℕ) → length bytes ≤ length (laid levels bytes)
laid-above levels bytes = either_way (length levels == 0) bytes

outer_way : (outer : Bool) (bytes : List ℕ) → outer ≡ true → length (if outer then bytes else with_padding bytes) ≡ length bytes
outer_way true bytes e = refl
outer_way false bytes e = absurd cc

inner_way : (outer : Bool) (bytes : List ℕ) → outer ≡ false → length (if outer then bytes else with_padding bytes) ≡ padded (length bytes)
inner_way true bytes e = absurd cc
inner_way false bytes e = with_padding-length bytes

pub laid-outer : (levels : List Level) (bytes : List ℕ) → (length levels == 0) ≡ true → length (laid levels bytes) ≡ length bytes
laid-outer levels bytes e = outer_way (length levels == 0) bytes e

pub laid-inner : (levels : List Level) (bytes : List ℕ) → (length levels == 0) ≡ false → length (laid levels bytes) ≡ padded (length bytes)
laid-inner levels bytes e = inner_way (length levels == 0) bytes e

either_laid : (outer : Bool) (bytes : List ℕ) (count : ℕ) → count + length bytes ≡ length (if outer then bytes else with_padding bytes)
    → bytes ++ replicate count 0 ≡ if outer then bytes else with_padding bytes
either_laid true bytes count e = let nothing : count ≡ 0 = omega (arith, e) in ap (λ n. bytes ++ replicate n 0) nothing ∙ append-nil bytes
either_laid false bytes count e =
    let zeros : count ≡ padded (length bytes) - length bytes = omega (arith, e, with_padding-length bytes) in ap (λ n. bytes ++ replicate n 0) zeros

-- the zeros after an atom
pub laid-is : (levels : List Level) (bytes : List ℕ) (count : ℕ) → count + length bytes ≡ length (laid levels bytes) → bytes ++ replicate count 0 ≡ laid levels bytes
laid-is levels bytes count e = either_laid (length levels == 0) bytes count e

pub four_put : (bytes a b d e : List ℕ) → (((bytes ++ a) ++ b) ++ d) ++ e ≡ bytes ++ (a ++ (b ++ (d ++ e)))
four_put bytes a b d e =
    append_assoc ((bytes ++ a) ++ b) d e ∙ append_assoc (bytes ++ a) b (d ++ e) ∙ append_assoc bytes a (b ++ (d ++ e))

eight_bytes : (n : ℕ) → IsBytes (to_le_bytes w64 n)
eight_bytes n zero = omega arith
eight_bytes n (suc zero) = omega arith
eight_bytes n (suc (suc zero)) = omega arith
eight_bytes n (suc (suc (suc zero))) = omega arith
eight_bytes n (suc (suc (suc (suc zero)))) = omega arith
eight_bytes n (suc (suc (suc (suc (suc zero))))) = omega arith
eight_bytes n (suc (suc (suc (suc (suc (suc zero)))))) = omega arith
eight_bytes n (suc (suc (suc (suc (suc (suc (suc zero))))))) = omega arith
eight_bytes n (suc (suc (suc (suc (suc (suc (suc (suc i)))))))) = omega arith

-- the bytes of a number are those of a signed one
pub signed_of : (n : ℕ) (bytes : List ℕ) → bytes ≡ to_le_bytes w64 n → Signed i64 (FitsSigned w64) bytes
signed_of n bytes is = i64_of bytes (ap length is) (subst IsBytes (sym is) (eight_bytes n))
