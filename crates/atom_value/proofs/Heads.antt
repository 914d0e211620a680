-- What is read of headers, of leads and of values without atoms.
use Rattle.std.proofs.Common.{◌≡◌, ℕ, ◌^◌, ◌<◌, false, List, ◌++◌, length, take, drop, refl, ap, ◌∙◌, append_assoc}
use Rattle.std.specs.Int.{w32, w64, from_le_bytes, cast_signed}
use Rattle.std.proofs.lemmas.List.{take_at, drop_at}
use Rattle.atom_core.specs.declared.form.Form.{Form}
use Rattle.atom_core.specs.declared.form.Form.TheVariants.{Any, Four, Eight, Text, Literal, Vector, Tuple, Object, Sequence}
use Rattle.atom_core.specs.Form.{form_of, is_container, lead_len}
use Rattle.atom_core.specs.Value.{Plain, Lead, bare, keyed, timed, plain}
use Rattle.atom_core.specs.Spelling.{u32, i64, plain_kind, plain_body, lead_bytes, framed}
use Rattle.atom_core.specs.Fits.{PlainFits, LeadFits}
use Rattle.atom_core.proofs.Numbers.{u32-length}
use Rattle.atom_core.proofs.OneValue.{u32_back, i64_back, plain_by, plain_back, plain_leaf, lead_length}
use Rattle.atom_value.specs.Reading.{number_in, plain_in, lead_in, Reader, value_by}

-- a number before other bytes
pub number_front : (n : ℕ) (rest : List ℕ) → n < 2 ^ 32 → number_in (u32 n ++ rest) ≡ n
number_front n rest lt = ap (from_le_bytes w32) (take_at (u32 n) rest 4 (u32-length n)) ∙ u32_back n lt

pub number_after : (n : ℕ) (rest : List ℕ) → drop 4 (u32 n ++ rest) ≡ rest
number_after n rest = drop_at (u32 n) rest 4 (u32-length n)

long_of : (z : _) (rest : List ℕ) → from_le_bytes w64 (i64 z ++ rest) ≡ from_le_bytes w64 (i64 z)
unfolding i64
long_of z rest = refl

-- what an atom with a body is read as
pub record Header (bytes : List ℕ) (kind : ℕ) (body : List ℕ) : Type 0 where
  pub size_is : number_in bytes ≡ length body
  pub kind_is : number_in (drop 4 bytes) ≡ kind
  pub body_is : take (number_in bytes) (drop 8 bytes) ≡ body

eight_on : (a b : ℕ) (rest : List ℕ) → drop 8 (u32 a ++ (u32 b ++ rest)) ≡ rest
unfolding u32
eight_on a b rest = refl

pub header : (kind : ℕ) (body rest : List ℕ) → kind < 2 ^ 32 → length body < 2 ^ 32 → Header (framed kind body ++ rest) kind body
header kind body rest small few =
    let flat : framed kind body ++ rest ≡ u32 (length body) ++ (u32 kind ++ (body ++ rest)) =
    append_assoc (u32 (length body)) (u32 kind ++ body) rest ∙ ap (λ (l : List ℕ). u32 (length body) ++ l) (append_assoc (u32 kind) body rest) in
    let size : number_in (framed kind body ++ rest) ≡ length body = ap number_in flat ∙ number_front (length body) (u32 kind ++ (body ++ rest)) few in
    record {
      size_is = size;
      kind_is = ap (λ (l : List ℕ). number_in (drop 4 l)) flat ∙ ap number_in (number_after (length body) (u32 kind ++ (body ++ rest))) ∙ number_front kind (body ++ rest) small;
      body_is =
          ap (λ n. take n (drop 8 (framed kind body ++ rest))) size
          ∙ ap (λ (l : List ℕ). take (length body) (drop 8 l)) flat
          ∙ ap (take (length body)) (eight_on (length body) kind (body ++ rest))
          ∙ take_at body rest (length body) refl;
    }

-- a lead before other bytes
pub lead_front : (form : Form) (lead : Lead) (rest : List ℕ) → LeadFits form lead → lead_in form (lead_bytes lead ++ rest) ≡ lead
lead_front Tuple bare rest fits = refl
lead_front Object (keyed key context) rest fits =
    let flat : (u32 key ++ u32 context) ++ rest ≡ u32 key ++ (u32 context ++ rest) = append_assoc (u32 key) (u32 context) rest in
    let a : number_in ((u32 key ++ u32 context) ++ rest) ≡ key = ap number_in flat ∙ number_front key (u32 context ++ rest) fits.0 in
    let b : number_in (drop 4 ((u32 key ++ u32 context) ++ rest)) ≡ context =
    ap (λ (l : List ℕ). number_in (drop 4 l)) flat ∙ ap number_in (number_after key (u32 context ++ rest)) ∙ number_front context rest fits.1 in
    ap (λ n. keyed n (number_in (drop 4 ((u32 key ++ u32 context) ++ rest)))) a ∙ ap (keyed key) b
lead_front Sequence (timed time) rest fits = ap timed (ap (cast_signed w64) (long_of time rest) ∙ i64_back time fits)
lead_front form lead rest fits = absurd fits

pub lead_after : (form : Form) (lead : Lead) (rest : List ℕ) → LeadFits form lead → drop (lead_len form) (lead_bytes lead ++ rest) ≡ rest
lead_after form lead rest fits = drop_at (lead_bytes lead) rest (lead_len form) (lead_length form lead fits)

plain_same : (form : Form) (kind : ℕ) (body : List ℕ) → plain_in form kind body ≡ plain_by form kind body
unfolding plain_by
plain_same Any kind body = refl
plain_same Four kind body = refl
plain_same Eight kind body = refl
plain_same Text kind body = refl
plain_same Literal kind body = refl
plain_same Vector kind body = refl
plain_same Tuple kind body = refl
plain_same Object kind body = refl
plain_same Sequence kind body = refl

leaf_value : (parts : Reader) (form : Form) (kind : ℕ) (body : List ℕ) → is_container form ≡ false → value_by parts form kind body ≡ plain (plain_in form kind body)
leaf_value parts Any kind body leaf = refl
leaf_value parts Four kind body leaf = refl
leaf_value parts Eight kind body leaf = refl
leaf_value parts Text kind body leaf = refl
leaf_value parts Literal kind body leaf = refl
leaf_value parts Vector kind body leaf = refl
leaf_value parts Tuple kind body leaf = absurd cc
leaf_value parts Object kind body leaf = absurd cc
leaf_value parts Sequence kind body leaf = absurd cc

pub plain_read : (parts : Reader) (p : Plain) → PlainFits p → value_by parts (form_of (plain_kind p)) (plain_kind p) (plain_body p) ≡ plain p
plain_read parts p fits =
    leaf_value parts (form_of (plain_kind p)) (plain_kind p) (plain_body p) (plain_leaf p fits)
    ∙ ap plain (plain_same (form_of (plain_kind p)) (plain_kind p) (plain_body p) ∙ plain_back p fits)
