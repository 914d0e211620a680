-- Padding, and the heads of containers and of parts.
use Rattle.std.proofs.Common.{◌≡◌, ℕ, ◌+◌, ◌-◌, ◌*◌, ◌/◌, ◌≤◌, true, List, [], ◌++◌, length, slice_range, replicate, refl, sym, ap, ◌∙◌, subst, arith}
use Rattle.std.proofs.lemmas.List.{length-append, length-replicate}
use Rattle.atom_core.specs.declared.form.Form.{Form}
use Rattle.atom_core.specs.declared.form.Form.TheVariants.{Any, Four, Eight, Text, Literal, Vector, Tuple, Object, Sequence}
use Rattle.atom_core.specs.Form.{form_of, is_container, lead_len}
use Rattle.atom_core.specs.Place.{number_at, kind_at, padded, Stands, AreZero}
use Rattle.atom_core.specs.Value.{Container, tuple, object, sequence, Lead, bare, keyed, timed, Parts, none, part}
use Rattle.atom_core.specs.Spelling.{u32, i64, container_kind, container_head, lead_bytes, with_padding, parts_of, kind_of, body_of, framed}
use Rattle.atom_core.specs.Fits.{ContainerFits, LeadFits}
use Rattle.atom_core.specs.Content.{IsContent, end_at}
use Rattle.atom_core.proofs.Ranges.{behind, renamed, itself, nothing, range-length}
use Rattle.atom_core.proofs.TypeForms.{HasForm}
use Rattle.atom_core.proofs.Numbers.{IsBytes, IsBytes-range, number_below, number_stands, u32-length, i64-length, i64_of, zeros_stand}

pub padded_above : (n : ℕ) → n ≤ padded n
padded_above n = omega arith

pub with_padding-length : (text : List ℕ) → length (with_padding text) ≡ padded (length text)
with_padding-length text =
    omega (arith, length-append text (replicate (padded (length text) - length text) 0), length-replicate {A = ℕ} (padded (length text) - length text) 0, padded_above (length text))

-- a text with its padding, where zeros follow it
pub padding_stands : (bytes : List ℕ) (at end : ℕ) (text : List ℕ) → Stands bytes at end text → at + padded (length text) ≤ length bytes
    → AreZero bytes end (at + padded (length text)) → Stands bytes at (at + padded (length text)) (with_padding text)
padding_stands bytes at end text stands within all =
    let count : (at + padded (length text)) - end ≡ padded (length text) - length text = omega (arith, stands.ends, padded_above (length text)) in
    behind bytes at end (at + padded (length text)) text (replicate (padded (length text) - length text) 0) stands
    (renamed bytes end (at + padded (length text)) (replicate ((at + padded (length text)) - end) 0) (replicate (padded (length text) - length text) 0)
    (ap (λ n. replicate n 0) count)
    (zeros_stand bytes end (at + padded (length text)) (omega (arith, stands.ends, padded_above (length text))) within all))

lead_eights : (lead : Lead) → (n : ℕ) × (length (lead_bytes lead) ≡ 8 * n)
lead_eights bare = (0, refl)
lead_eights (keyed key context) = (1, omega (arith, length-append (u32 key) (u32 context), u32-length key, u32-length context))
lead_eights (timed time) = (1, i64-length time)

-- parts take a multiple of 8 bytes
pub parts_eights : (parts : Parts) → (n : ℕ) × (length (parts_of parts) ≡ 8 * n)
parts_eights none = (0, refl)
parts_eights (part lead value parts) =
    let l = lead_eights lead in
    let p = parts_eights parts in
    let text = framed (kind_of value) (body_of value) in (
      l.0 + ((length text + 7) / 8 + p.0),
      omega (arith, length-append (lead_bytes lead ++ with_padding text) (parts_of parts), length-append (lead_bytes lead) (with_padding text), with_padding-length text, l.1, p.1),
    )

head_eights : (container : Container) → (n : ℕ) × (length (container_head container) ≡ 8 * n)
head_eights tuple = (0, refl)
head_eights (object id kind) = (1, omega (arith, length-append (u32 id) (u32 kind), u32-length id, u32-length kind))
head_eights sequence = (1, refl)

-- so a container needs no padding
pub container_unpadded : (container : Container) (parts : Parts) (kind : ℕ)
    → padded (length (framed kind (container_head container ++ parts_of parts))) ≡ length (framed kind (container_head container ++ parts_of parts))
container_unpadded container parts kind =
    let h = head_eights container in
    let p = parts_eights parts in
    let body = container_head container ++ parts_of parts in
    let long : length (framed kind body) ≡ 8 * (1 + (h.0 + p.0)) =
    omega (
      arith,
      length-append (u32 (length body)) (u32 kind ++ body),
      length-append (u32 kind) body,
      u32-length (length body),
      u32-length kind,
      length-append (container_head container) (parts_of parts),
      h.1,
      p.1,
    ) in
    ap padded long ∙ eights (1 + (h.0 + p.0)) ∙ sym long
  where
    eights : (n : ℕ) → padded (8 * n) ≡ 8 * n
    eights n = omega arith

-- two numbers stand here
pub pair_stands : (bytes : List ℕ) (at : ℕ) → IsBytes bytes → at + 8 ≤ length bytes → Stands bytes at (at + 8) (u32 (number_at bytes at) ++ u32 (number_at bytes (at + 4)))
pair_stands bytes at h le =
    let e : at + 4 + 4 ≡ at + 8 = omega arith in
    behind bytes at (at + 4) (at + 8) (u32 (number_at bytes at)) (u32 (number_at bytes (at + 4))) (number_stands bytes at h (omega arith))
    (subst (λ n. Stands bytes (at + 4) n (u32 (number_at bytes (at + 4)))) e (number_stands bytes (at + 4) h (omega arith)))

pub record LeadAt (bytes : List ℕ) (at : ℕ) (form : Form) : Type 0 where
  pub lead : Lead
  pub fits : LeadFits form lead
  pub stands : Stands bytes at (at + lead_len form) (lead_bytes lead)

-- whatever stands before the atom of a part
pub lead_stands : (bytes : List ℕ) (at : ℕ) (form : Form) → IsBytes bytes → at + lead_len form ≤ length bytes → is_container form ≡ true → LeadAt bytes at form
lead_stands bytes at Any h le e = absurd cc
lead_stands bytes at Four h le e = absurd cc
lead_stands bytes at Eight h le e = absurd cc
lead_stands bytes at Text h le e = absurd cc
lead_stands bytes at Literal h le e = absurd cc
lead_stands bytes at Vector h le e = absurd cc
lead_stands bytes at Tuple h le e = record {
  lead = bare;
  fits = tt;
  stands = let same : at ≡ at + 0 = omega arith in subst (λ n. Stands bytes at n []) same (nothing bytes at);
}
lead_stands bytes at Object h le e = record {
  lead = keyed (number_at bytes at) (number_at bytes (at + 4));
  fits = (number_below bytes at h, number_below bytes (at + 4) h);
  stands = pair_stands bytes at h le;
}
lead_stands bytes at Sequence h le e =
    let signed = i64_of (slice_range bytes at (at + 8)) (omega (arith, range-length bytes at (at + 8) (omega arith) le)) (IsBytes-range bytes at (at + 8) h) in
    record {
      lead = timed signed.number;
      fits = signed.small;
      stands = renamed bytes at (at + 8) (slice_range bytes at (at + 8)) (i64 signed.number) signed.spells (itself bytes at (at + 8) (omega arith) le);
    }

pub record HeadAt (bytes : List ℕ) (at : ℕ) (form : Form) : Type 0 where
  pub container : Container
  pub kind : container_kind container ≡ kind_at bytes at
  pub form_is : form_of (container_kind container) ≡ form
  pub fits : ContainerFits container
  pub stands : Stands bytes (at + 8) (at + 8 + lead_len form) (container_head container)

-- what a container says of itself, once its own bytes are well
pub head_stands : (bytes : List ℕ) (at : ℕ) (form : Form) → IsBytes bytes → at + 8 + lead_len form ≤ length bytes → HasForm (kind_at bytes at) form
    → IsContent form bytes at (end_at bytes at) → is_container form ≡ true → HeadAt bytes at form
unfolding form_of
head_stands bytes at Any h le kind content e = absurd cc
head_stands bytes at Four h le kind content e = absurd cc
head_stands bytes at Eight h le kind content e = absurd cc
head_stands bytes at Text h le kind content e = absurd cc
head_stands bytes at Literal h le kind content e = absurd cc
head_stands bytes at Vector h le kind content e = absurd cc
head_stands bytes at Tuple h le kind content e = record {
  container = tuple;
  kind = sym kind;
  form_is = refl;
  fits = tt;
  stands = let same : at + 8 ≡ at + 8 + 0 = omega arith in subst (λ n. Stands bytes (at + 8) n []) same (nothing bytes (at + 8));
}
head_stands bytes at Object h le kind content e = record {
  container = object (number_at bytes (at + 8)) (number_at bytes (at + 8 + 4));
  kind = sym kind;
  form_is = refl;
  fits = (number_below bytes (at + 8) h, number_below bytes (at + 8 + 4) h);
  stands = pair_stands bytes (at + 8) h le;
}
head_stands bytes at Sequence h le kind content e =
    let count : (at + 8 + 8) - (at + 8) ≡ 8 = omega arith in
    let place : at + 16 ≡ at + 8 + 8 = omega arith in
    record {
      container = sequence;
      kind = sym kind;
      form_is = refl;
      fits = tt;
      stands = renamed bytes (at + 8) (at + 8 + 8) (replicate ((at + 8 + 8) - (at + 8)) 0) (replicate 8 0) (ap (λ n. replicate n 0) count)
          (zeros_stand bytes (at + 8) (at + 8 + 8) (omega arith) le (subst (λ n. AreZero bytes (at + 8) n) place content));
    }
