-- Whatever bytes an atom without atoms has, once its own bytes are well, they spell a value.
use Rattle.std.proofs.Common.{◌≡◌, ℕ, ◌+◌, ◌-◌, ◌^◌, ◌<◌, ◌≤◌, true, false, List, ◌++◌, length, slice_range, IsTrue, inl, inr, refl, sym, ap, ◌∙◌, subst, arith}
use Rattle.std.specs.Prelude.{nat_le, ◌&&◌}
use Rattle.std.proofs.lemmas.Bool.{eqb-true, leb-true}
use Rattle.atom_core.specs.declared.form.Form.{Form}
use Rattle.atom_core.specs.declared.form.Form.TheVariants.{Any, Four, Eight, Text, Literal, Vector, Tuple, Object, Sequence}
use Rattle.atom_core.specs.Form.{form_of, allows_size, is_multiple, is_container}
use Rattle.atom_core.specs.Place.{number_at, size_at, kind_at, Stands}
use Rattle.atom_core.specs.Value.{Plain, int, long, boolean, urid, string, literal, vector, float, double, fixed, uri, path, other, plain}
use Rattle.atom_core.specs.Spelling.{u32, ended, plain_kind, plain_body, framed}
use Rattle.atom_core.specs.Fits.{PlainFits}
use Rattle.atom_core.specs.Content.{IsContent, IsEndedText, IsOwn, form_at, end_at}
use Rattle.atom_core.specs.Parts.{StandsAtom}
use Rattle.atom_core.proofs.Ranges.{range-length, behind, renamed, itself}
use Rattle.atom_core.proofs.TypeForms.{HasForm, known}
use Rattle.atom_core.proofs.Numbers.{IsBytes, IsBytes-range, number_below, number_stands, i32_of, i64_of}

-- the header and a body make an atom
pub framed_stands : (bytes : List ℕ) (at kind : ℕ) (body : List ℕ) → IsBytes bytes → at + 8 ≤ length bytes → end_at bytes at ≤ length bytes
    → kind ≡ kind_at bytes at → Stands bytes (at + 8) (end_at bytes at) body → Stands bytes at (end_at bytes at) (framed kind body)
framed_stands bytes at kind body h le within e stands =
    let size : length body ≡ size_at bytes at = omega (arith, stands.ends) in
    let first : Stands bytes at (at + 4) (u32 (length body)) =
    renamed bytes at (at + 4) (u32 (size_at bytes at)) (u32 (length body)) (ap u32 (sym size)) (number_stands bytes at h (omega arith)) in
    let four : at + 4 + 4 ≡ at + 8 = omega arith in
    let second : Stands bytes (at + 4) (at + 8) (u32 kind) =
    renamed bytes (at + 4) (at + 8) (u32 (kind_at bytes at)) (u32 kind) (ap u32 (sym e))
    (subst (λ n. Stands bytes (at + 4) n (u32 (kind_at bytes at))) four (number_stands bytes (at + 4) h (omega arith))) in
    behind bytes at (at + 4) (end_at bytes at) (u32 (length body)) (u32 kind ++ body) first
    (behind bytes (at + 4) (at + 8) (end_at bytes at) (u32 kind) body second stands)

-- a body that a value without atoms has
pub record IsPlainAt (bytes : List ℕ) (at : ℕ) : Type 0 where
  pub value : Plain
  pub kind : plain_kind value ≡ kind_at bytes at
  pub body : slice_range bytes (at + 8) (end_at bytes at) ≡ plain_body value
  pub fits : PlainFits value

and_left : (a b : _) → (a && b) ≡ true → a ≡ true
and_left true b e = refl
and_left false b e = absurd cc

and_right : (a b : _) → (a && b) ≡ true → b ≡ true
and_right true b e = e
and_right false b e = absurd cc

is_true : (b : _) → b ≡ true → IsTrue b
is_true true e = e
is_true false e = absurd cc

module _ (bytes : List ℕ) (at : ℕ) (h : IsBytes bytes) (le : at + 8 ≤ length bytes) (within : end_at bytes at ≤ length bytes) where
  abbrev body : List ℕ
  body = slice_range bytes (at + 8) (end_at bytes at)

  body_fits : IsBytes body
  body_fits = IsBytes-range bytes (at + 8) (end_at bytes at) h

  body_length : length body ≡ size_at bytes at
  body_length = omega (arith, range-length bytes (at + 8) (end_at bytes at) (omega arith) within)

  four : HasForm (kind_at bytes at) Four → size_at bytes at ≡ 4 → IsPlainAt bytes at
  four kind size =
      let signed = i32_of body (body_length ∙ size) body_fits in
      elim kind [
        | inl e ↦ record { value = int signed.number; kind = sym e; body = signed.spells; fits = signed.small }
        | inr rest ↦ elim rest [
          | inl e ↦ record { value = boolean signed.number; kind = sym e; body = signed.spells; fits = signed.small }
          | inr rest ↦ elim rest [
            | inl e ↦ unsigned e size
            | inr e ↦ record { value = float body; kind = sym e; body = refl; fits = body_length ∙ size }
          ]
        ]
      ]
    where
      unsigned : kind_at bytes at ≡ 4 → size_at bytes at ≡ 4 → IsPlainAt bytes at
      unsigned e size =
          let eight : at + 8 + 4 ≡ end_at bytes at = omega arith in
          let stands = number_stands bytes (at + 8) h (omega arith) in
          record {
            value = urid (number_at bytes (at + 8));
            kind = sym e;
            body = ap (λ n. slice_range bytes (at + 8) n) (sym eight) ∙ stands.text_is;
            fits = number_below bytes (at + 8) h;
          }

  eight : HasForm (kind_at bytes at) Eight → size_at bytes at ≡ 8 → IsPlainAt bytes at
  eight kind size =
      let signed = i64_of body (body_length ∙ size) body_fits in
      elim kind [
        | inl e ↦ record { value = long signed.number; kind = sym e; body = signed.spells; fits = signed.small }
        | inr rest ↦ elim rest [
          | inl e ↦ record { value = double body; kind = sym e; body = refl; fits = body_length ∙ size }
          | inr e ↦ record { value = fixed signed.number; kind = sym e; body = signed.spells; fits = signed.small }
        ]
      ]

  text : HasForm (kind_at bytes at) Text → IsEndedText body → IsPlainAt bytes at
  text kind content =
      elim kind [
        | inl e ↦ record { value = string content.0; kind = sym e; body = content.2; fits = content.1 }
        | inr rest ↦ elim rest [
          | inl e ↦ record { value = uri content.0; kind = sym e; body = content.2; fits = content.1 }
          | inr e ↦ record { value = path content.0; kind = sym e; body = content.2; fits = content.1 }
        ]
      ]

  -- two numbers stand before the rest of a body
  numbered : (rest : List ℕ) → 8 ≤ size_at bytes at → slice_range bytes (at + 16) (end_at bytes at) ≡ rest
      → body ≡ u32 (number_at bytes (at + 8)) ++ (u32 (number_at bytes (at + 12)) ++ rest)
  numbered rest size e =
      let p : at + 8 + 4 ≡ at + 12 = omega arith in
      let q : at + 12 + 4 ≡ at + 16 = omega arith in
      let one : Stands bytes (at + 8) (at + 12) (u32 (number_at bytes (at + 8))) =
      subst (λ n. Stands bytes (at + 8) n (u32 (number_at bytes (at + 8)))) p (number_stands bytes (at + 8) h (omega arith)) in
      let two : Stands bytes (at + 12) (at + 16) (u32 (number_at bytes (at + 12))) =
      subst (λ n. Stands bytes (at + 12) n (u32 (number_at bytes (at + 12)))) q (number_stands bytes (at + 12) h (omega arith)) in
      let three : Stands bytes (at + 16) (end_at bytes at) rest =
      renamed bytes (at + 16) (end_at bytes at) (slice_range bytes (at + 16) (end_at bytes at)) rest e (itself bytes (at + 16) (end_at bytes at) (omega arith) within) in
      (behind bytes (at + 8) (at + 12) (end_at bytes at) (u32 (number_at bytes (at + 8))) (u32 (number_at bytes (at + 12)) ++ rest) one
      (behind bytes (at + 12) (at + 16) (end_at bytes at) (u32 (number_at bytes (at + 12))) rest two three)).text_is

  worded : kind_at bytes at ≡ 6 → 9 ≤ size_at bytes at → IsEndedText (slice_range bytes (at + 16) (end_at bytes at)) → IsPlainAt bytes at
  worded e size content = record {
    value = literal (number_at bytes (at + 8)) (number_at bytes (at + 12)) content.0;
    kind = sym e;
    body = numbered (ended content.0) (omega arith) content.2;
    fits = (number_below bytes (at + 8) h, number_below bytes (at + 12) h, content.1);
  }

  listed : kind_at bytes at ≡ 7 → 8 ≤ size_at bytes at → is_multiple (size_at bytes at - 8) (number_at bytes (at + 8)) ≡ true → IsPlainAt bytes at
  listed e size multiple =
      let rest = slice_range bytes (at + 16) (end_at bytes at) in
      let long : size_at bytes at - 8 ≡ length rest = omega (arith, range-length bytes (at + 16) (end_at bytes at) (omega arith) within) in
      record {
        value = vector (number_at bytes (at + 8)) (number_at bytes (at + 12)) rest;
        kind = sym e;
        body = numbered rest size refl;
        fits = (
          number_below bytes (at + 8) h,
          number_below bytes (at + 12) h,
          is_true (is_multiple (length rest) (number_at bytes (at + 8))) (ap (λ n. is_multiple n (number_at bytes (at + 8))) (sym long) ∙ multiple),
        );
      }

  any : form_of (kind_at bytes at) ≡ Any → IsPlainAt bytes at
  any e = record { value = other (kind_at bytes at) body; kind = refl; body = refl; fits = (number_below bytes (at + 4) h, e) }

  by_form : (form : Form) → form ≡ form_at bytes at → HasForm (kind_at bytes at) form → allows_size form (size_at bytes at) (number_at bytes (at + 8)) ≡ true
      → IsContent form bytes at (end_at bytes at) → is_container form ≡ false → IsPlainAt bytes at
  by_form Any e kind size content leaf = any (sym e)
  by_form Four e kind size content leaf = four kind (eqb-true (size_at bytes at) 4 size)
  by_form Eight e kind size content leaf = eight kind (eqb-true (size_at bytes at) 8 size)
  by_form Text e kind size content leaf = text kind content
  by_form Literal e kind size content leaf = worded kind (leb-true 9 (size_at bytes at) size) content
  by_form Vector e kind size content leaf =
      let fit = and_left (nat_le 8 (size_at bytes at)) (is_multiple (size_at bytes at - 8) (number_at bytes (at + 8))) size in
      let multiple = and_right (nat_le 8 (size_at bytes at)) (is_multiple (size_at bytes at - 8) (number_at bytes (at + 8))) size in
      listed kind (leb-true 8 (size_at bytes at) fit) multiple
  by_form Tuple e kind size content leaf = absurd cc
  by_form Object e kind size content leaf = absurd cc
  by_form Sequence e kind size content leaf = absurd cc

  -- an atom that holds no atoms stands here
  pub stands_plain : (n : ℕ) (form : Form) → IsOwn bytes at form → is_container form ≡ false → StandsAtom n bytes at (end_at bytes at)
  stands_plain n form own leaf =
      let found = by_form form own.form_is (subst (HasForm (kind_at bytes at)) (sym own.form_is) (known (kind_at bytes at))) own.allowed own.content leaf in
      let stands : Stands bytes (at + 8) (end_at bytes at) (plain_body found.value) =
      renamed bytes (at + 8) (end_at bytes at) body (plain_body found.value) found.body (itself bytes (at + 8) (end_at bytes at) (omega arith) within) in
      let small : length (plain_body found.value) < 2 ^ 32 = omega (arith, stands.ends, number_below bytes at h) in
      (plain found.value, (found.fits, small), framed_stands bytes at (plain_kind found.value) (plain_body found.value) h le within found.kind stands)
