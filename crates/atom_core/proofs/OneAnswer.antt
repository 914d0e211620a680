-- Bytes have one answer: a value has no fault, and no bytes have two faults.
use Rattle.std.proofs.Common.{◌≡◌, ℕ, zero, suc, pred, ◌+◌, ◌-◌, ◌<◌, ◌≤◌, ◌==◌, Bool, true, false, List, length, slice_range, nat_lt, MatchBool, ◌⊎◌, inl, inr, refl, sym, ap, ◌∙◌, subst, arith}
use Rattle.std.specs.Prelude.{◌||◌}
use Rattle.std.proofs.lemmas.Bool.{ltb-true, eqb-true, le-ltb, cases_lt}
use Rattle.std.proofs.lemmas.List.{take_all}
use Rattle.atom_core.specs.declared.fault.AtomFault.{AtomFault}
use Rattle.atom_core.specs.declared.fault.AtomFault.TheVariants.{Short, BadSize, BadPad, Depth}
use Rattle.atom_core.specs.declared.form.Form.{Form}
use Rattle.atom_core.specs.declared.form.Form.TheVariants.{Text, Literal, Sequence}
use Rattle.atom_core.specs.Form.{allows_size, lead_len}
use Rattle.atom_core.specs.Place.{number_at, size_at, padded, Stands, AreZero, IsFirstOther}
use Rattle.atom_core.specs.Value.{Value, Parts, none, part}
use Rattle.atom_core.specs.Spelling.{parts_of, part_of, atom_of}
use Rattle.atom_core.specs.Fits.{PartsFit}
use Rattle.atom_core.specs.Content.{IsContent, ContentFault, ZeroFault, IsOwn, OwnFault, form_at, end_at}
use Rattle.atom_core.specs.Parts.{Judge, AtomFaultBy, StandsAtom, PartFaultBy, PartsFaultBy, PartsFault}
use Rattle.atom_core.specs.Steps.{ArePartsThere, IsPartThere}
use Rattle.atom_core.specs.Answer.{Spells, is_short, HasFault}
use Rattle.atom_core.proofs.Padding.{padded_above}
use Rattle.atom_core.proofs.Reading.{first_stands, second_stands, atom_says, own_well, parts_there, part_says}

-- which way a test went
chosen : (b : Bool) (P Q : Type 0) → MatchBool b P Q → ((b ≡ true) × P) ⊎ ((b ≡ false) × Q)
chosen true P Q h = inl (refl, h)
chosen false P Q h = inr (refl, h)

taken : (b : Bool) (P Q : Type 0) → b ≡ true → MatchBool b P Q → P
taken true P Q e h = h
taken false P Q e h = absurd cc

passed : (b : Bool) (P Q : Type 0) → b ≡ false → MatchBool b P Q → Q
passed true P Q e h = absurd cc
passed false P Q e h = h

-- ---- zeros and contents

zero_excl : (bytes : List ℕ) (a b : ℕ) (f : AtomFault) → AreZero bytes a b → ZeroFault bytes a b f → ⊥
zero_excl bytes a b f zeros wrong = wrong.1.other (zeros wrong.0 wrong.1.begins wrong.1.within)

first_least : (bytes : List ℕ) (a b p q : ℕ) → IsFirstOther bytes a b p → IsFirstOther bytes a b q → p < q → ⊥
first_least bytes a b p q h k lt = h.other (k.first p h.begins lt)

first_same : (bytes : List ℕ) (a b p q : ℕ) → IsFirstOther bytes a b p → IsFirstOther bytes a b q → p ≡ q
first_same bytes a b p q h k =
    elim (cases_lt p q) [
      | inl lt ↦ absurd (first_least bytes a b p q h k lt)
      | inr le ↦ elim (cases_lt q p) [
        | inl lt ↦ absurd (first_least bytes a b q p k h lt)
        | inr ge ↦ omega arith
      ]
    ]

zero_uniq : (bytes : List ℕ) (a b : ℕ) (f g : AtomFault) → ZeroFault bytes a b f → ZeroFault bytes a b g → f ≡ g
zero_uniq bytes a b f g h k = h.2 ∙ ap BadPad (first_same bytes a b h.0 k.0 h.1 k.1) ∙ sym k.2

content_excl : (form : Form) (bytes : List ℕ) (at end : ℕ) (f : AtomFault) → IsContent form bytes at end → ContentFault form bytes at end f → ⊥
content_excl Text bytes at end f content wrong = wrong.0 content
content_excl Literal bytes at end f content wrong = wrong.0 content
content_excl Sequence bytes at end f content wrong = zero_excl bytes (at + 8) (at + 16) f content wrong
content_excl form bytes at end f content wrong = absurd wrong

content_uniq : (form : Form) (bytes : List ℕ) (at end : ℕ) (f g : AtomFault) → ContentFault form bytes at end f → ContentFault form bytes at end g → f ≡ g
content_uniq Text bytes at end f g h k = h.1 ∙ sym k.1
content_uniq Literal bytes at end f g h k = h.1 ∙ sym k.1
content_uniq Sequence bytes at end f g h k = zero_uniq bytes (at + 8) (at + 16) f g h k
content_uniq form bytes at end f g h k = absurd h

own_excl : (bytes : List ℕ) (at : ℕ) (f : AtomFault) → IsOwn bytes at (form_at bytes at) → OwnFault bytes at f → ⊥
own_excl bytes at f own wrong =
    content_excl (form_at bytes at) bytes at (end_at bytes at) f own.content
    (taken (allows_size (form_at bytes at) (size_at bytes at) (number_at bytes (at + 8))) _ _ own.allowed wrong)

own_uniq : (bytes : List ℕ) (at : ℕ) (f g : AtomFault) → OwnFault bytes at f → OwnFault bytes at g → f ≡ g
own_uniq bytes at f g h k =
    let b = allows_size (form_at bytes at) (size_at bytes at) (number_at bytes (at + 8)) in
    let P : AtomFault → Type 0 = ContentFault (form_at bytes at) bytes at (end_at bytes at) in
    elim (chosen b (P f) (f ≡ BadSize at) h) [
      | inl x ↦ content_uniq (form_at bytes at) bytes at (end_at bytes at) f g x.1 (taken b (P g) (g ≡ BadSize at) x.0 k)
      | inr x ↦ x.1 ∙ sym (passed b (P g) (g ≡ BadSize at) x.0 k)
    ]

-- ---- what is known of the parts of the atoms further in

record Decided (n : ℕ) (bytes : List ℕ) (inner : Judge) : Type 0 where
  excl : (form : Form) (from end : ℕ) (f : AtomFault) → ArePartsThere n bytes form from end → inner form from end f → ⊥
  uniq : (form : Form) (from end : ℕ) (f g : AtomFault) → inner form from end f → inner form from end g → f ≡ g

module _ (m : ℕ) (bytes : List ℕ) (inner : Judge) (known : Decided m bytes inner) where
  atom_excl : (at : ℕ) (f : AtomFault) → StandsAtom m bytes at (end_at bytes at) → AtomFaultBy inner bytes at f → ⊥
  atom_excl at f atom wrong =
      elim wrong [
        | inl own ↦ own_excl bytes at f (own_well m bytes at (end_at bytes at) atom.0 atom.1 atom.2) own
        | inr deep ↦
            known.excl (form_at bytes at) (at + 8 + lead_len (form_at bytes at)) (end_at bytes at) f
            (parts_there m bytes at (end_at bytes at) atom.0 atom.1 atom.2 deep.1) deep.2
      ]

  atom_uniq : (at : ℕ) (f g : AtomFault) → AtomFaultBy inner bytes at f → AtomFaultBy inner bytes at g → f ≡ g
  atom_uniq at f g h k =
      elim h [
        | inl a ↦ elim k [ inl b ↦ own_uniq bytes at f g a b | inr b ↦ absurd (own_excl bytes at f b.0 a) ]
        | inr a ↦ elim k [
          | inl b ↦ absurd (own_excl bytes at g a.0 b)
          | inr b ↦ known.uniq (form_at bytes at) (at + 8 + lead_len (form_at bytes at)) (end_at bytes at) f g a.2 b.2
        ]
      ]

module _ (n : ℕ) (bytes : List ℕ) (inner : Judge) (known : Decided (pred n) bytes inner) (form : Form) (end : ℕ) where
  abbrev rest : ℕ → AtomFault → Type 0
  rest at f =
      AtomFaultBy inner bytes (at + lead_len form) f
      ⊎ (StandsAtom (pred n) bytes (at + lead_len form) (end_at bytes (at + lead_len form))
      × ZeroFault bytes (end_at bytes (at + lead_len form)) (at + lead_len form + padded (8 + size_at bytes (at + lead_len form))) f)

  abbrev no_size : ℕ → Bool
  no_size at = nat_lt end (at + lead_len form + padded (8 + size_at bytes (at + lead_len form)))

  abbrev no_header : ℕ → Bool
  no_header at = nat_lt (end - at) (lead_len form + 8)

  rest_uniq : (at : ℕ) (f g : AtomFault) → rest at f → rest at g → f ≡ g
  rest_uniq at f g h k =
      elim h [
        | inl a ↦ elim k [
          | inl b ↦ atom_uniq (pred n) bytes inner known (at + lead_len form) f g a b
          | inr b ↦ absurd (atom_excl (pred n) bytes inner known (at + lead_len form) f b.0 a)
        ]
        | inr a ↦ elim k [
          | inl b ↦ absurd (atom_excl (pred n) bytes inner known (at + lead_len form) g a.0 b)
          | inr b ↦ zero_uniq bytes (end_at bytes (at + lead_len form)) (at + lead_len form + padded (8 + size_at bytes (at + lead_len form))) f g a.1 b.1
        ]
      ]

  sized_uniq : (at : ℕ) (f g : AtomFault) → MatchBool (no_size at) (f ≡ BadSize (at + lead_len form)) (rest at f)
      → MatchBool (no_size at) (g ≡ BadSize (at + lead_len form)) (rest at g) → f ≡ g
  sized_uniq at f g h k =
      elim (chosen (no_size at) (f ≡ BadSize (at + lead_len form)) (rest at f) h) [
        | inl x ↦ x.1 ∙ sym (taken (no_size at) (g ≡ BadSize (at + lead_len form)) (rest at g) x.0 k)
        | inr x ↦ rest_uniq at f g x.1 (passed (no_size at) (g ≡ BadSize (at + lead_len form)) (rest at g) x.0 k)
      ]

  abbrev sized : ℕ → AtomFault → Type 0
  sized at f = MatchBool (no_size at) (f ≡ BadSize (at + lead_len form)) (rest at f)

  part_uniq : (at : ℕ) (f g : AtomFault) → PartFaultBy inner n bytes form at end f → PartFaultBy inner n bytes form at end g → f ≡ g
  part_uniq at f g h k =
      elim (chosen (no_header at) (f ≡ BadSize at) (MatchBool (n == 0) (f ≡ Depth) (sized at f)) h) [
        | inl x ↦ x.1 ∙ sym (taken (no_header at) (g ≡ BadSize at) (MatchBool (n == 0) (g ≡ Depth) (sized at g)) x.0 k)
        | inr x ↦
            let k' = passed (no_header at) (g ≡ BadSize at) (MatchBool (n == 0) (g ≡ Depth) (sized at g)) x.0 k in
            elim (chosen (n == 0) (f ≡ Depth) (sized at f) x.1) [
              | inl y ↦ y.1 ∙ sym (taken (n == 0) (g ≡ Depth) (sized at g) y.0 k')
              | inr y ↦ sized_uniq at f g y.1 (passed (n == 0) (g ≡ Depth) (sized at g) y.0 k')
            ]
      ]

  part_excl : (at to : ℕ) (f : AtomFault) → 0 < n → to ≤ end → IsPartThere n bytes form at to → PartFaultBy inner n bytes form at end f → ⊥
  part_excl at to f deep le there wrong =
      let says = part_says n bytes form at to there in
      elim (chosen (no_header at) (f ≡ BadSize at) (MatchBool (n == 0) (f ≡ Depth) (sized at f)) wrong) [
        | inl x ↦ omega (arith, ltb-true (end - at) (lead_len form + 8) x.0, says.next, padded_above (8 + size_at bytes (at + lead_len form)))
        | inr x ↦ elim (chosen (n == 0) (f ≡ Depth) (sized at f) x.1) [
          | inl y ↦ omega (arith, eqb-true n 0 y.0)
          | inr y ↦ elim (chosen (no_size at) (f ≡ BadSize (at + lead_len form)) (rest at f) y.1) [
            | inl z ↦ omega (arith, ltb-true end (at + lead_len form + padded (8 + size_at bytes (at + lead_len form))) z.0, says.next)
            | inr z ↦ elim z.1 [
              | inl atom ↦ atom_excl (pred n) bytes inner known (at + lead_len form) f says.atom atom
              | inr pad ↦ zero_excl bytes (end_at bytes (at + lead_len form)) (at + lead_len form + padded (8 + size_at bytes (at + lead_len form))) f
                  (subst (λ k. AreZero bytes (end_at bytes (at + lead_len form)) k) says.next says.zeros) pad.1
            ]
          ]
        ]
      ]

  abbrev step : ℕ → ℕ
  step at = at + lead_len form + padded (8 + size_at bytes (at + lead_len form))

  -- the first of some parts, and the others from the next place on
  record Cut (from to : ℕ) (ps : Parts) : Type 0 where
    one : IsPartThere n bytes form from (step from)
    others : Stands bytes (step from) to (parts_of ps)

  cut : (from to : ℕ) (l : _) (v : Value) (ps : Parts) → PartsFit n form (part l v ps) → Stands bytes from to (parts_of (part l v ps)) → Cut from to ps
  cut from to l v ps fits stands =
      let next = from + length (part_of l v) in
      let first : Stands bytes from next (part_of l v) = first_stands bytes from next to (part_of l v) (parts_of ps) refl stands in
      let others : Stands bytes next to (parts_of ps) = second_stands bytes from next to (part_of l v) (parts_of ps) refl stands in
      let there : IsPartThere n bytes form from next = (l, v, fits.1, fits.2, first) in
      let says = part_says n bytes form from next there in
      record {
        one = subst (λ k. IsPartThere n bytes form from k) says.next there;
        others = subst (λ k. Stands bytes k to (parts_of ps)) says.next others;
      }

  forward : (from to : ℕ) (ps : Parts) → Stands bytes from to (parts_of ps) → from ≤ to
  forward from to ps stands = omega (arith, stands.ends)

  parts_uniq : (ps qs : Parts) (from a b : ℕ) (f g : AtomFault) → PartsFit n form ps → PartsFit n form qs → Stands bytes from a (parts_of ps) → Stands bytes from b (parts_of qs)
      → a < end → b < end → PartFaultBy inner n bytes form a end f → PartFaultBy inner n bytes form b end g → f ≡ g
  parts_uniq none none from a b f g fits fit s t la lb h k =
      let e : a ≡ b = omega (arith, s.ends, t.ends) in
      part_uniq b f g (subst (λ p. PartFaultBy inner n bytes form p end f) e h) k
  parts_uniq none (part l v qs) from a b f g fits fit s t la lb h k =
      let c = cut from b l v qs fit t in
      let e : a ≡ from = omega (arith, s.ends) in
      absurd (part_excl from (step from) f fit.0 (omega (arith, forward (step from) b qs c.others)) c.one (subst (λ p. PartFaultBy inner n bytes form p end f) e h))
  parts_uniq (part l v ps) none from a b f g fits fit s t la lb h k =
      let c = cut from a l v ps fits s in
      let e : b ≡ from = omega (arith, t.ends) in
      absurd (part_excl from (step from) g fits.0 (omega (arith, forward (step from) a ps c.others)) c.one (subst (λ p. PartFaultBy inner n bytes form p end g) e k))
  parts_uniq (part l v ps) (part j w qs) from a b f g fits fit s t la lb h k =
      parts_uniq ps qs (step from) a b f g fits.3 fit.3 (cut from a l v ps fits s).others (cut from b j w qs fit t).others la lb h k

  parts_excl : (ps qs : Parts) (from a : ℕ) (f : AtomFault) → PartsFit n form ps → PartsFit n form qs → Stands bytes from a (parts_of ps) → Stands bytes from end (parts_of qs)
      → a < end → PartFaultBy inner n bytes form a end f → ⊥
  parts_excl none none from a f fits fit s t la h = omega (arith, s.ends, t.ends)
  parts_excl none (part l v qs) from a f fits fit s t la h =
      let c = cut from end l v qs fit t in
      let e : a ≡ from = omega (arith, s.ends) in
      part_excl from (step from) f fit.0 (forward (step from) end qs c.others) c.one (subst (λ p. PartFaultBy inner n bytes form p end f) e h)
  parts_excl (part l v ps) none from a f fits fit s t la h = omega (arith, s.ends, t.ends)
  parts_excl (part l v ps) (part j w qs) from a f fits fit s t la h =
      parts_excl ps qs (step from) a f fits.3 fit.3 (cut from a l v ps fits s).others (cut from end j w qs fit t).others la h

parts_decided : (n : ℕ) (bytes : List ℕ) (inner : Judge) → Decided (pred n) bytes inner → Decided n bytes (PartsFaultBy inner n bytes)
parts_decided n bytes inner known = record {
  excl = λ form from end f there wrong.
      parts_excl n bytes inner known form end wrong.0 there.0 from wrong.1 f wrong.2 there.1 wrong.3 there.2 wrong.4 wrong.5;
  uniq = λ form from end f g h k.
      parts_uniq n bytes inner known form end h.0 k.0 from h.1 k.1 f g h.2 k.2 h.3 k.3 h.4 k.4 h.5 k.5;
}

nowhere : (bytes : List ℕ) → Decided 0 bytes (λ form from end fault. ⊥)
nowhere bytes = record { excl = λ form from end f there wrong. wrong; uniq = λ form from end f g h k. absurd h }

decided : (n : ℕ) (bytes : List ℕ) → Decided n bytes (PartsFault n bytes)
decided zero bytes = parts_decided zero bytes (λ form from end fault. ⊥) (nowhere bytes)
decided (suc n) bytes = parts_decided (suc n) bytes (PartsFault n bytes) (decided n bytes)

-- ---- the outer atom

neither : (a b : Bool) → a ≡ false → b ≡ false → (a || b) ≡ false
neither true b e f = absurd cc
neither false b e f = f

abbrev judge : List ℕ → Judge
judge bytes = PartsFault 16 bytes

abbrev outer : List ℕ → AtomFault → Type 0
outer bytes f =
    AtomFaultBy (judge bytes) bytes 0 f
    ⊎ (StandsAtom 16 bytes 0 (end_at bytes 0) × (end_at bytes 0 < length bytes) × (f ≡ BadSize (end_at bytes 0)))

record Whole (bytes : List ℕ) : Type 0 where
  long : is_short bytes ≡ false
  last : end_at bytes 0 ≡ length bytes
  atom : StandsAtom 16 bytes 0 (end_at bytes 0)

whole : (bytes : List ℕ) (v : Value) → Spells bytes v → Whole bytes
whole bytes v spells =
    let all : slice_range bytes 0 (length bytes) ≡ bytes = take_all (length bytes - 0) bytes (omega arith) in
    let size : length bytes ≡ length (atom_of v) = ap length spells.bytes_are in
    let stands : Stands bytes 0 (length bytes) (atom_of v) = record { ends = omega (arith, size); text_is = all ∙ spells.bytes_are } in
    let says = atom_says 16 bytes 0 (length bytes) v spells.fits stands in
    record {
      long = neither (nat_lt (length bytes) 8) (nat_lt (length bytes) (end_at bytes 0)) (le-ltb (length bytes) 8 (omega (arith, says.last)))
          (le-ltb (length bytes) (end_at bytes 0) (omega (arith, says.last)));
      last = sym says.last;
      atom = (v, spells.fits, subst (λ k. Stands bytes 0 k (atom_of v)) says.last stands);
    }

pub no_fault : (bytes : List ℕ) (v : Value) (f : AtomFault) → Spells bytes v → HasFault bytes f → ⊥
no_fault bytes v f spells wrong =
    let w = whole bytes v spells in
    elim (passed (is_short bytes) (f ≡ Short) (outer bytes f) w.long wrong) [
      | inl atom ↦ atom_excl 16 bytes (judge bytes) (decided 16 bytes) 0 f w.atom atom
      | inr more ↦ omega (arith, more.1, w.last)
    ]

pub one_fault : (bytes : List ℕ) (f g : AtomFault) → HasFault bytes f → HasFault bytes g → f ≡ g
one_fault bytes f g h k =
    elim (chosen (is_short bytes) (f ≡ Short) (outer bytes f) h) [
      | inl x ↦ x.1 ∙ sym (taken (is_short bytes) (g ≡ Short) (outer bytes g) x.0 k)
      | inr x ↦ elim x.1 [
        | inl a ↦ elim (passed (is_short bytes) (g ≡ Short) (outer bytes g) x.0 k) [
          | inl b ↦ atom_uniq 16 bytes (judge bytes) (decided 16 bytes) 0 f g a b
          | inr b ↦ absurd (atom_excl 16 bytes (judge bytes) (decided 16 bytes) 0 f b.0 a)
        ]
        | inr a ↦ elim (passed (is_short bytes) (g ≡ Short) (outer bytes g) x.0 k) [
          | inl b ↦ absurd (atom_excl 16 bytes (judge bytes) (decided 16 bytes) 0 g a.0 b)
          | inr b ↦ a.2 ∙ sym b.2
        ]
      ]
    ]
