-- The steps of the reader: a part that is whole, one that is entered, and one with a fault.
use Rattle.std.proofs.Common.{◌≡◌, ℕ, zero, suc, pred, ◌+◌, ◌-◌, ◌^◌, ◌<◌, ◌≤◌, ◌==◌, Bool, true, false, List, ◌++◌, length, nat_lt, MatchBool, ◌⊎◌, inl, inr, sym, ap, subst, arith}
use Rattle.std.proofs.lemmas.Bool.{le-ltb, leb-true}
use Rattle.std.proofs.Math.Dec.{eqb-suc-zero}
use Rattle.atom_core.specs.declared.fault.AtomFault.{AtomFault}
use Rattle.atom_core.specs.declared.fault.AtomFault.TheVariants.{BadSize, Depth}
use Rattle.atom_core.specs.declared.form.Form.{Form}
use Rattle.atom_core.specs.declared.form.Form.TheVariants.{Any, Four, Eight, Text, Literal, Vector, Tuple, Object, Sequence}
use Rattle.atom_core.specs.Form.{allows_size, is_container, lead_len}
use Rattle.atom_core.specs.Place.{number_at, size_at, kind_at, padded, Stands, AreZero}
use Rattle.atom_core.specs.Value.{Value, holding}
use Rattle.atom_core.specs.Spelling.{container_kind, container_head, parts_of, atom_of, with_padding, lead_bytes}
use Rattle.atom_core.specs.Fits.{Fits, PartsFit}
use Rattle.atom_core.specs.Content.{IsOwn, OwnFault, ZeroFault, end_at}
use Rattle.atom_core.specs.Parts.{AtomFaultBy, StandsAtom, Inner, PartFault}
use Rattle.atom_core.specs.Steps.{ArePartsThere, IsPartThere, Enters}
use Rattle.atom_core.proofs.Ranges.{behind}
use Rattle.atom_core.proofs.TypeForms.{HasForm, known}
use Rattle.atom_core.proofs.Numbers.{IsBytes, number_below}
use Rattle.atom_core.proofs.Plains.{framed_stands, stands_plain}
use Rattle.atom_core.proofs.Padding.{padded_above, padding_stands, container_unpadded, lead_stands, head_stands}

-- a test that failed
pub not_chosen : (b : Bool) (P Q : Type 0) → b ≡ false → Q → MatchBool b P Q
not_chosen true P Q e q = absurd cc
not_chosen false P Q e q = q

not_zero : (n : ℕ) → 0 < n → (n == 0) ≡ false
not_zero zero h = absurd (omega arith)
not_zero (suc n) h = eqb-suc-zero n

-- the same places by other names
pub zero_fault_at : (bytes : List ℕ) (a b c d : ℕ) (fault : AtomFault) → a ≡ c → b ≡ d → ZeroFault bytes a b fault → ZeroFault bytes c d fault
zero_fault_at bytes a b c d fault e f h =
    let first : ZeroFault bytes c b fault = subst (λ k. ZeroFault bytes k b fault) e h in
    subst (λ k. ZeroFault bytes c k fault) f first

pub zero_at : (bytes : List ℕ) (a b c d : ℕ) → a ≡ c → b ≡ d → AreZero bytes a b → AreZero bytes c d
zero_at bytes a b c d e f h =
    let first : AreZero bytes c b = subst (λ k. AreZero bytes k b) e h in
    subst (λ k. AreZero bytes c k) f first

-- what a container has before its parts is in its size
pub head_fits : (form : Form) (size element : ℕ) → allows_size form size element ≡ true → lead_len form ≤ size
head_fits Any size element e = omega arith
head_fits Four size element e = omega arith
head_fits Eight size element e = omega arith
head_fits Text size element e = omega arith
head_fits Literal size element e = omega arith
head_fits Vector size element e = omega arith
head_fits Tuple size element e = omega arith
head_fits Object size element e = leb-true 8 size e
head_fits Sequence size element e = leb-true 8 size e

-- a container with parts that stand there is an atom that stands there
pub record HoldingAt (n : ℕ) (bytes : List ℕ) (header last : ℕ) : Type 0 where
  pub value : Value
  pub fits : Fits n value
  pub stands : Stands bytes header last (atom_of value)
  pub unpadded : padded (length (atom_of value)) ≡ length (atom_of value)

pub holding_stands : (n : ℕ) (bytes : List ℕ) (header : ℕ) (form : Form) → IsBytes bytes → header + 8 ≤ length bytes → end_at bytes header ≤ length bytes
    → IsOwn bytes header form → is_container form ≡ true
    → ArePartsThere n bytes form (header + 8 + lead_len form) (end_at bytes header) → HoldingAt n bytes header (end_at bytes header)
holding_stands n bytes header form h le within own e there =
    let first : header + 8 + lead_len form ≤ length bytes = omega (arith, head_fits form (size_at bytes header) (number_at bytes (header + 8)) own.allowed) in
    let head = head_stands bytes header form h first (subst (HasForm (kind_at bytes header)) (sym own.form_is) (known (kind_at bytes header))) own.content e in
    let parts = there.0 in
    let body = container_head head.container ++ parts_of parts in
    let stands : Stands bytes (header + 8) (end_at bytes header) body =
    behind bytes (header + 8) (header + 8 + lead_len form) (end_at bytes header) (container_head head.container) (parts_of parts) head.stands there.2 in
    let small : length body < 2 ^ 32 = omega (arith, stands.ends, number_below bytes header h) in
    record {
      value = holding head.container parts;
      fits = (head.fits, small, subst (λ f. PartsFit n f parts) (sym head.form_is) there.1);
      stands = framed_stands bytes header (container_kind head.container) body h le within head.kind stands;
      unpadded = container_unpadded head.container parts (container_kind head.container);
    }

module _ (n : ℕ) (bytes : List ℕ) (form : Form) (at end : ℕ) (h : IsBytes bytes) (within : end ≤ length bytes) (holds : is_container form ≡ true)
    (room : lead_len form + 8 ≤ end - at) (deep : 0 < n) (fits : at + lead_len form + padded (8 + size_at bytes (at + lead_len form)) ≤ end) where
  abbrev header : ℕ
  header = at + lead_len form

  abbrev last : ℕ
  last = end_at bytes header

  abbrev next : ℕ
  next = header + padded (8 + size_at bytes header)

  last_next : last ≤ next
  last_next = omega (arith, padded_above (8 + size_at bytes header))

  reach : (fault : AtomFault) → AtomFaultBy (Inner n bytes) bytes header fault ⊎ (StandsAtom (pred n) bytes header last × ZeroFault bytes last next fault)
      → PartFault n bytes form at end fault
  reach fault found =
      not_chosen (nat_lt (end - at) (lead_len form + 8)) (fault ≡ BadSize at) _ (le-ltb (end - at) (lead_len form + 8) room)
      (not_chosen (n == 0) (fault ≡ Depth) _ (not_zero n deep)
      (not_chosen (nat_lt end next) (fault ≡ BadSize header) _ (le-ltb end next fits) found))

  pub own_fault : (fault : AtomFault) → OwnFault bytes header fault → PartFault n bytes form at end fault
  own_fault fault wrong = reach fault (inl (inl wrong))

  header_inside : header + 8 ≤ length bytes
  header_inside = omega arith

  last_inside : last ≤ length bytes
  last_inside = omega (arith, last_next)

  pub pad_fault : (form' : Form) → IsOwn bytes header form' → is_container form' ≡ false → (fault : AtomFault) → ZeroFault bytes last next fault
      → PartFault n bytes form at end fault
  pad_fault form' own leaf fault wrong = reach fault (inr (stands_plain bytes header h header_inside last_inside (pred n) form' own leaf, wrong))

  -- a lead and an atom with its padding
  part_stands : (value : Value) (to : ℕ) → Fits (pred n) value → Stands bytes header to (with_padding (atom_of value)) → IsPartThere n bytes form at to
  part_stands value to fit stands =
      let lead = lead_stands bytes at form h (omega arith) holds in
      (lead.lead, value, lead.fits, fit, behind bytes at header to (lead_bytes lead.lead) (with_padding (atom_of value)) lead.stands stands)

  pub past : (form' : Form) → IsOwn bytes header form' → is_container form' ≡ false → AreZero bytes last next → IsPartThere n bytes form at next
  past form' own leaf all =
      let atom = stands_plain bytes header h header_inside last_inside (pred n) form' own leaf in
      let text = atom_of atom.0 in
      let long : 8 + size_at bytes header ≡ length text = omega (arith, (atom.2).ends) in
      let place : next ≡ header + padded (length text) = ap (λ k. header + padded k) long in
      part_stands atom.0 next atom.1
      (subst (λ k. Stands bytes header k (with_padding text)) (sym place)
      (padding_stands bytes header last text atom.2 (omega (arith, place)) (subst (λ k. AreZero bytes last k) place all)))

  whole : (form' : Form) → IsOwn bytes header form' → is_container form' ≡ true → ArePartsThere (pred n) bytes form' (header + 8 + lead_len form') last
      → IsPartThere n bytes form at last
  whole form' own e there =
      let atom = holding_stands (pred n) bytes header form' h header_inside last_inside own e there in
      let text = atom_of atom.value in
      let place : header + padded (length text) ≡ last = omega (arith, atom.unpadded, atom.stands.ends) in
      part_stands atom.value last atom.fits
      (subst (λ k. Stands bytes header k (with_padding text)) place
      (padding_stands bytes header last text atom.stands (omega (arith, place, last_inside))
      (λ k low high. absurd (omega (arith, place)))))

  inner_fault : (form' : Form) → IsOwn bytes header form' → is_container form' ≡ true → (fault : AtomFault)
      → Inner n bytes form' (header + 8 + lead_len form') last fault → PartFault n bytes form at end fault
  inner_fault form' own e fault wrong =
      let P : Form → Type 0 = λ g. IsOwn bytes header g × (is_container g ≡ true) × Inner n bytes g (header + 8 + lead_len g) last fault in
      reach fault (inl (inr (subst P own.form_is (own, e, wrong))))

  pub enters : (form' : Form) → IsOwn bytes header form' → is_container form' ≡ true → Enters n bytes form at end form' (header + 8 + lead_len form') last
  enters form' own e = record {
    holds = e;
    begins = omega arith;
    ends = omega (arith, head_fits form' (size_at bytes header) (number_at bytes (header + 8)) own.allowed);
    inside = omega (arith, last_next);
    deep = deep;
    whole = whole form' own e;
    fault = inner_fault form' own e;
  }
