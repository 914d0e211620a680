-- The outer atom.
use Rattle.std.proofs.Common.{◌≡◌, ℕ, ◌+◌, ◌-◌, ◌<◌, ◌≤◌, Bool, true, false, List, length, slice_range, nat_lt, ◌⊎◌, inl, inr, refl, sym, ◌∙◌, subst, arith}
use Rattle.std.specs.Prelude.{◌||◌}
use Rattle.std.proofs.lemmas.Bool.{le-ltb}
use Rattle.std.proofs.lemmas.List.{take_all}
use Rattle.atom_core.specs.declared.fault.AtomFault.{AtomFault}
use Rattle.atom_core.specs.declared.fault.AtomFault.TheVariants.{Short, BadSize}
use Rattle.atom_core.specs.declared.form.Form.{Form}
use Rattle.atom_core.specs.Form.{is_container, lead_len}
use Rattle.atom_core.specs.Content.{IsOwn, end_at}
use Rattle.atom_core.specs.Parts.{AtomFaultBy, PartsFault, StandsAtom}
use Rattle.atom_core.specs.Steps.{ArePartsThere}
use Rattle.atom_core.specs.Answer.{IsAtom, is_short, HasFault}
use Rattle.atom_core.proofs.Numbers.{IsBytes}
use Rattle.atom_core.proofs.Plains.{stands_plain}
use Rattle.atom_core.proofs.Entering.{not_chosen, holding_stands}

neither : (a b : Bool) → a ≡ false → b ≡ false → (a || b) ≡ false
neither true b e f = absurd cc
neither false b e f = f

module _ (bytes : List ℕ) (h : IsBytes bytes) (header : 8 ≤ length bytes) (body : end_at bytes 0 ≤ length bytes) where
  long : is_short bytes ≡ false
  long = neither (nat_lt (length bytes) 8) (nat_lt (length bytes) (end_at bytes 0)) (le-ltb (length bytes) 8 header) (le-ltb (length bytes) (end_at bytes 0) body)

  reach : (fault : AtomFault)
      → AtomFaultBy (PartsFault 16 bytes) bytes 0 fault ⊎ (StandsAtom 16 bytes 0 (end_at bytes 0) × (end_at bytes 0 < length bytes) × (fault ≡ BadSize (end_at bytes 0)))
      → HasFault bytes fault
  reach fault found = not_chosen (is_short bytes) (fault ≡ Short) _ long found

  -- a part of the outer atom has a fault
  pub parts_wrong : (form : Form) → IsOwn bytes 0 form → is_container form ≡ true → (fault : AtomFault)
      → PartsFault 16 bytes form (8 + lead_len form) (end_at bytes 0) fault → HasFault bytes fault
  parts_wrong form own e fault wrong =
      let P : Form → Type 0 = λ g. IsOwn bytes 0 g × (is_container g ≡ true) × PartsFault 16 bytes g (8 + lead_len g) (end_at bytes 0) fault in
      reach fault (inl (inr (subst P own.form_is (own, e, wrong))))

  pub plain_there : (form : Form) → IsOwn bytes 0 form → is_container form ≡ false → StandsAtom 16 bytes 0 (end_at bytes 0)
  plain_there form own leaf = stands_plain bytes 0 h header body 16 form own leaf

  pub holding_there : (form : Form) → IsOwn bytes 0 form → is_container form ≡ true → ArePartsThere 16 bytes form (8 + lead_len form) (end_at bytes 0)
      → StandsAtom 16 bytes 0 (end_at bytes 0)
  holding_there form own e there =
      let atom = holding_stands 16 bytes 0 form h header body own e there in
      (atom.value, atom.fits, atom.stands)

  -- bytes follow the outer atom
  pub followed : StandsAtom 16 bytes 0 (end_at bytes 0) → end_at bytes 0 < length bytes → HasFault bytes (BadSize (end_at bytes 0))
  followed atom more = reach (BadSize (end_at bytes 0)) (inr (atom, more, refl))

  -- the outer atom is all there is
  pub alone : StandsAtom 16 bytes 0 (end_at bytes 0) → length bytes ≤ end_at bytes 0 → IsAtom bytes
  alone atom last =
      let whole : slice_range bytes 0 (end_at bytes 0) ≡ bytes = take_all (end_at bytes 0 - 0) bytes (omega arith) in
      (atom.0, record { fits = atom.1; bytes_are = sym whole ∙ (atom.2).text_is })
