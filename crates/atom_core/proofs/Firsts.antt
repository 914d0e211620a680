-- The first of some atoms in bytes that spell them.
use Rattle.std.proofs.Common.{◌≡◌, ◌≢◌, ℕ, pred, ◌+◌, ◌-◌, ◌≤◌, List, ◌++◌, length, drop, take, slice_range, replicate, Some, None, refl, ap, ◌∙◌, append_assoc, arith}
use Rattle.std.proofs.lemmas.List.{take_all, take_at, drop_at, length-append, nil_from_length}
use Rattle.atom_core.specs.declared.form.Form.{Form}
use Rattle.atom_core.specs.declared.view.AtomView.{AtomView}
use Rattle.atom_core.specs.Place.{size_at, padded, Stands}
use Rattle.atom_core.specs.Value.{Value, plain, holding, bare, keyed, timed, Parts, none, part}
use Rattle.atom_core.specs.Spelling.{atom_of, parts_of, with_padding}
use Rattle.atom_core.specs.Fits.{Fits, PartsFit}
use Rattle.atom_core.specs.Answer.{IsAtom}
use Rattle.atom_core.specs.Atoms.{SpellAtoms, AreAtoms}
use Rattle.atom_core.specs.Iterating.{TakesFirst}
use Rattle.atom_core.proofs.Padding.{padded_above, with_padding-length}
use Rattle.atom_core.proofs.OneValue.{part_long}
use Rattle.atom_core.proofs.Reading.{first_stands, atom_says}

-- what fits in fewer containers fits in more
mutual
  pub fits_more : (n m : ℕ) (v : Value) → n ≤ m → Fits n v → Fits m v
  fits_more n m (plain p) le fits = fits
  fits_more n m (holding c ps) le fits = (fits.0, fits.1, parts_fit_more n m _ ps le fits.2)

  parts_fit_more : (n m : ℕ) (form : Form) (ps : Parts) → n ≤ m → PartsFit n form ps → PartsFit m form ps
  parts_fit_more n m form none le fits = tt
  parts_fit_more n m form (part l v ps) le fits =
      let below : pred n ≤ pred m = omega (arith, le) in
      (omega (arith, le, fits.0), fits.1, fits_more (pred n) (pred m) v below fits.2, parts_fit_more n m form ps le fits.3)

pub record First (bytes : List ℕ) (v : Value) (others : Parts) : Type 0 where
  pub header : 8 ≤ length bytes
  pub fits : 8 + size_at bytes 0 ≤ length bytes
  pub next : padded (8 + size_at bytes 0) ≤ length bytes
  pub atom : take (8 + size_at bytes 0) bytes ≡ atom_of v
  pub rest : drop (padded (8 + size_at bytes 0)) bytes ≡ parts_of others

pub first : (bytes : List ℕ) (v : Value) (others : Parts) → Fits 15 v → bytes ≡ with_padding (atom_of v) ++ parts_of others → First bytes v others
first bytes v others fits e =
    let text = atom_of v in
    let tail : List ℕ = replicate (padded (length text) - length text) 0 in
    let spread : bytes ≡ text ++ (tail ++ parts_of others) = e ∙ append_assoc text tail (parts_of others) in
    let long : length bytes ≡ padded (length text) + length (parts_of others) =
    ap length e ∙ length-append (with_padding text) (parts_of others) ∙ ap (λ n. n + length (parts_of others)) (with_padding-length text) in
    let all : slice_range bytes 0 (length bytes) ≡ bytes = take_all (length bytes - 0) bytes (omega arith) in
    let whole : Stands bytes 0 (length bytes) (text ++ (tail ++ parts_of others)) = record { ends = omega (arith, ap length spread); text_is = all ∙ spread } in
    let stands : Stands bytes 0 (length text) text = first_stands bytes 0 (length text) (length bytes) text (tail ++ parts_of others) (omega arith) whole in
    let says = atom_says 15 bytes 0 (length text) v fits stands in
    let size : 8 + size_at bytes 0 ≡ length text = omega (arith, says.last) in
    let room = padded_above (length text) in
    let same : padded (8 + size_at bytes 0) ≡ padded (length text) = ap padded size in
    record {
      header = omega (arith, size, long, room);
      fits = omega (arith, size, long, room);
      next = omega (arith, same, long);
      atom = ap (λ n. take n bytes) size ∙ ap (take (length text)) spread ∙ take_at text (tail ++ parts_of others) (length text) refl;
      rest = ap (λ n. drop n bytes) same ∙ ap (drop (padded (length text))) e ∙ drop_at (with_padding text) (parts_of others) (padded (length text)) (with_padding-length text);
    }

-- of bytes that aren't empty
pub record Cut (bytes : List ℕ) : Type 0 where
  pub header : 8 ≤ length bytes
  pub fits : 8 + size_at bytes 0 ≤ length bytes
  pub next : padded (8 + size_at bytes 0) ≤ length bytes
  pub atom : IsAtom (take (8 + size_at bytes 0) bytes)
  pub rest : AreAtoms (drop (padded (8 + size_at bytes 0)) bytes)

pub cut_of : (bytes : List ℕ) (ps : Parts) → SpellAtoms bytes ps → length bytes ≢ 0 → Cut bytes
cut_of bytes none spells some = absurd (some (ap length spells.1))
cut_of bytes (part bare v ps) spells some =
    let f = first bytes v ps (spells.0.2) spells.1 in
    record {
      header = f.header;
      fits = f.fits;
      next = f.next;
      atom = (v, record { fits = fits_more 15 16 v (omega arith) (spells.0.2); bytes_are = f.atom });
      rest = (ps, (spells.0.3, f.rest));
    }
cut_of bytes (part (keyed key context) v ps) spells some = absurd (spells.0.1)
cut_of bytes (part (timed time) v ps) spells some = absurd (spells.0.1)

pub takes_first : (bytes : List ℕ) (ps : Parts) (view : AtomView) (after : List ℕ) → SpellAtoms bytes ps → length bytes ≢ 0
    → view.bytes.now ≡ take (8 + size_at bytes 0) bytes → after ≡ drop (padded (8 + size_at bytes 0)) bytes → TakesFirst ps (Some view) after
takes_first bytes none view after spells some a b = absurd (some (ap length spells.1))
takes_first bytes (part bare v ps) view after spells some a b =
    let f = first bytes v ps (spells.0.2) spells.1 in
    (a ∙ f.atom, (spells.0.3, b ∙ f.rest))
takes_first bytes (part (keyed key context) v ps) view after spells some a b = absurd (spells.0.1)
takes_first bytes (part (timed time) v ps) view after spells some a b = absurd (spells.0.1)

-- of empty bytes
pub takes_none : (bytes : List ℕ) (ps : Parts) → SpellAtoms bytes ps → length bytes ≡ 0 → TakesFirst ps None bytes
takes_none bytes none spells empty = nil_from_length bytes empty
takes_none bytes (part l v ps) spells empty = omega (arith, part_long l v (parts_of ps), empty, ap length spells.1)
