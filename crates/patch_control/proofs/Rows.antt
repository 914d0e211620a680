-- The properties of a body, written one after the other.
use Rattle.std.proofs.Common.{◌≡◌, ℕ, ◌+◌, ◌-◌, ◌<◌, ◌≤◌, false, List, [], ◌∷◌, ◌++◌, length, refl, sym, ap, ◌∙◌, subst, append_assoc, length-append, arith}
use Rattle.std.proofs.lemmas.List.{append-nil}
use Rattle.atom_core.specs.Value.{keyed}
use Rattle.atom_core.specs.Spelling.{part_of, parts_of}
use Rattle.atom_forge.specs.declared.level.Holds.TheVariants.{Properties}
use Rattle.atom_forge.specs.Forged.{Forged, left, innermost, TakesLead, with_piece}
use Rattle.patch_control.specs.declared.value.Value.{Value as Number}
use Rattle.patch_control.specs.Written.{value_of, rows_in}
use Rattle.patch_control.specs.Writing.{Extends}
use Rattle.patch_control.proofs.Filling.{extends_more}

-- some of these rows are written, and the others are left
pub record Goes (old : Forged) (all : List (ℕ × Number)) (forge : Forged) (rest : List (ℕ × Number)) : Type 0 where
  pub done : List ℕ
  pub is : forge ≡ with_piece old done false
  pub split : done ++ parts_of (rows_in rest) ≡ parts_of (rows_in all)
  pub fits : length done ≤ left old

pub goes_first : (old : Forged) (all : List (ℕ × Number)) → old.waits ≡ false → Goes old all old all
goes_first old all still = record {
  done = [];
  is =
      ap (λ w. record { room = old.room; bytes = old.bytes; levels = old.levels; waits = w }) still
      ∙ ap (λ (b : List ℕ). record { room = old.room; bytes = b; levels = old.levels; waits = false }) (sym (append-nil old.bytes));
  split = refl;
  fits = omega arith;
}

pub goes_lead : (old : Forged) (all : List (ℕ × Number)) (forge : Forged) (rest : List (ℕ × Number)) → Goes old all forge rest → TakesLead old Properties
    → TakesLead forge Properties
goes_lead old all forge rest h takes = (ap (λ (f : Forged). innermost f.levels) h.is ∙ takes.0, ap (λ (f : Forged). f.waits) h.is)

pub goes_deep : (old : Forged) (all : List (ℕ × Number)) (forge : Forged) (rest : List (ℕ × Number)) → Goes old all forge rest
    → length forge.levels ≡ length old.levels
goes_deep old all forge rest h = ap (λ (f : Forged). length f.levels) h.is

goes_left : (old : Forged) (all : List (ℕ × Number)) (forge : Forged) (rest : List (ℕ × Number)) → (h : Goes old all forge rest)
    → left forge ≡ left old - length h.done
goes_left old all forge rest h =
    let bytes : length forge.bytes ≡ length old.bytes + length h.done = ap (λ (f : Forged). length f.bytes) h.is ∙ length-append old.bytes h.done in
    let room : forge.room ≡ old.room = ap (λ (f : Forged). f.room) h.is in
    omega (arith, bytes, room)

pub goes_on : (old : Forged) (all : List (ℕ × Number)) (forge new : Forged) (row : ℕ × Number) (left_rows rest : List (ℕ × Number)) → left_rows ≡ row ∷ rest
    → Goes old all forge left_rows → length (part_of (keyed row.0 0) (value_of row.1)) ≤ left forge
    → new ≡ with_piece forge (part_of (keyed row.0 0) (value_of row.1)) false → Goes old all new rest
goes_on old all forge new row left_rows rest same before fits is =
    let h : Goes old all forge (row ∷ rest) = subst (λ rows. Goes old all forge rows) same before in
    let piece = part_of (keyed row.0 0) (value_of row.1) in
    record {
      done = h.done ++ piece;
      is =
          is ∙ ap (λ (f : Forged). with_piece f piece false) h.is
          ∙ ap (λ (b : List ℕ). record { room = old.room; bytes = b; levels = old.levels; waits = false }) (append_assoc old.bytes h.done piece);
      split = append_assoc h.done piece (parts_of (rows_in rest)) ∙ h.split;
      fits = omega (arith, fits, h.fits, goes_left old all forge (row ∷ rest) h, length-append h.done piece);
    }

pub goes_fails : (old : Forged) (all : List (ℕ × Number)) (forge new : Forged) (row : ℕ × Number) (left_rows rest : List (ℕ × Number)) → left_rows ≡ row ∷ rest
    → Goes old all forge left_rows → left forge < length (part_of (keyed row.0 0) (value_of row.1)) → Extends forge new
    → (left old < length (parts_of (rows_in all))) × Extends old new
goes_fails old all forge new row left_rows rest same before full more =
    let h : Goes old all forge (row ∷ rest) = subst (λ rows. Goes old all forge rows) same before in
    let piece = part_of (keyed row.0 0) (value_of row.1) in
    let whole : length h.done + (length piece + length (parts_of (rows_in rest))) ≡ length (parts_of (rows_in all)) =
    ap (λ n. length h.done + n) (sym (length-append piece (parts_of (rows_in rest))))
    ∙ sym (length-append h.done (piece ++ parts_of (rows_in rest)))
    ∙ ap length h.split in
    let mid : Extends old forge = record {
      bytes = h.done;
      levels = [];
      room_is = ap (λ (f : Forged). f.room) h.is;
      bytes_are = ap (λ (f : Forged). f.bytes) h.is;
      levels_are = ap (λ (f : Forged). f.levels) h.is ∙ sym (append-nil old.levels);
    } in (
      omega (arith, full, whole, goes_left old all forge (row ∷ rest) h),
      extends_more old forge new mid more,
    )

pub goes_end : (old : Forged) (all : List (ℕ × Number)) (forge : Forged) (rest : List (ℕ × Number)) → rest ≡ [] → Goes old all forge rest
    → (length (parts_of (rows_in all)) ≤ left old) × (forge ≡ with_piece old (parts_of (rows_in all)) false)
goes_end old all forge rest same before =
    let h : Goes old all forge [] = subst (λ rows. Goes old all forge rows) same before in
    let whole : h.done ≡ parts_of (rows_in all) = sym (append-nil h.done) ∙ h.split in (
      omega (arith, h.fits, ap length whole),
      h.is ∙ ap (λ (b : List ℕ). with_piece old b false) whole,
    )

-- nothing is written
pub nothing_put : (old : Forged) (bytes : List ℕ) → bytes ≡ [] → old.waits ≡ false → (length bytes ≤ left old) × (old ≡ with_piece old bytes false)
nothing_put old bytes empty still = (
  omega (arith, ap length empty),
  ap (λ w. record { room = old.room; bytes = old.bytes; levels = old.levels; waits = w }) still
      ∙ ap (λ (b : List ℕ). record { room = old.room; bytes = b; levels = old.levels; waits = false })
      (sym (append-nil old.bytes) ∙ ap (λ (b : List ℕ). old.bytes ++ b) (sym empty)),
)
