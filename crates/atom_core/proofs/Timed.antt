-- The first of some events in bytes that spell them.
use Rattle.std.proofs.Common.{◌≡◌, ◌≢◌, ℕ, ◌+◌, ◌≤◌, List, ◌++◌, length, drop, take, Some, None, ℤ, FitsSigned, refl, sym, ap, ◌∙◌, append_assoc, arith}
use Rattle.std.specs.Int.{w64, from_le_bytes, cast_signed}
use Rattle.std.proofs.lemmas.List.{drop_at, length-append, nil_from_length}
use Rattle.atom_core.specs.Place.{wide_at, size_at, padded}
use Rattle.atom_core.specs.Value.{bare, keyed, timed, Parts, none, part}
use Rattle.atom_core.specs.Spelling.{i64, atom_of, parts_of, with_padding}
use Rattle.atom_core.specs.Answer.{IsAtom}
use Rattle.atom_core.specs.Atoms.{SpellEvents, AreEvents}
use Rattle.atom_core.specs.Iterating.{Event, TakesEvent}
use Rattle.atom_core.proofs.Numbers.{i64-length}
use Rattle.atom_core.proofs.OneValue.{i64_back, part_long}
use Rattle.atom_core.proofs.Firsts.{first, fits_more}
use Rattle.atom_core.proofs.Readings.{wide_front}

record Time (bytes : List ℕ) (z : ℤ) (rest : List ℕ) : Type 0 where
  time : cast_signed w64 (wide_at bytes 0) ≡ z
  room : 8 ≤ length bytes
  after : drop 8 bytes ≡ rest

-- eight bytes are read, whatever stands after them
wide_of : (z : ℤ) (rest : List ℕ) → from_le_bytes w64 (i64 z ++ rest) ≡ from_le_bytes w64 (i64 z)
unfolding i64
wide_of z rest = refl

time : (bytes : List ℕ) (z : ℤ) (rest : List ℕ) → FitsSigned w64 z → bytes ≡ i64 z ++ rest → Time bytes z rest
time bytes z rest fits e = record {
  time = ap (cast_signed w64) (wide_front bytes ∙ ap (from_le_bytes w64) e ∙ wide_of z rest) ∙ i64_back z fits;
  room = omega (arith, ap length e, length-append (i64 z) rest, i64-length z);
  after = ap (drop 8) e ∙ drop_at (i64 z) rest 8 (i64-length z);
}

-- of bytes that aren't empty
pub record Cut (bytes : List ℕ) : Type 0 where
  pub room : 8 ≤ length bytes
  pub header : 8 ≤ length (drop 8 bytes)
  pub fits : 8 + size_at (drop 8 bytes) 0 ≤ length (drop 8 bytes)
  pub next : padded (8 + size_at (drop 8 bytes) 0) ≤ length (drop 8 bytes)
  pub atom : IsAtom (take (8 + size_at (drop 8 bytes) 0) (drop 8 bytes))
  pub rest : AreEvents (drop (padded (8 + size_at (drop 8 bytes) 0)) (drop 8 bytes))

pub cut_of : (bytes : List ℕ) (ps : Parts) → SpellEvents bytes ps → length bytes ≢ 0 → Cut bytes
cut_of bytes none spells some = absurd (some (ap length spells.1))
cut_of bytes (part (timed z) v ps) spells some =
    let text = with_padding (atom_of v) in
    let front = time bytes z (text ++ parts_of ps) spells.0.1 (spells.1 ∙ append_assoc (i64 z) text (parts_of ps)) in
    let f = first (drop 8 bytes) v ps (spells.0.2) front.after in
    record {
      room = front.room;
      header = f.header;
      fits = f.fits;
      next = f.next;
      atom = (v, record { fits = fits_more 15 16 v (omega arith) (spells.0.2); bytes_are = f.atom });
      rest = (ps, (spells.0.3, f.rest));
    }
cut_of bytes (part bare v ps) spells some = absurd (spells.0.1)
cut_of bytes (part (keyed k c) v ps) spells some = absurd (spells.0.1)

pub takes_event : (bytes : List ℕ) (ps : Parts) (found : Event) (after : List ℕ) → SpellEvents bytes ps → length bytes ≢ 0
    → found.0 ≡ cast_signed w64 (wide_at bytes 0) → found.1.bytes.now ≡ take (8 + size_at (drop 8 bytes) 0) (drop 8 bytes) → after ≡ drop (padded (8 + size_at (drop 8 bytes) 0)) (drop 8 bytes)
    → TakesEvent ps (Some found) after
takes_event bytes none found after spells some p a b = absurd (some (ap length spells.1))
takes_event bytes (part (timed z) v ps) found after spells some p a b =
    let text = with_padding (atom_of v) in
    let front = time bytes z (text ++ parts_of ps) spells.0.1 (spells.1 ∙ append_assoc (i64 z) text (parts_of ps)) in
    let f = first (drop 8 bytes) v ps (spells.0.2) front.after in
    let at : z ≡ found.0 = sym (p ∙ front.time) in
    (ap timed at, a ∙ f.atom, (spells.0.3, b ∙ f.rest))
takes_event bytes (part bare v ps) found after spells some p a b = absurd (spells.0.1)
takes_event bytes (part (keyed k c) v ps) found after spells some p a b = absurd (spells.0.1)

-- of empty bytes
pub takes_none : (bytes : List ℕ) (ps : Parts) → SpellEvents bytes ps → length bytes ≡ 0 → TakesEvent ps None bytes
takes_none bytes none spells empty = nil_from_length bytes empty
takes_none bytes (part l v ps) spells empty = omega (arith, part_long l v (parts_of ps), empty, ap length spells.1)
