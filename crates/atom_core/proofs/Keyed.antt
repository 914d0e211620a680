-- The first of some properties in bytes that spell them.
use Rattle.std.proofs.Common.{◌≡◌, ◌≢◌, ℕ, ◌+◌, ◌-◌, ◌<◌, ◌≤◌, List, ◌++◌, length, drop, take, slice_range, Some, None, ◌^◌, sym, ap, ◌∙◌, append_assoc, arith}
use Rattle.std.proofs.lemmas.List.{take_all, drop_at, length-append, nil_from_length}
use Rattle.atom_core.specs.Place.{number_at, size_at, padded, Stands}
use Rattle.atom_core.specs.Value.{bare, keyed, timed, Parts, none, part}
use Rattle.atom_core.specs.Spelling.{u32, atom_of, parts_of, with_padding}
use Rattle.atom_core.specs.Answer.{IsAtom}
use Rattle.atom_core.specs.Atoms.{SpellProperties, AreProperties}
use Rattle.atom_core.specs.Iterating.{Property, TakesProperty}
use Rattle.atom_core.proofs.Numbers.{u32-length}
use Rattle.atom_core.proofs.OneValue.{part_long}
use Rattle.atom_core.proofs.Reading.{first_stands, second_stands, number_read}
use Rattle.atom_core.proofs.Firsts.{first, fits_more}

record Keys (bytes : List ℕ) (k c : ℕ) (rest : List ℕ) : Type 0 where
  key : number_at bytes 0 ≡ k
  context : number_at bytes 4 ≡ c
  room : 8 ≤ length bytes
  after : drop 8 bytes ≡ rest

keys : (bytes : List ℕ) (k c : ℕ) (rest : List ℕ) → k < 2 ^ 32 → c < 2 ^ 32 → bytes ≡ u32 k ++ (u32 c ++ rest) → Keys bytes k c rest
keys bytes k c rest hk hc e =
    let all : slice_range bytes 0 (length bytes) ≡ bytes = take_all (length bytes - 0) bytes (omega arith) in
    let whole : Stands bytes 0 (length bytes) (u32 k ++ (u32 c ++ rest)) = record { ends = omega (arith, ap length e); text_is = all ∙ e } in
    let four : 0 + length (u32 k) ≡ 4 = omega (arith, u32-length k) in
    let eight : 4 + length (u32 c) ≡ 8 = omega (arith, u32-length c) in
    let one : Stands bytes 0 4 (u32 k) = first_stands bytes 0 4 (length bytes) (u32 k) (u32 c ++ rest) four whole in
    let others : Stands bytes 4 (length bytes) (u32 c ++ rest) = second_stands bytes 0 4 (length bytes) (u32 k) (u32 c ++ rest) four whole in
    let two : Stands bytes 4 8 (u32 c) = first_stands bytes 4 8 (length bytes) (u32 c) rest eight others in
    let front : length (u32 k ++ u32 c) ≡ 8 = omega (arith, length-append (u32 k) (u32 c), u32-length k, u32-length c) in
    record {
      key = number_read bytes 0 k hk one;
      context = number_read bytes 4 c hc two;
      room = omega (arith, ap length e, length-append (u32 k) (u32 c ++ rest), length-append (u32 c) rest, u32-length k, u32-length c);
      after = ap (drop 8) (e ∙ sym (append_assoc (u32 k) (u32 c) rest)) ∙ drop_at (u32 k ++ u32 c) rest 8 front;
    }

spread : (k c : ℕ) (text others : List ℕ) → ((u32 k ++ u32 c) ++ text) ++ others ≡ u32 k ++ (u32 c ++ (text ++ others))
spread k c text others = append_assoc (u32 k ++ u32 c) text others ∙ append_assoc (u32 k) (u32 c) (text ++ others)

-- of bytes that aren't empty
pub record Cut (bytes : List ℕ) : Type 0 where
  pub keys : 8 ≤ length bytes
  pub header : 8 ≤ length (drop 8 bytes)
  pub fits : 8 + size_at (drop 8 bytes) 0 ≤ length (drop 8 bytes)
  pub next : padded (8 + size_at (drop 8 bytes) 0) ≤ length (drop 8 bytes)
  pub atom : IsAtom (take (8 + size_at (drop 8 bytes) 0) (drop 8 bytes))
  pub rest : AreProperties (drop (padded (8 + size_at (drop 8 bytes) 0)) (drop 8 bytes))

pub cut_of : (bytes : List ℕ) (ps : Parts) → SpellProperties bytes ps → length bytes ≢ 0 → Cut bytes
cut_of bytes none spells some = absurd (some (ap length spells.1))
cut_of bytes (part (keyed k c) v ps) spells some =
    let text = with_padding (atom_of v) in
    let front = keys bytes k c (text ++ parts_of ps) spells.0.1.0 spells.0.1.1 (spells.1 ∙ spread k c text (parts_of ps)) in
    let f = first (drop 8 bytes) v ps (spells.0.2) front.after in
    record {
      keys = front.room;
      header = f.header;
      fits = f.fits;
      next = f.next;
      atom = (v, record { fits = fits_more 15 16 v (omega arith) (spells.0.2); bytes_are = f.atom });
      rest = (ps, (spells.0.3, f.rest));
    }
cut_of bytes (part bare v ps) spells some = absurd (spells.0.1)
cut_of bytes (part (timed time) v ps) spells some = absurd (spells.0.1)

pub takes_property : (bytes : List ℕ) (ps : Parts) (found : Property) (after : List ℕ) → SpellProperties bytes ps → length bytes ≢ 0
    → found.0 ≡ number_at bytes 0 → found.1 ≡ number_at bytes 4
    → found.2.bytes.now ≡ take (8 + size_at (drop 8 bytes) 0) (drop 8 bytes) → after ≡ drop (padded (8 + size_at (drop 8 bytes) 0)) (drop 8 bytes)
    → TakesProperty ps (Some found) after
takes_property bytes none found after spells some p q a b = absurd (some (ap length spells.1))
takes_property bytes (part (keyed k c) v ps) found after spells some p q a b =
    let text = with_padding (atom_of v) in
    let front = keys bytes k c (text ++ parts_of ps) spells.0.1.0 spells.0.1.1 (spells.1 ∙ spread k c text (parts_of ps)) in
    let f = first (drop 8 bytes) v ps (spells.0.2) front.after in
    let key : k ≡ found.0 = sym (p ∙ front.key) in
    let context : c ≡ found.1 = sym (q ∙ front.context) in
    (ap (λ n. keyed n c) key ∙ ap (keyed found.0) context, a ∙ f.atom, (spells.0.3, b ∙ f.rest))
takes_property bytes (part bare v ps) found after spells some p q a b = absurd (spells.0.1)
takes_property bytes (part (timed time) v ps) found after spells some p q a b = absurd (spells.0.1)

-- of empty bytes
pub takes_none : (bytes : List ℕ) (ps : Parts) → SpellProperties bytes ps → length bytes ≡ 0 → TakesProperty ps None bytes
takes_none bytes none spells empty = nil_from_length bytes empty
takes_none bytes (part l v ps) spells empty = omega (arith, part_long l v (parts_of ps), empty, ap length spells.1)
