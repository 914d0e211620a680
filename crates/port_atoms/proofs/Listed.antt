-- The events of a sequence and the properties of an object, one after the other.
use Rattle.std.proofs.Common.{◌≡◌, ℕ, zero, suc, pred, ◌+◌, ◌-◌, ◌^◌, ◌<◌, ◌≤◌, List, [], ◌∷◌, ◌++◌, length, drop, slice_range, ℤ, FitsSigned, refl, sym, ap, ◌∙◌, append_assoc, arith}
use Rattle.std.specs.Int.{w32, w64, from_le_bytes, cast_signed}
use Rattle.std.proofs.lemmas.Bool.{le-ltb}
use Rattle.std.proofs.lemmas.List.{drop_at, length-append}
use Rattle.atom_core.specs.declared.form.Form.TheVariants.{Object, Sequence}
use Rattle.atom_core.specs.Form.{form_of}
use Rattle.atom_core.specs.Place.{number_at, wide_at, size_at, kind_at, padded}
use Rattle.atom_core.specs.Value.{other, object, bare, keyed, timed, Value, plain, holding, Parts, none, part}
use Rattle.atom_core.specs.Spelling.{u32, i64, kind_of, body_of, with_padding, atom_of, lead_bytes, parts_of, part_of}
use Rattle.atom_core.specs.Fits.{Fits, PartsFit}
use Rattle.atom_core.specs.Answer.{most_containers}
use Rattle.atom_core.specs.Atoms.{SpellEvents}
use Rattle.atom_core.proofs.Numbers.{u32-length, i64-length}
use Rattle.atom_core.proofs.OneValue.{i64_back}
use Rattle.atom_core.proofs.Readings.{wide_front}
use Rattle.atom_sequence.specs.Event.{Event}
use Rattle.session_play.specs.EventBytes.{first_event, behind_event, events_within, events_at}
use Rattle.session_play.specs.Patch.{Property, first_property, properties_within, properties_of}
use Rattle.port_atoms.specs.Read.{events_of, properties_in}
use Rattle.port_atoms.proofs.Parted.{Parted, parted, number_first, front}

-- ---- events

-- eight bytes are read, whatever stands after them
eight_of : (z : ℤ) (rest : List ℕ) → from_le_bytes w64 (i64 z ++ rest) ≡ from_le_bytes w64 (i64 z)
unfolding i64
eight_of z rest = refl

time_read : (z : ℤ) (text others : List ℕ) → FitsSigned w64 z → cast_signed w64 (wide_at ((i64 z ++ text) ++ others) 0) ≡ z
time_read z text others fits =
    ap (cast_signed w64) (wide_front ((i64 z ++ text) ++ others) ∙ ap (from_le_bytes w64) (append_assoc (i64 z) text others) ∙ eight_of z (text ++ others)) ∙ i64_back z fits

abbrev as_event : ℤ → ℕ → List ℕ → Event
as_event time kind body = record { time = time; value = plain (other kind body) }

pub events_read : (n m : ℕ) (ps : Parts) → PartsFit m Sequence ps → length (parts_of ps) ≤ n → events_within n (parts_of ps) ≡ events_of ps
events_read zero m none fits long = refl
events_read (suc n) m none fits long = refl
events_read n m (part bare v ps) fits long = absurd (fits.1)
events_read n m (part (keyed k c) v ps) fits long = absurd (fits.1)
events_read zero m (part (timed time) v ps) fits long =
    absurd (omega (arith, long, (parted (pred m) (i64 time) v (parts_of ps) (i64-length time) fits.2).long))
events_read (suc n) m (part (timed time) v ps) fits long =
    let bytes : List ℕ = part_of (timed time) v ++ parts_of ps in
    let p = parted (pred m) (i64 time) v (parts_of ps) (i64-length time) fits.2 in
    let one : first_event bytes ≡ as_event time (kind_of v) (body_of v) =
    ap (λ z. as_event z (kind_at bytes 8) (slice_range bytes 16 (16 + size_at bytes 8))) (time_read time (with_padding (atom_of v)) (parts_of ps) fits.1)
    ∙ ap (λ k. as_event time k (slice_range bytes 16 (16 + size_at bytes 8))) p.kind
    ∙ ap (as_event time (kind_of v)) p.body in
    let others : events_within n (behind_event bytes) ≡ events_of ps = ap (events_within n) p.after ∙ events_read n m ps fits.3 (omega (arith, long, p.less)) in
    rw (le-ltb (length bytes) 16 p.long) (ap (λ e. e ∷ events_within n (behind_event bytes)) one ∙ ap (λ l. as_event time (kind_of v) (body_of v) ∷ l) others)

pub events_spelled : (bytes : List ℕ) (parts : Parts) → SpellEvents bytes parts → events_at bytes ≡ events_of parts
events_spelled bytes parts spells = ap events_at spells.1 ∙ events_read (length (parts_of parts)) most_containers parts spells.0 (omega arith)

-- ---- properties

abbrev as_property : ℕ → ℕ → List ℕ → Property
as_property key kind body = record { key = key; kind = kind; body = body }

keys-length : (key context : ℕ) → length (u32 key ++ u32 context) ≡ 8
keys-length key context = omega (arith, length-append (u32 key) (u32 context), u32-length key, u32-length context)

key_read : (key context : ℕ) (text others : List ℕ) → key < 2 ^ 32 → number_at (((u32 key ++ u32 context) ++ text) ++ others) 0 ≡ key
key_read key context text others small =
    number_first (((u32 key ++ u32 context) ++ text) ++ others)
    ∙ ap (from_le_bytes w32)
    (append_assoc (u32 key ++ u32 context) text others ∙ append_assoc (u32 key) (u32 context) (text ++ others))
    ∙ front key (u32 context ++ (text ++ others)) small

pub properties_read : (n m : ℕ) (ps : Parts) → PartsFit m Object ps → length (parts_of ps) ≤ n → properties_within n (parts_of ps) ≡ properties_in ps
properties_read zero m none fits long = refl
properties_read (suc n) m none fits long = refl
properties_read n m (part bare v ps) fits long = absurd (fits.1)
properties_read n m (part (timed time) v ps) fits long = absurd (fits.1)
properties_read zero m (part (keyed k c) v ps) fits long =
    absurd (omega (arith, long, (parted (pred m) (u32 k ++ u32 c) v (parts_of ps) (keys-length k c) fits.2).long))
properties_read (suc n) m (part (keyed k c) v ps) fits long =
    let bytes : List ℕ = part_of (keyed k c) v ++ parts_of ps in
    let p = parted (pred m) (u32 k ++ u32 c) v (parts_of ps) (keys-length k c) fits.2 in
    let later : List ℕ = drop (16 + padded (size_at bytes 8)) bytes in
    let one : first_property bytes ≡ as_property k (kind_of v) (body_of v) =
    ap (λ z. as_property z (kind_at bytes 8) (slice_range bytes 16 (16 + size_at bytes 8))) (key_read k c (with_padding (atom_of v)) (parts_of ps) fits.1.0)
    ∙ ap (λ z. as_property k z (slice_range bytes 16 (16 + size_at bytes 8))) p.kind
    ∙ ap (as_property k (kind_of v)) p.body in
    let others : properties_within n later ≡ properties_in ps = ap (properties_within n) p.after ∙ properties_read n m ps fits.3 (omega (arith, long, p.less)) in
    rw (le-ltb (length bytes) 16 p.long) (ap (λ e. e ∷ properties_within n later) one ∙ ap (λ l. as_property k (kind_of v) (body_of v) ∷ l) others)

-- the properties of an object stand after its id and its type
pub properties_spelled : (id kind : ℕ) (parts : Parts) → Fits most_containers (holding (object id kind) parts)
    → properties_of (body_of (holding (object id kind) parts)) ≡ properties_in parts
unfolding form_of
properties_spelled id kind parts fits =
    let body : List ℕ = (u32 id ++ u32 kind) ++ parts_of parts in
    ap (properties_within (length body)) (drop_at (u32 id ++ u32 kind) (parts_of parts) 8 (keys-length id kind))
    ∙ properties_read (length body) most_containers parts fits.2 (omega (arith, length-append (u32 id ++ u32 kind) (parts_of parts)))
