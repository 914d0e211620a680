-- An event is a time and an atom, put one after the other.
use Rattle.std.proofs.Common.{◌≡◌, ℕ, ◌+◌, ◌-◌, ◌<◌, ◌≤◌, true, false, List, [], ◌∷◌, ◌++◌, length, ℤ, Some, refl, sym, ap, ◌∙◌, subst, append_assoc, length-append, arith}
use Rattle.std.proofs.lemmas.List.{append-nil}
use Rattle.atom_core.specs.declared.view.AtomView.{AtomView}
use Rattle.atom_core.specs.declared.form.Form.TheVariants.{Sequence}
use Rattle.atom_core.specs.Value.{timed, Value}
use Rattle.atom_core.specs.Spelling.{atom_of, lead_bytes, part_of, with_padding, framed, kind_of, body_of}
use Rattle.atom_core.proofs.Numbers.{i64-length}
use Rattle.atom_core.proofs.Padding.{padded_above, with_padding-length}
use Rattle.atom_forge.proofs.Pieces.{framed-length}
use Rattle.atom_core.specs.Fits.{Fits, PartsFit}
use Rattle.atom_core.specs.Answer.{Spells, most_containers}
use Rattle.atom_core.specs.Atoms.{SpellEvents}
use Rattle.atom_core.specs.Iterating.{TakesEvent}
use Rattle.atom_core.proofs.Firsts.{fits_more}
use Rattle.atom_forge.specs.declared.level.Level.{Level}
use Rattle.atom_forge.specs.declared.mark.Mark.{Mark}
use Rattle.atom_forge.specs.Forged.{Forged, left, laid, with_piece, up_to}
use Rattle.atom_forge.specs.Laws.{IsMarkOf}
use Rattle.atom_forge.proofs.Containers.{back_is_before}
use Rattle.atom_sequence.specs.Event.{Event, as_parts, size_of}

-- the first of some events, where it is found
pub record IsFirst (events : List Event) (found : ℤ × AtomView) (rest : List ℕ) : Type 0 where
  pub e : Event
  pub others : List Event
  pub split : events ≡ e ∷ others
  pub time : e.time ≡ found.0
  pub fits : Fits 15 e.value
  pub spells : Spells found.1.bytes.now e.value
  pub rest_is : SpellEvents rest (as_parts others)

pub is_first : (events : List Event) (found : ℤ × AtomView) (rest : List ℕ) → PartsFit most_containers Sequence (as_parts events)
    → TakesEvent (as_parts events) (Some found) rest → IsFirst events found rest
is_first [] found rest fits takes = absurd takes
is_first (e ∷ events) found rest fits takes =
    let same : timed e.time ≡ timed found.0 = takes.0 in
    record {
      e = e;
      others = events;
      split = refl;
      time = cc;
      fits = fits.2;
      spells = record { fits = fits_more 15 16 e.value (omega arith) (fits.2); bytes_are = takes.1 };
      rest_is = takes.2;
    }

inner : (levels : List Level) (l : Level) (text : List ℕ) → levels ≡ l ∷ [] → laid levels text ≡ with_padding text
inner levels l text one = ap (λ (ls : List Level). laid ls text) one

-- the time of an event is put
pub record TimePut (old new : Forged) (e : Event) (l : Level) : Type 0 where
  pub one : old.levels ≡ l ∷ []
  pub room : length (lead_bytes (timed e.time)) ≤ left old
  pub new_is : new ≡ with_piece old (lead_bytes (timed e.time)) true

size_is : (e : Event) → size_of e ≡ length (lead_bytes (timed e.time)) + length (with_padding (atom_of e.value))
size_is e = length-append (lead_bytes (timed e.time)) (with_padding (atom_of e.value))

left_then : (old new : Forged) (e : Event) (l : Level) → TimePut old new e l → left new ≡ left old - length (lead_bytes (timed e.time))
left_then old new e l h =
    let bytes : length new.bytes ≡ length old.bytes + length (lead_bytes (timed e.time)) =
    ap (λ (f : Forged). length f.bytes) h.new_is ∙ length-append old.bytes (lead_bytes (timed e.time)) in
    let room : new.room ≡ old.room = ap (λ (f : Forged). f.room) h.new_is in
    omega (arith, bytes, room)

levels_then : (old new : Forged) (e : Event) (l : Level) → TimePut old new e l → new.levels ≡ l ∷ []
levels_then old new e l h = ap (λ (f : Forged). f.levels) h.new_is ∙ h.one

text_then : (old new : Forged) (e : Event) (l : Level) (text : List ℕ) → TimePut old new e l → text ≡ atom_of e.value → laid new.levels text ≡ with_padding (atom_of e.value)
text_then old new e l text h is = inner new.levels l text (levels_then old new e l h) ∙ ap with_padding is

pub atom_full : (old new : Forged) (e : Event) (l : Level) (text : List ℕ) → TimePut old new e l → text ≡ atom_of e.value → left new < length (laid new.levels text)
    → left old < size_of e
atom_full old new e l text h is full =
    let size : length (laid new.levels text) ≡ length (with_padding (atom_of e.value)) = ap length (text_then old new e l text h is) in
    omega (arith, full, size, left_then old new e l h, size_is e, h.room)

pub record EventPut (old new : Forged) (e : Event) : Type 0 where
  pub room : size_of e ≤ left old
  pub new_is : new ≡ with_piece old (part_of (timed e.time) e.value) false

pub both_put : (old new last : Forged) (e : Event) (l : Level) (text : List ℕ) → TimePut old new e l → text ≡ atom_of e.value
    → length (laid new.levels text) ≤ left new → last ≡ with_piece new (laid new.levels text) false → EventPut old last e
both_put old new last e l text h is fits last_is =
    let all = text_then old new e l text h is in
    let size : length (laid new.levels text) ≡ length (with_padding (atom_of e.value)) = ap length all in
    let time = lead_bytes (timed e.time) in
    let atom = with_padding (atom_of e.value) in
    record {
      room = omega (arith, fits, size, left_then old new e l h, size_is e, h.room);
      new_is =
          last_is
          ∙ ap (λ (b : List ℕ). with_piece new b false) all
          ∙ ap (λ (f : Forged). with_piece f atom false) h.new_is
          ∙ ap (λ (b : List ℕ). record { room = old.room; bytes = b; levels = old.levels; waits = false }) (append_assoc old.bytes time atom);
    }

-- a time that was put is taken back
pub time_back : (old new : Forged) (e : Event) (l : Level) (mark : Mark) → TimePut old new e l → IsMarkOf mark old → up_to mark new ≡ old
time_back old new e l mark h is =
    ap (up_to mark) (h.new_is ∙ ap (λ (ls : List Level). record { room = old.room; bytes = old.bytes ++ lead_bytes (timed e.time); levels = ls; waits = true }) (sym (append-nil old.levels)))
    ∙ back_is_before mark old (lead_bytes (timed e.time)) [] true is

pub spells_of : (bytes : List ℕ) (value : Value) → Fits 15 value × (bytes ≡ atom_of value) → Spells bytes value
spells_of bytes value is = record { fits = fits_more 15 16 value (omega arith) (is.0); bytes_are = is.1 }

pub text_of : (kind : ℕ) (body : List ℕ) (value : Value) → kind ≡ kind_of value → body ≡ body_of value → framed kind body ≡ atom_of value
text_of kind body value k b = ap (λ n. framed n body) k ∙ ap (framed (kind_of value)) b

-- every event takes 16 bytes
pub event_less : (old new : Forged) (e : Event) → EventPut old new e → left new + 16 ≤ left old
event_less old new e put =
    let bytes : length new.bytes ≡ length old.bytes + length (part_of (timed e.time) e.value) =
    ap (λ (f : Forged). length f.bytes) put.new_is ∙ length-append old.bytes (part_of (timed e.time) e.value) in
    let room : new.room ≡ old.room = ap (λ (f : Forged). f.room) put.new_is in
    omega (
      arith,
      put.room,
      bytes,
      room,
      size_is e,
      i64-length e.time,
      with_padding-length (atom_of e.value),
      padded_above (length (atom_of e.value)),
      framed-length (kind_of e.value) (body_of e.value),
    )

-- an event whose time is known by its number
pub at_time_of : (P : Event → Type 0) (a b : ℤ) (value : Value) → a ≡ b → P (record { time = a; value = value }) → P (record { time = b; value = value })
at_time_of P a b value same p = subst (λ (t : ℤ). P (record { time = t; value = value })) same p
