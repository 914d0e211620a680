-- Events that are read off their bytes, as types and bodies, merge as those that were written, and have the same bytes.
use Rattle.std.proofs.Common.{◌≡◌, ℕ, zero, suc, ◌+◌, ◌-◌, ◌≤◌, Bool, true, false, if◌then◌else◌, List, [], ◌∷◌, ◌++◌, length, map, drop, replicate, slice_range, ℤ, int_le, nat_le, nat_lt, refl, sym, ap, ◌∙◌, append_assoc, arith}
use Rattle.std.specs.Int.{w64, from_le_bytes, cast_signed}
use Rattle.std.specs.Borrow.{Bor}
use Rattle.std.proofs.lemmas.Bool.Decides.{nat_tests}
use Rattle.std.proofs.lemmas.List.{drop_at, length-append, take_all}
use Rattle.atom_core.specs.Place.{wide_at, size_at, padded, Stands}
use Rattle.atom_core.specs.Value.{timed, plain, other}
use Rattle.atom_core.specs.Spelling.{i64, kind_of, body_of, atom_of, with_padding, parts_of, part_of}
use Rattle.atom_core.specs.Atoms.{SpellEvents}
use Rattle.atom_core.proofs.Numbers.{i64-length}
use Rattle.atom_core.proofs.OneValue.{i64_back}
use Rattle.atom_core.proofs.Padding.{with_padding-length}
use Rattle.atom_core.proofs.Reading.{atom_says, first_stands, second_stands}
use Rattle.atom_core.proofs.Readings.{wide_front}
use Rattle.atom_forge.proofs.Pieces.{framed-length}
use Rattle.atom_sequence.specs.Event.{Event, as_parts, size_of}
use Rattle.atom_sequence.specs.Lists.{HoldLists}
use Rattle.atom_sequence.specs.Merge.{joined, put_in, in_order, cut, merged}
use Rattle.session_play.specs.EventBytes.{first_event, behind_event, events_within, events_at, bytes_of}
use Rattle.event_signals.specs.Merging.{events_of}

-- an event as its bytes tell it
abbrev pub as_read : Event → Event
as_read e = record { time = e.time; value = plain (other (kind_of e.value) (body_of e.value)) }

-- ---- read off bytes

-- eight bytes are read, whatever stands after them
wide_of : (z : ℤ) (rest : List ℕ) → from_le_bytes w64 (i64 z ++ rest) ≡ from_le_bytes w64 (i64 z)
unfolding i64
wide_of z rest = refl

-- what stands in the bytes of an event and of those after it
record ReadsEvent (bytes : List ℕ) (e : Event) (others : List ℕ) : Type 0 where
  long : 16 ≤ length bytes
  first : first_event bytes ≡ as_read e
  rest : behind_event bytes ≡ others

reads : (bytes : List ℕ) (e : Event) (events : List Event) → SpellEvents bytes (as_parts (e ∷ events)) → ReadsEvent bytes e (parts_of (as_parts events))
reads bytes e events spells =
    let text = atom_of e.value in
    let tail : List ℕ = replicate (padded (length text) - length text) 0 in
    let others = parts_of (as_parts events) in
    let flat : bytes ≡ i64 e.time ++ (text ++ (tail ++ others)) =
    spells.1 ∙ append_assoc (i64 e.time) (with_padding text) others ∙ ap (λ (l : List ℕ). i64 e.time ++ l) (append_assoc text tail others) in
    let all : slice_range bytes 0 (length bytes) ≡ bytes = take_all (length bytes - 0) bytes (omega arith) in
    let whole : Stands bytes 0 (length bytes) (i64 e.time ++ (text ++ (tail ++ others))) = record { ends = omega (arith, ap length flat); text_is = all ∙ flat } in
    let later : Stands bytes 8 (length bytes) (text ++ (tail ++ others)) =
    second_stands bytes 0 8 (length bytes) (i64 e.time) (text ++ (tail ++ others)) (omega (arith, i64-length e.time)) whole in
    let atom : Stands bytes 8 (8 + length text) text = first_stands bytes 8 (8 + length text) (length bytes) text (tail ++ others) refl later in
    let says = atom_says 15 bytes 8 (8 + length text) e.value spells.0.2 atom in
    let count : length text ≡ 8 + length (body_of e.value) = framed-length (kind_of e.value) (body_of e.value) in
    let time : cast_signed w64 (wide_at bytes 0) ≡ e.time =
    ap (cast_signed w64) (wide_front bytes ∙ ap (from_le_bytes w64) flat ∙ wide_of e.time (text ++ (tail ++ others))) ∙ i64_back e.time spells.0.1 in
    let until : 8 + length text ≡ 16 + size_at bytes 8 = omega (arith, count, says.size) in
    let body : slice_range bytes 16 (16 + size_at bytes 8) ≡ body_of e.value =
    ap (λ n. slice_range bytes 16 n) (sym until) ∙ says.body.text_is in
    let room : length (i64 e.time ++ with_padding text) ≡ 16 + padded (size_at bytes 8) =
    omega (arith, length-append (i64 e.time) (with_padding text), i64-length e.time, with_padding-length text, count, says.size) in
    record {
      long = omega (arith, ap length flat, length-append (i64 e.time) (text ++ (tail ++ others)), length-append text (tail ++ others), i64-length e.time, count);
      first = λ t. record { time = time t; value = plain (other (says.kind t) (body t)) };
      rest = ap (drop (16 + padded (size_at bytes 8))) spells.1 ∙ drop_at (i64 e.time ++ with_padding text) others (16 + padded (size_at bytes 8)) room;
    }

within_read : (n : ℕ) (bytes : List ℕ) (events : List Event) → SpellEvents bytes (as_parts events) → length bytes ≤ n → events_within n bytes ≡ map as_read events
within_read zero bytes [] spells le = refl
within_read (suc n) bytes [] spells le = ap (events_within (suc n)) spells.1
within_read zero bytes (e ∷ events) spells le = absurd (let r = reads bytes e events spells in omega (arith, r.long, le))
within_read (suc n) bytes (e ∷ events) spells le =
    let r = reads bytes e events spells in
    let long : nat_lt (length bytes) 16 ≡ false = let h = r.long in grind (arith, nat_tests) in
    let shorter : length (behind_event bytes) ≤ n =
    omega (
      arith,
      ap length r.rest,
      ap length spells.1,
      length-append (i64 e.time ++ with_padding (atom_of e.value)) (parts_of (as_parts events)),
      length-append (i64 e.time) (with_padding (atom_of e.value)),
      i64-length e.time,
      le,
    ) in
    let later : events_within n (behind_event bytes) ≡ map as_read events =
    within_read n (behind_event bytes) events (spells.0.3, r.rest) shorter in
    ap (λ (b : Bool). if b then [] else first_event bytes ∷ events_within n (behind_event bytes)) long
    ∙ (λ t. r.first t ∷ later t)

pub events_read : (bytes : List ℕ) (events : List Event) → SpellEvents bytes (as_parts events) → events_at bytes ≡ map as_read events
events_read bytes events spells = within_read (length bytes) bytes events spells (omega arith)

pub lists_read : (lists : List (Bor (List ℕ))) (all : List (List Event)) → HoldLists lists all → map events_of lists ≡ map (map as_read) all
lists_read [] [] hold = refl
lists_read [] (events ∷ all) hold = absurd hold
lists_read (bytes ∷ lists) [] hold = absurd hold
lists_read (bytes ∷ lists) (events ∷ all) hold = λ t. events_read bytes.now events hold.0 t ∷ lists_read lists all hold.1 t

-- ---- merged alike

map_append : (a b : List Event) → map as_read (a ++ b) ≡ map as_read a ++ map as_read b
map_append [] b = refl
map_append (e ∷ a) b = ap (λ (l : List Event). as_read e ∷ l) (map_append a b)

joined_read : (all : List (List Event)) → joined (map (map as_read) all) ≡ map as_read (joined all)
joined_read [] = refl
joined_read (events ∷ all) = ap (λ (l : List Event). map as_read events ++ l) (joined_read all) ∙ sym (map_append events (joined all))

put_read : (e : Event) (events : List Event) → put_in (as_read e) (map as_read events) ≡ map as_read (put_in e events)
put_read e [] = refl
put_read e (f ∷ events) = by (int_le e.time f.time) (put_read e events)
  where
    by : (b : Bool) → put_in (as_read e) (map as_read events) ≡ map as_read (put_in e events)
        → (if b then as_read e ∷ (as_read f ∷ map as_read events) else as_read f ∷ put_in (as_read e) (map as_read events))
        ≡ map as_read (if b then e ∷ (f ∷ events) else f ∷ put_in e events)
    by true rest = refl
    by false rest = ap (λ (l : List Event). as_read f ∷ l) rest

order_read : (events : List Event) → in_order (map as_read events) ≡ map as_read (in_order events)
order_read [] = refl
order_read (e ∷ events) = ap (put_in (as_read e)) (order_read events) ∙ put_read e (in_order events)

cut_read : (room : ℕ) (events : List Event) → cut room (map as_read events) ≡ map as_read (cut room events)
cut_read room [] = refl
cut_read room (e ∷ events) = by (nat_le (size_of e) room) (cut_read (room - size_of e) events)
  where
    by : (b : Bool) → cut (room - size_of e) (map as_read events) ≡ map as_read (cut (room - size_of e) events)
        → (if b then as_read e ∷ cut (room - size_of e) (map as_read events) else [])
        ≡ map as_read (if b then e ∷ cut (room - size_of e) events else [])
    by true rest = ap (λ (l : List Event). as_read e ∷ l) rest
    by false rest = refl

pub merged_read : (room : ℕ) (all : List (List Event)) → merged room (map (map as_read) all) ≡ map as_read (merged room all)
merged_read room all =
    ap (λ (l : List Event). cut room (in_order l)) (joined_read all) ∙ ap (cut room) (order_read (joined all)) ∙ cut_read room (in_order (joined all))

pub bytes_read : (events : List Event) → bytes_of (map as_read events) ≡ bytes_of events
bytes_read [] = refl
bytes_read (e ∷ events) = ap (λ (l : List ℕ). part_of (timed e.time) e.value ++ l) (bytes_read events)

-- lists that are read alike merge into the same bytes
pub merged_alike : (room : ℕ) (a b : List (List Event)) → map (map as_read) a ≡ map (map as_read) b → bytes_of (merged room a) ≡ bytes_of (merged room b)
merged_alike room a b same =
    sym (bytes_read (merged room a)) ∙ ap bytes_of (sym (merged_read room a) ∙ ap (merged room) same ∙ merged_read room b) ∙ bytes_read (merged room b)

pub read_again : (events : List Event) → map as_read (map as_read events) ≡ map as_read events
read_again [] = refl
read_again (e ∷ events) = ap (λ (l : List Event). as_read e ∷ l) (read_again events)
