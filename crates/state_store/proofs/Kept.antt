-- A value's bytes stand after those of the slots before it, and a value that is put in its place moves none of the others.
use Rattle.std.proofs.Common.{◌≡◌, ℕ, zero, suc, ◌+◌, ◌-◌, ◌<◌, ◌≤◌, ◌==◌, nat_lt, nat_le, Bool, true, false, cond, ◌&&◌, List, [], ◌∷◌, ◌++◌, length, take, drop, set, insert, Option, None, Some, is_none, unwrap_or, IsTrue, refl, sym, ap, subst, ◌∙◌, arith, ltb-true, ltb-false, lt-ltb, le-ltb, eq-eqb, ne_eqb, eqb-true, le-leb, leb-true, take_at, drop_at, take-add, take-take, drop-drop, length-take-le, length-drop, length-append, append_assoc}
use Rattle.std.proofs.Math.Seq.{take-append-add}
use Rattle.std.proofs.lemmas.Bool.{and_parts, eqb-false}
use Rattle.state_store.specs.Properties.{AreRising, with_property, bytes_in, fit}
use Rattle.state_store.specs.Shelf.{value_of}
use Rattle.state_store.specs.Slots.{rows_of, size_of, behind, place_of, with_slot, with_bytes}
use Rattle.state_store.specs.declared.prop.Prop.{Prop}
use Rattle.state_store.specs.declared.slots.Slot.{Slot}
use Rattle.state_store.specs.declared.slots.Place.{Place}
use Rattle.state_store.specs.declared.status.TheConstants.{MOST_PROPERTIES, MOST_BYTES}
use Rattle.state_store.proofs.Ordered.{rising_tail, with_first, with_least, with_equal}

-- ---- one slot

abbrev row_of : Slot → List ℕ → ℕ × Prop
row_of slot bytes = (slot.key, value_of slot.kind slot.flags (take slot.size bytes))

-- a slot's bytes stand before all others
front_bytes : (slot : Slot) (slots : List Slot) (bytes : List ℕ) → size_of (slot ∷ slots) ≤ length bytes → length (take slot.size bytes) ≡ slot.size
front_bytes slot slots bytes packed = length-take-le slot.size bytes (omega (arith, packed))

rest_bytes : (slot : Slot) (slots : List Slot) (bytes : List ℕ) → size_of (slot ∷ slots) ≤ length bytes → size_of slots ≤ length (drop slot.size bytes)
rest_bytes slot slots bytes packed = rw (length-drop slot.size bytes) (omega (arith, packed))

-- ---- the place of a key

-- it stands within the slots, and its bytes within theirs
pub place_within : (slots : List Slot) (key : ℕ) → (place_of slots key).offset + unwrap_or (place_of slots key).former 0 ≤ size_of slots
place_within [] key = omega arith
place_within (slot ∷ slots) key = by (nat_lt slot.key key) (slot.key == key) (place_within slots key)
  where
    by : (b c : Bool) → (place_of slots key).offset + unwrap_or (place_of slots key).former 0 ≤ size_of slots
        → (cond b (behind 1 slot.size (place_of slots key)) (record { index = 0; offset = 0; former = cond c (Some slot.size) None })).offset
        + unwrap_or (cond b (behind 1 slot.size (place_of slots key)) (record { index = 0; offset = 0; former = cond c (Some slot.size) None })).former 0
        ≤ slot.size + size_of slots
    by true c h = omega (arith, h)
    by false true h = omega (arith, h)
    by false false h = omega (arith, h)

pub index_within : (slots : List Slot) (key : ℕ) → (place_of slots key).index + cond (is_none (place_of slots key).former) 0 1 ≤ length slots
index_within [] key = omega arith
index_within (slot ∷ slots) key = by (nat_lt slot.key key) (slot.key == key) (index_within slots key)
  where
    by : (b c : Bool) → (place_of slots key).index + cond (is_none (place_of slots key).former) 0 1 ≤ length slots
        → (cond b (behind 1 slot.size (place_of slots key)) (record { index = 0; offset = 0; former = cond c (Some slot.size) None })).index
        + cond (is_none (cond b (behind 1 slot.size (place_of slots key)) (record { index = 0; offset = 0; former = cond c (Some slot.size) None })).former) 0 1
        ≤ suc (length slots)
    by true c h = omega (arith, h)
    by false true h = omega arith
    by false false h = omega arith

-- ---- the slots with one more

pub slots_set : (slots : List Slot) (new : Slot) (size : ℕ) → (place_of slots new.key).former ≡ Some size → set slots (place_of slots new.key).index new ≡ with_slot slots new
slots_set [] new size there = cc
slots_set (slot ∷ slots) new size there = by (nat_lt slot.key new.key) (slot.key == new.key) there (slots_set slots new size)
  where
    by : (b c : Bool) → (cond b (behind 1 slot.size (place_of slots new.key)) (record { index = 0; offset = 0; former = cond c (Some slot.size) None })).former ≡ Some size
        → ((place_of slots new.key).former ≡ Some size → set slots (place_of slots new.key).index new ≡ with_slot slots new)
        → set (slot ∷ slots) (cond b (behind 1 slot.size (place_of slots new.key)) (record { index = 0; offset = 0; former = cond c (Some slot.size) None })).index new
        ≡ cond b (slot ∷ with_slot slots new) (cond c (new ∷ slots) (new ∷ slot ∷ slots))
    by true c h more =
        let next : suc (place_of slots new.key).index ≡ 1 + (place_of slots new.key).index = omega arith in
        subst (λ k. set (slot ∷ slots) k new ≡ slot ∷ with_slot slots new) next (ap (λ l. slot ∷ l) (more h))
    by false true h more = refl
    by false false h more = cc

pub slots_insert : (slots : List Slot) (new : Slot) → (place_of slots new.key).former ≡ None → insert slots (place_of slots new.key).index new ≡ with_slot slots new
slots_insert [] new missing = refl
slots_insert (slot ∷ slots) new missing = by (nat_lt slot.key new.key) (slot.key == new.key) missing (slots_insert slots new)
  where
    by : (b c : Bool) → (cond b (behind 1 slot.size (place_of slots new.key)) (record { index = 0; offset = 0; former = cond c (Some slot.size) None })).former ≡ None
        → ((place_of slots new.key).former ≡ None → insert slots (place_of slots new.key).index new ≡ with_slot slots new)
        → insert (slot ∷ slots) (cond b (behind 1 slot.size (place_of slots new.key)) (record { index = 0; offset = 0; former = cond c (Some slot.size) None })).index new
        ≡ cond b (slot ∷ with_slot slots new) (cond c (new ∷ slots) (new ∷ slot ∷ slots))
    by true c h more =
        let next : suc (place_of slots new.key).index ≡ 1 + (place_of slots new.key).index = omega arith in
        subst (λ k. insert (slot ∷ slots) k new ≡ slot ∷ with_slot slots new) next (ap (λ l. slot ∷ l) (more h))
    by false true h more = cc
    by false false h more = refl

-- ---- the bytes with those of one more

-- what stands after a slot's bytes
bytes_behind : (slot : Slot) (slots : List Slot) (bytes : List ℕ) (place : Place) (value : List ℕ) → size_of (slot ∷ slots) ≤ length bytes
    → with_bytes bytes (behind 1 slot.size place) value ≡ take slot.size bytes ++ with_bytes (drop slot.size bytes) place value
bytes_behind slot slots bytes place value packed =
    let size : ℕ = slot.size in
    let former : ℕ = unwrap_or place.former 0 in
    let offsets : size + place.offset + former ≡ size + (place.offset + former) = omega arith in
    ap (λ front. front ++ (value ++ drop (size + place.offset + former) bytes)) (take-add size place.offset bytes)
    ∙ (append_assoc (take size bytes) (take place.offset (drop size bytes)) (value ++ drop (size + place.offset + former) bytes)
    ∙ ap (λ back. take size bytes ++ (take place.offset (drop size bytes) ++ (value ++ back)))
    (ap (λ n. drop n bytes) offsets ∙ sym (drop-drop (place.offset + former) size bytes)))

-- a row whose bytes are a value
new_row : (new : Slot) (value rest : List ℕ) → new.size ≡ length value → row_of new (value ++ rest) ≡ (new.key, value_of new.kind new.flags value)
new_row new value rest size = ap (λ bytes. (new.key, value_of new.kind new.flags bytes)) (take_at value rest new.size (sym size))

greater : (a b : ℕ) → nat_lt a b ≡ false → (a == b) ≡ false → b < a
greater a b least other = omega (arith, ltb-false a b least, eqb-false a b other)

-- a value at the front, for a former one
with_former : (bytes value : List ℕ) (size : ℕ) → with_bytes bytes (record { index = 0; offset = 0; former = Some size }) value ≡ value ++ drop size bytes
with_former bytes value size = ap (λ n. value ++ drop n bytes) (let same : 0 + size ≡ size = omega arith in same)

-- the rows with one more
pub rows_with : (slots : List Slot) (bytes value : List ℕ) (new : Slot) → size_of slots ≤ length bytes → new.size ≡ length value → AreRising (rows_of slots bytes)
    → rows_of (with_slot slots new) (with_bytes bytes (place_of slots new.key) value) ≡ with_property (rows_of slots bytes) new.key (value_of new.kind new.flags value)
rows_with [] bytes value new packed size rising = ap (λ row. row ∷ []) (new_row new value (drop 0 bytes) size)
rows_with (slot ∷ slots) bytes value new packed size rising = by (nat_lt slot.key new.key) refl (slot.key == new.key) refl (rows_with slots (drop slot.size bytes) value new (rest_bytes slot slots bytes packed) size (rising_tail (row_of slot bytes) (rows_of slots (drop slot.size bytes)) rising))
  where
    by : (b : Bool) → nat_lt slot.key new.key ≡ b → (c : Bool) → (slot.key == new.key) ≡ c
        → rows_of (with_slot slots new) (with_bytes (drop slot.size bytes) (place_of slots new.key) value) ≡ with_property (rows_of slots (drop slot.size bytes)) new.key (value_of new.kind new.flags value)
        → rows_of (cond b (slot ∷ with_slot slots new) (cond c (new ∷ slots) (new ∷ slot ∷ slots)))
        (with_bytes bytes (cond b (behind 1 slot.size (place_of slots new.key)) (record { index = 0; offset = 0; former = cond c (Some slot.size) None })) value)
        ≡ with_property (row_of slot bytes ∷ rows_of slots (drop slot.size bytes)) new.key (value_of new.kind new.flags value)
    by true less c same more =
        let moved : List ℕ = with_bytes (drop slot.size bytes) (place_of slots new.key) value in
        ap (λ l. row_of slot l ∷ rows_of (with_slot slots new) (drop slot.size l)) (bytes_behind slot slots bytes (place_of slots new.key) value packed)
        ∙ (ap (λ l. (slot.key, value_of slot.kind slot.flags l) ∷ rows_of (with_slot slots new) (drop slot.size (take slot.size bytes ++ moved))) (take_at (take slot.size bytes) moved slot.size (front_bytes slot slots bytes packed))
        ∙ (ap (λ l. row_of slot bytes ∷ rows_of (with_slot slots new) l) (drop_at (take slot.size bytes) moved slot.size (front_bytes slot slots bytes packed))
        ∙ (ap (λ l. row_of slot bytes ∷ l) more ∙ sym (with_first (row_of slot bytes) (rows_of slots (drop slot.size bytes)) new.key (value_of new.kind new.flags value) (ltb-true slot.key new.key less)))))
    by false least true same more =
        ap (λ l. row_of new l ∷ rows_of slots (drop new.size l)) (with_former bytes value slot.size)
        ∙ (ap (λ row. row ∷ rows_of slots (drop new.size (value ++ drop slot.size bytes))) (new_row new value (drop slot.size bytes) size)
        ∙ (ap (λ l. (new.key, value_of new.kind new.flags value) ∷ rows_of slots l) (drop_at value (drop slot.size bytes) new.size (sym size))
        ∙ sym (with_equal (row_of slot bytes) (rows_of slots (drop slot.size bytes)) new.key (value_of new.kind new.flags value) rising (eqb-true slot.key new.key same))))
    by false least false other more =
        ap (λ row. row ∷ rows_of (slot ∷ slots) (drop new.size (value ++ bytes))) (new_row new value bytes size)
        ∙ (ap (λ l. (new.key, value_of new.kind new.flags value) ∷ rows_of (slot ∷ slots) l) (drop_at value bytes new.size (sym size))
        ∙ sym (with_least (row_of slot bytes) (rows_of slots (drop slot.size bytes)) new.key (value_of new.kind new.flags value) rising (greater slot.key new.key least other)))

-- ---- the room

pub length_rows : (slots : List Slot) (bytes : List ℕ) → length (rows_of slots bytes) ≡ length slots
length_rows [] bytes = refl
length_rows (slot ∷ slots) bytes = ap suc (length_rows slots (drop slot.size bytes))

pub bytes_in_rows : (slots : List Slot) (bytes : List ℕ) → size_of slots ≤ length bytes → bytes_in (rows_of slots bytes) ≡ size_of slots
bytes_in_rows [] bytes packed = refl
bytes_in_rows (slot ∷ slots) bytes packed =
    let front : length (take slot.size bytes) ≡ slot.size = front_bytes slot slots bytes packed in
    let rest : bytes_in (rows_of slots (drop slot.size bytes)) ≡ size_of slots = bytes_in_rows slots (drop slot.size bytes) (rest_bytes slot slots bytes packed) in
    omega (arith, front, rest)

pub length_with : (slots : List Slot) (new : Slot) → length (with_slot slots new) ≡ length slots + cond (is_none (place_of slots new.key).former) 1 0
length_with [] new = refl
length_with (slot ∷ slots) new = by (nat_lt slot.key new.key) (slot.key == new.key) (length_with slots new)
  where
    by : (b c : Bool) → length (with_slot slots new) ≡ length slots + cond (is_none (place_of slots new.key).former) 1 0
        → length (cond b (slot ∷ with_slot slots new) (cond c (new ∷ slots) (new ∷ slot ∷ slots)))
        ≡ suc (length slots) + cond (is_none (cond b (behind 1 slot.size (place_of slots new.key)) (record { index = 0; offset = 0; former = cond c (Some slot.size) None })).former) 1 0
    by true c h = omega (arith, h)
    by false true h = omega arith
    by false false h = omega arith

pub size_with : (slots : List Slot) (new : Slot) → size_of (with_slot slots new) + unwrap_or (place_of slots new.key).former 0 ≡ size_of slots + new.size
size_with [] new = omega arith
size_with (slot ∷ slots) new = by (nat_lt slot.key new.key) (slot.key == new.key) (size_with slots new)
  where
    by : (b c : Bool) → size_of (with_slot slots new) + unwrap_or (place_of slots new.key).former 0 ≡ size_of slots + new.size
        → size_of (cond b (slot ∷ with_slot slots new) (cond c (new ∷ slots) (new ∷ slot ∷ slots)))
        + unwrap_or (cond b (behind 1 slot.size (place_of slots new.key)) (record { index = 0; offset = 0; former = cond c (Some slot.size) None })).former 0
        ≡ slot.size + size_of slots + new.size
    by true c h = omega (arith, h)
    by false true h = omega arith
    by false false h = omega arith

pub length_with_bytes : (slots : List Slot) (bytes value : List ℕ) (key : ℕ) → size_of slots ≡ length bytes
    → length (with_bytes bytes (place_of slots key) value) + unwrap_or (place_of slots key).former 0 ≡ length bytes + length value
length_with_bytes slots bytes value key packed = by (place_of slots key) (place_within slots key)
  where
    by : (place : Place) → place.offset + unwrap_or place.former 0 ≤ size_of slots → length (with_bytes bytes place value) + unwrap_or place.former 0 ≡ length bytes + length value
    by place within =
        let former : ℕ = unwrap_or place.former 0 in
        let front : length (take place.offset bytes) ≡ place.offset = length-take-le place.offset bytes (omega (arith, within, packed)) in
        let back : length (drop (place.offset + former) bytes) ≡ length bytes - (place.offset + former) = length-drop (place.offset + former) bytes in
        let middle : length (value ++ drop (place.offset + former) bytes) ≡ length value + length (drop (place.offset + former) bytes) = length-append value (drop (place.offset + former) bytes) in
        let all : length (with_bytes bytes place value) ≡ length (take place.offset bytes) + length (value ++ drop (place.offset + former) bytes) = length-append (take place.offset bytes) (value ++ drop (place.offset + former) bytes) in
        omega (arith, within, packed, front, back, middle, all)

-- the slots and the bytes fit each other again
pub packed_with : (slots : List Slot) (bytes value : List ℕ) (new : Slot) → size_of slots ≡ length bytes → new.size ≡ length value
    → size_of (with_slot slots new) ≡ length (with_bytes bytes (place_of slots new.key) value)
packed_with slots bytes value new packed size = omega (arith, packed, size, size_with slots new, length_with_bytes slots bytes value new.key packed)

-- what is put leaves the rows with one more
pub put_rows : (slots : List Slot) (bytes value : List ℕ) (new : Slot) (place : Place) (slots' : List Slot) (bytes' : List ℕ) → place ≡ place_of slots new.key
    → slots' ≡ with_slot slots new → bytes' ≡ with_bytes bytes place value → size_of slots ≡ length bytes → new.size ≡ length value → AreRising (rows_of slots bytes)
    → rows_of slots' bytes' ≡ with_property (rows_of slots bytes) new.key (value_of new.kind new.flags value)
put_rows slots bytes value new place slots' bytes' there is_slots is_bytes packed size rising =
    ap (λ s. rows_of s bytes') is_slots
    ∙ (ap (rows_of (with_slot slots new)) (is_bytes ∙ ap (λ p. with_bytes bytes p value) there)
    ∙ rows_with slots bytes value new (omega (arith, packed)) size rising)

pub put_packed : (slots : List Slot) (bytes value : List ℕ) (new : Slot) (place : Place) (slots' : List Slot) (bytes' : List ℕ) → place ≡ place_of slots new.key
    → slots' ≡ with_slot slots new → bytes' ≡ with_bytes bytes place value → size_of slots ≡ length bytes → new.size ≡ length value → size_of slots' ≡ length bytes'
put_packed slots bytes value new place slots' bytes' there is_slots is_bytes packed size =
    ap size_of is_slots ∙ (packed_with slots bytes value new packed size ∙ ap length (sym (is_bytes ∙ ap (λ p. with_bytes bytes p value) there)))

-- what fits a shelf
pub slots_few : (slots : List Slot) (bytes : List ℕ) → fit (rows_of slots bytes) ≡ true → length slots ≤ MOST_PROPERTIES
slots_few slots bytes room =
    let few : length (rows_of slots bytes) ≤ MOST_PROPERTIES = leb-true (length (rows_of slots bytes)) MOST_PROPERTIES (and_parts (nat_le (length (rows_of slots bytes)) MOST_PROPERTIES) (nat_le (bytes_in (rows_of slots bytes)) MOST_BYTES) room).0 in
    omega (arith, few, length_rows slots bytes)

pub bytes_few : (slots : List Slot) (bytes : List ℕ) → size_of slots ≡ length bytes → fit (rows_of slots bytes) ≡ true → length bytes ≤ MOST_BYTES
bytes_few slots bytes packed room =
    let few : bytes_in (rows_of slots bytes) ≤ MOST_BYTES = leb-true (bytes_in (rows_of slots bytes)) MOST_BYTES (and_parts (nat_le (length (rows_of slots bytes)) MOST_PROPERTIES) (nat_le (bytes_in (rows_of slots bytes)) MOST_BYTES) room).1 in
    omega (arith, few, packed, bytes_in_rows slots bytes (omega (arith, packed)))

-- the room that one more takes
pub taken : (slots : List Slot) (bytes value : List ℕ) (new : Slot) → size_of slots ≡ length bytes → new.size ≡ length value → AreRising (rows_of slots bytes)
    → (length (with_property (rows_of slots bytes) new.key (value_of new.kind new.flags value)) ≡ length slots + cond (is_none (place_of slots new.key).former) 1 0)
    × (bytes_in (with_property (rows_of slots bytes) new.key (value_of new.kind new.flags value)) ≡ length bytes - unwrap_or (place_of slots new.key).former 0 + new.size)
taken slots bytes value new packed size rising =
    let rows : with_property (rows_of slots bytes) new.key (value_of new.kind new.flags value) ≡ rows_of (with_slot slots new) (with_bytes bytes (place_of slots new.key) value) =
    sym (rows_with slots bytes value new (omega (arith, packed)) size rising) in
    let together : size_of (with_slot slots new) ≡ length (with_bytes bytes (place_of slots new.key) value) = packed_with slots bytes value new packed size in
    let within : (place_of slots new.key).offset + unwrap_or (place_of slots new.key).former 0 ≤ size_of slots = place_within slots new.key in
    let held : bytes_in (rows_of (with_slot slots new) (with_bytes bytes (place_of slots new.key) value)) ≡ size_of (with_slot slots new) =
    bytes_in_rows (with_slot slots new) (with_bytes bytes (place_of slots new.key) value) (omega (arith, together)) in
    let size_is : size_of (with_slot slots new) + unwrap_or (place_of slots new.key).former 0 ≡ size_of slots + new.size = size_with slots new in (
      ap length rows ∙ (length_rows (with_slot slots new) (with_bytes bytes (place_of slots new.key) value) ∙ length_with slots new),
      ap bytes_in rows ∙ (held ∙ (omega (arith, size_is, within, packed))),
    )

-- there is room for it
pub fits : (slots : List Slot) (bytes value : List ℕ) (new : Slot) → size_of slots ≡ length bytes → new.size ≡ length value → AreRising (rows_of slots bytes)
    → length slots + cond (is_none (place_of slots new.key).former) 1 0 ≤ MOST_PROPERTIES → length bytes - unwrap_or (place_of slots new.key).former 0 + new.size ≤ MOST_BYTES
    → fit (with_property (rows_of slots bytes) new.key (value_of new.kind new.flags value)) ≡ true
fits slots bytes value new packed size rising few short =
    let now = taken slots bytes value new packed size rising in
    rw (now.0) (rw (now.1) (rw (le-leb _ _ few) (rw (le-leb _ _ short) refl)))

-- or there is none
pub full : (slots : List Slot) (bytes value : List ℕ) (new : Slot) → size_of slots ≡ length bytes → new.size ≡ length value → AreRising (rows_of slots bytes)
    → ((length slots + cond (is_none (place_of slots new.key).former) 1 0 ≤ MOST_PROPERTIES) × (length bytes - unwrap_or (place_of slots new.key).former 0 + new.size ≤ MOST_BYTES) → ⊥)
    → fit (with_property (rows_of slots bytes) new.key (value_of new.kind new.flags value)) ≡ false
full slots bytes value new packed size rising none =
    let now = taken slots bytes value new packed size rising in
    rw (now.0) (rw (now.1) (by (nat_le (length slots + cond (is_none (place_of slots new.key).former) 1 0) MOST_PROPERTIES) refl
    (nat_le (length bytes - unwrap_or (place_of slots new.key).former 0 + new.size) MOST_BYTES) refl))
  where
    by : (a : Bool) → nat_le (length slots + cond (is_none (place_of slots new.key).former) 1 0) MOST_PROPERTIES ≡ a
        → (b : Bool) → nat_le (length bytes - unwrap_or (place_of slots new.key).former 0 + new.size) MOST_BYTES ≡ b → (a && b) ≡ false
    by true few true short = absurd (none (leb-true _ _ few, leb-true _ _ short))
    by true few false long = refl
    by false many b short = refl

-- ---- where a slot and bytes are put

abbrev used : {A : Type 0} → Option A → ℕ
used o = cond (is_none o) 0 1

pub index_there : (slots : List Slot) (place : Place) (key size : ℕ) → place ≡ place_of slots key → place.former ≡ Some size → place.index < length slots
index_there slots place key size there held =
    let within : place.index + cond (is_none place.former) 0 1 ≤ length slots = subst (λ (p : Place). p.index + cond (is_none p.former) 0 1 ≤ length slots) (sym there) (index_within slots key) in
    let one : ◌≡◌ {A = ℕ} (cond (is_none place.former) 0 1) 1 = ap (used {A = ℕ}) held in
    omega (arith, within, one)

pub index_end : (slots : List Slot) (place : Place) (key : ℕ) → place ≡ place_of slots key → place.index ≤ length slots
index_end slots place key there =
    let within : place.index + cond (is_none place.former) 0 1 ≤ length slots = subst (λ (p : Place). p.index + cond (is_none p.former) 0 1 ≤ length slots) (sym there) (index_within slots key) in
    omega (arith, within)

pub former_within : (slots : List Slot) (bytes : List ℕ) (place : Place) (key : ℕ) → place ≡ place_of slots key → size_of slots ≡ length bytes → place.offset + unwrap_or place.former 0 ≤ length bytes
former_within slots bytes place key there packed =
    subst (λ (p : Place). p.offset + unwrap_or p.former 0 ≤ length bytes) (sym there) (let within : (place_of slots key).offset + unwrap_or (place_of slots key).former 0 ≤ size_of slots = place_within slots key in omega (arith, within, packed))

pub set_at_place : (slots : List Slot) (new : Slot) (place : Place) (size : ℕ) → place ≡ place_of slots new.key → place.former ≡ Some size → set slots place.index new ≡ with_slot slots new
set_at_place slots new place size there held = ap (λ (p : Place). set slots p.index new) there ∙ slots_set slots new size (ap (λ (p : Place). p.former) (sym there) ∙ held)

pub insert_at_place : (slots : List Slot) (new : Slot) (place : Place) → place ≡ place_of slots new.key → place.former ≡ None → insert slots place.index new ≡ with_slot slots new
insert_at_place slots new place there missing = ap (λ (p : Place). insert slots p.index new) there ∙ slots_insert slots new (ap (λ (p : Place). p.former) (sym there) ∙ missing)

-- a buffer that is turned to a place, cut, made longer and turned on
pub turned : (bytes value b1 b2 b3 b4 : List ℕ) (place : Place) (former behind : ℕ) → former ≡ unwrap_or place.former 0 → place.offset + former + behind ≡ length bytes
    → b1 ≡ drop (place.offset + former) bytes ++ take (place.offset + former) bytes → b2 ≡ take (behind + place.offset) b1 → b3 ≡ b2 ++ value → b4 ≡ drop behind b3 ++ take behind b3
    → b4 ≡ with_bytes bytes place value
turned bytes value b1 b2 b3 b4 place former behind is_former sizes is1 is2 is3 is4 =
    let n : ℕ = place.offset + former in
    let back : List ℕ = drop n bytes in
    let front : List ℕ = take place.offset bytes in
    let long : length back ≡ behind = length-drop n bytes ∙ omega (arith, sizes) in
    let fronts : take place.offset (take n bytes) ≡ front = take-take place.offset n bytes (omega arith) in
    let cut : take (behind + place.offset) (back ++ take n bytes) ≡ back ++ front =
    subst (λ k. take (k + place.offset) (back ++ take n bytes) ≡ back ++ front) long (take-append-add back (take n bytes) place.offset ∙ ap (λ l. back ++ l) fronts) in
    let third : b3 ≡ back ++ (front ++ value) = is3 ∙ (ap (λ l. l ++ value) (is2 ∙ (ap (take (behind + place.offset)) is1 ∙ cut)) ∙ append_assoc back front value) in
    is4
    ∙ (ap (λ l. drop behind l ++ take behind l) third
    ∙ (ap (λ l. l ++ take behind (back ++ (front ++ value))) (drop_at back (front ++ value) behind long)
    ∙ (ap (λ l. (front ++ value) ++ l) (take_at back (front ++ value) behind long)
    ∙ (append_assoc front value back ∙ ap (λ k. front ++ (value ++ drop (place.offset + k) bytes)) is_former))))

-- the same at a place that is known
pub fits_at : (slots : List Slot) (bytes value : List ℕ) (new : Slot) (place : Place) → place ≡ place_of slots new.key → size_of slots ≡ length bytes → new.size ≡ length value → AreRising (rows_of slots bytes)
    → length slots + cond (is_none place.former) 1 0 ≤ MOST_PROPERTIES → length bytes - unwrap_or place.former 0 + new.size ≤ MOST_BYTES
    → fit (with_property (rows_of slots bytes) new.key (value_of new.kind new.flags value)) ≡ true
fits_at slots bytes value new place there packed size rising few short =
    fits slots bytes value new packed size rising (subst (λ (p : Place). length slots + cond (is_none p.former) 1 0 ≤ MOST_PROPERTIES) there few)
    (subst (λ (p : Place). length bytes - unwrap_or p.former 0 + new.size ≤ MOST_BYTES) there short)

pub full_at : (slots : List Slot) (bytes value : List ℕ) (new : Slot) (place : Place) → place ≡ place_of slots new.key → size_of slots ≡ length bytes → new.size ≡ length value → AreRising (rows_of slots bytes)
    → ((length slots + cond (is_none place.former) 1 0 ≤ MOST_PROPERTIES) × (length bytes - unwrap_or place.former 0 + new.size ≤ MOST_BYTES) → ⊥)
    → fit (with_property (rows_of slots bytes) new.key (value_of new.kind new.flags value)) ≡ false
full_at slots bytes value new place there packed size rising none =
    full slots bytes value new packed size rising
    (subst (λ (p : Place). (length slots + cond (is_none p.former) 1 0 ≤ MOST_PROPERTIES) × (length bytes - unwrap_or p.former 0 + new.size ≤ MOST_BYTES) → ⊥) there none)
