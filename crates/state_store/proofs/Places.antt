-- The place of a key, found from the front.
use Rattle.std.proofs.Common.{◌≡◌, ℕ, suc, ◌+◌, ◌<◌, ◌≤◌, ◌==◌, nat_lt, Bool, true, false, cond, List, [], ◌∷◌, length, get_or, drop, Option, None, Some, refl, sym, ap, subst, ◌∙◌, arith, add_assoc, add-zero, drop-cons, add-one, lt-ltb, le-ltb}
use Rattle.std.proofs.lemmas.List.{drop_all}
use Rattle.state_store.specs.Slots.{size_of, behind, place_of}
use Rattle.state_store.specs.declared.slots.Slot.{Slot}
use Rattle.state_store.specs.declared.slots.Place.{Place}

-- a list from a place on
from_here : {X : Type 0} (xs : List X) (i : ℕ) (x : X) → i < length xs → x ≡ get_or xs i x → drop i xs ≡ x ∷ drop (i + 1) xs
from_here xs i x within here = drop-cons xs i x within ∙ (ap (λ y. y ∷ drop (suc i) xs) (sym here) ∙ ap (λ n. x ∷ drop n xs) (let e : suc i ≡ i + 1 = omega arith in e))

-- so many slots and bytes after others
behind_behind : (i o size : ℕ) (place : Place) → behind i o (behind 1 size place) ≡ behind (i + 1) (o + size) place
behind_behind i o size place =
    let indexes : i + (1 + place.index) ≡ i + 1 + place.index = omega arith in
    let offsets : o + (size + place.offset) ≡ o + size + place.offset = omega arith in
    ap (λ n. record { index = n; offset = o + (size + place.offset); former = place.former }) indexes
    ∙ ap (λ n. record { index = i + 1 + place.index; offset = n; former = place.former }) offsets

-- no slots and no bytes
pub place_start : (slots : List Slot) (key : ℕ) → place_of slots key ≡ behind 0 0 (place_of slots key)
place_start slots key =
    let place : Place = place_of slots key in
    let indexes : place.index ≡ 0 + place.index = omega arith in
    let offsets : place.offset ≡ 0 + place.offset = omega arith in
    ap (λ n. record { index = n; offset = place.offset; former = place.former }) indexes
    ∙ ap (λ n. record { index = 0 + place.index; offset = n; former = place.former }) offsets

-- a slot with a lower key stands before the place
pub place_later : (slots : List Slot) (i o key : ℕ) (slot : Slot) → i < length slots → slot ≡ get_or slots i slot → slot.key < key
    → behind i o (place_of (drop i slots) key) ≡ behind (i + 1) (o + slot.size) (place_of (drop (i + 1) slots) key)
place_later slots i o key slot within here less =
    ap (λ left. behind i o (place_of left key)) (from_here slots i slot within here)
    ∙ (ap (λ b. behind i o (cond b (behind 1 slot.size (place_of (drop (i + 1) slots) key)) (record { index = 0; offset = 0; former = cond (slot.key == key) (Some slot.size) None }))) (lt-ltb slot.key key less)
    ∙ behind_behind i o slot.size (place_of (drop (i + 1) slots) key))

-- the first other slot is at the place, or the place is before it
pub place_here : (slots : List Slot) (i o key : ℕ) (slot : Slot) → i < length slots → slot ≡ get_or slots i slot → key ≤ slot.key
    → behind i o (place_of (drop i slots) key) ≡ record { index = i; offset = o; former = cond (slot.key == key) (Some slot.size) None }
place_here slots i o key slot within here least =
    ap (λ left. behind i o (place_of left key)) (from_here slots i slot within here)
    ∙ (ap (λ b. behind i o (cond b (behind 1 slot.size (place_of (drop (i + 1) slots) key)) (record { index = 0; offset = 0; former = cond (slot.key == key) (Some slot.size) None }))) (le-ltb slot.key key least)
    ∙ here_at i o (cond (slot.key == key) (Some slot.size) None))
  where
    here_at : (i o : ℕ) (former : Option ℕ) → behind i o (record { index = 0; offset = 0; former = former }) ≡ record { index = i; offset = o; former = former }
    here_at i o former =
        let indexes : i + 0 ≡ i = omega arith in
        let offsets : o + 0 ≡ o = omega arith in
        ap (λ n. record { index = n; offset = o + 0; former = former }) indexes ∙ ap (λ n. record { index = i; offset = n; former = former }) offsets

-- there is none
pub place_end : (slots : List Slot) (i o key : ℕ) → length slots ≤ i → behind i o (place_of (drop i slots) key) ≡ record { index = i; offset = o; former = None }
place_end slots i o key all =
    let indexes : i + 0 ≡ i = omega arith in
    let offsets : o + 0 ≡ o = omega arith in
    ap (λ left. behind i o (place_of left key)) (drop_all i slots all)
    ∙ (ap (λ n. record { index = n; offset = o + 0; former = None }) indexes ∙ ap (λ n. record { index = i; offset = n; former = None }) offsets)

pub size_later : (slots : List Slot) (i : ℕ) (slot : Slot) → i < length slots → slot ≡ get_or slots i slot → size_of (drop i slots) ≡ slot.size + size_of (drop (i + 1) slots)
size_later slots i slot within here = ap size_of (from_here slots i slot within here)
