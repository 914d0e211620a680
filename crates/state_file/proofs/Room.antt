-- Room for the properties that are left.
use Rattle.std.proofs.Common.{◌≡◌, ℕ, suc, ◌+◌, ◌<◌, ◌≤◌, Bool, true, false, cond, List, [], ◌∷◌, ◌++◌, length, refl, ap, ◌∙◌, arith, ltb-true}
use Rattle.std.specs.Prelude.{◌&&◌, nat_lt}
use Rattle.std.proofs.lemmas.Bool.{le-leb}
use Rattle.triple_store.specs.declared.term.Triple.{Triple}
use Rattle.state_store.specs.Properties.{below, above, with_property, bytes_in, fit}
use Rattle.state_store.specs.declared.prop.Prop.{Prop}
use Rattle.state_store.specs.declared.status.TheConstants.{MOST_PROPERTIES, MOST_BYTES}
use Rattle.state_file.specs.Reading.{key_number, prop_of}
use Rattle.state_file.specs.Ready.{HaveRoom}

-- a row is put below or above a key, or left out
kept-rows : (rows : List (ℕ × Prop)) (key : ℕ) → length (below key rows) + length (above key rows) ≤ length rows
kept-rows [] key = omega arith
kept-rows (row ∷ rows) key = by (kept-rows rows key) (nat_lt row.0 key) refl (nat_lt key row.0) refl
  where
    by : length (below key rows) + length (above key rows) ≤ length rows → (a : Bool) → nat_lt row.0 key ≡ a → (b : Bool) → nat_lt key row.0 ≡ b
        → length (cond a (row ∷ below key rows) (below key rows)) + length (cond b (row ∷ above key rows) (above key rows)) ≤ suc (length rows)
    by more true less true greater = let p : row.0 < key = ltb-true row.0 key less in let q : key < row.0 = ltb-true key row.0 greater in omega arith
    by more true less false greater = omega arith
    by more false less true greater = omega arith
    by more false less false greater = omega arith

bytes-append : (a b : List (ℕ × Prop)) → bytes_in (a ++ b) ≡ bytes_in a + bytes_in b
bytes-append [] b = omega arith
bytes-append (row ∷ a) b = let e : bytes_in (a ++ b) ≡ bytes_in a + bytes_in b = bytes-append a b in omega arith

kept-bytes : (rows : List (ℕ × Prop)) (key : ℕ) → bytes_in (below key rows) + bytes_in (above key rows) ≤ bytes_in rows
kept-bytes [] key = omega arith
kept-bytes (row ∷ rows) key = by (kept-bytes rows key) (nat_lt row.0 key) refl (nat_lt key row.0) refl
  where
    by : bytes_in (below key rows) + bytes_in (above key rows) ≤ bytes_in rows → (a : Bool) → nat_lt row.0 key ≡ a → (b : Bool) → nat_lt key row.0 ≡ b
        → bytes_in (cond a (row ∷ below key rows) (below key rows)) + bytes_in (cond b (row ∷ above key rows) (above key rows)) ≤ length row.1.bytes + bytes_in rows
    by more true less true greater = let p : row.0 < key = ltb-true row.0 key less in let q : key < row.0 = ltb-true key row.0 greater in omega arith
    by more true less false greater = omega arith
    by more false less true greater = omega arith
    by more false less false greater = omega arith

lengths : {X : Type 0} (a b : List X) → length (a ++ b) ≡ length a + length b
lengths [] b = omega arith
lengths (x ∷ a) b = let e : length (a ++ b) ≡ length a + length b = lengths a b in omega arith

pub with-length : (rows : List (ℕ × Prop)) (key : ℕ) (prop : Prop) → length (with_property rows key prop) ≤ length rows + 1
with-length rows key prop =
    let e : length (with_property rows key prop) ≡ length (below key rows) + suc (length (above key rows)) = lengths (below key rows) ((key, prop) ∷ above key rows) in
    let kept : length (below key rows) + length (above key rows) ≤ length rows = kept-rows rows key in
    omega arith

pub with-bytes : (rows : List (ℕ × Prop)) (key : ℕ) (prop : Prop) → bytes_in (with_property rows key prop) ≤ bytes_in rows + length prop.bytes
with-bytes rows key prop =
    let e : bytes_in (with_property rows key prop) ≡ bytes_in (below key rows) + (length prop.bytes + bytes_in (above key rows)) = bytes-append (below key rows) ((key, prop) ∷ above key rows) in
    let kept : bytes_in (below key rows) + bytes_in (above key rows) ≤ bytes_in rows = kept-bytes rows key in
    omega arith

both : (a b : Bool) → a ≡ true → b ≡ true → (a && b) ≡ true
both a b p q = ap (λ v. v && b) p ∙ q

pub fits : (rows : List (ℕ × Prop)) (key : ℕ) (prop : Prop) → length rows + 1 ≤ MOST_PROPERTIES → bytes_in rows + length prop.bytes ≤ MOST_BYTES → fit (with_property rows key prop) ≡ true
fits rows key prop few short =
    let many : length (with_property rows key prop) ≤ length rows + 1 = with-length rows key prop in
    let size : bytes_in (with_property rows key prop) ≤ bytes_in rows + length prop.bytes = with-bytes rows key prop in
    both _ _ (le-leb (length (with_property rows key prop)) MOST_PROPERTIES (omega arith)) (le-leb (bytes_in (with_property rows key prop)) MOST_BYTES (omega arith))

-- for the next property
pub room-here : (rows : List Triple) (urids : List (List ℕ)) (held : List (ℕ × Prop)) (property : Triple) (properties : List Triple) → HaveRoom rows held (property ∷ properties)
    → fit (with_property held (key_number urids property) (prop_of rows urids property)) ≡ true
room-here rows urids held property properties room =
    let few = room.0 in
    let short = room.1 in
    fits held (key_number urids property) (prop_of rows urids property) (omega arith) (omega arith)

-- and for those after it
pub room-next : (rows : List Triple) (urids : List (List ℕ)) (held : List (ℕ × Prop)) (property : Triple) (properties : List Triple) → HaveRoom rows held (property ∷ properties)
    → HaveRoom rows (with_property held (key_number urids property) (prop_of rows urids property)) properties
room-next rows urids held property properties room =
    let few = room.0 in
    let short = room.1 in
    let many = with-length held (key_number urids property) (prop_of rows urids property) in
    let size = with-bytes held (key_number urids property) (prop_of rows urids property) in
    (omega arith, omega arith)
