-- The properties of a state in the order of a file are the same properties.
use Rattle.std.proofs.Common.{◌≡◌, ℕ, suc, ◌+◌, ◌<◌, ◌==◌, Bool, true, false, not, cond, List, [], ◌∷◌, ◌++◌, length, map, take, drop, Some, refl, sym, ap, ◌∙◌, subst, arith, length-append, All, eq-eqb, ne_eqb}
use Rattle.std.specs.Prelude.{fold, insert}
use Rattle.std.proofs.lemmas.List.Elements.{All-head, All-tail}
use Rattle.std.proofs.lemmas.List.{take-append-drop, take-map, drop-map, map-append}
use Rattle.std.specs.List.{position_or_len, AllByRecursion}
use Rattle.state_file.specs.Order.{comes_before, placed, in_order}
use Rattle.state_store.proofs.Ordered.{rising_head, rising_tail}
use Rattle.state_store.specs.Properties.{AreRising, held}
use Rattle.state_store.specs.declared.prop.Prop.{Prop}
use Rattle.state_round.proofs.Words.{placed_row, in_file}

-- ---- what all are

pub all_joined : {X : Type 0} (P : X → Type 0) (a b : List X) → AllByRecursion P a → AllByRecursion P b → AllByRecursion P (a ++ b)
all_joined P [] b h k = k
all_joined P (x ∷ a) b h k = (h.0, all_joined P a b h.1 k)

pub all_front : {X : Type 0} (P : X → Type 0) (a b : List X) → AllByRecursion P (a ++ b) → AllByRecursion P a
all_front P [] b h = tt
all_front P (x ∷ a) b h = (h.0, all_front P a b h.1)

pub all_back : {X : Type 0} (P : X → Type 0) (a b : List X) → AllByRecursion P (a ++ b) → AllByRecursion P b
all_back P [] b h = h
all_back P (x ∷ a) b h = all_back P a b h.1

abbrev pub place : List (List ℕ) → List (ℕ × Prop) → ℕ × Prop → ℕ
place urids rows row = position_or_len (λ (other : ℕ × Prop). comes_before urids row.0 other.0) rows

pub all_placed : (P : ℕ × Prop → Type 0) (urids : List (List ℕ)) (rows : List (ℕ × Prop)) (row : ℕ × Prop) → AllByRecursion P rows → P row → AllByRecursion P (placed_row urids rows row)
all_placed P urids rows row all one =
    let parts : AllByRecursion P (take (place urids rows row) rows ++ drop (place urids rows row) rows) = subst (AllByRecursion P) (sym (take-append-drop (place urids rows row) rows)) all in
    all_joined P (take (place urids rows row) rows) (row ∷ drop (place urids rows row) rows) (all_front P (take (place urids rows row) rows) (drop (place urids rows row) rows) parts)
    (one, all_back P (take (place urids rows row) rows) (drop (place urids rows row) rows) parts)

all_folded : (P : ℕ × Prop → Type 0) (urids : List (List ℕ)) (held rows : List (ℕ × Prop)) → AllByRecursion P held → AllByRecursion P rows → AllByRecursion P (fold (placed_row urids) held rows)
all_folded P urids held [] h k = h
all_folded P urids held (row ∷ rows) h k = all_folded P urids (placed_row urids held row) rows (all_placed P urids held row h k.0) k.1

pub all_in_file : (P : ℕ × Prop → Type 0) (urids : List (List ℕ)) (rows : List (ℕ × Prop)) → AllByRecursion P rows → AllByRecursion P (in_file urids rows)
all_in_file P urids rows h = all_folded P urids [] rows tt h

-- ---- how many

length_placed : (urids : List (List ℕ)) (rows : List (ℕ × Prop)) (row : ℕ × Prop) → length (placed_row urids rows row) ≡ suc (length rows)
length_placed urids rows row =
    let whole : length (take (place urids rows row) rows ++ drop (place urids rows row) rows) ≡ length rows = ap length (take-append-drop (place urids rows row) rows) in
    omega (arith, whole, length-append (take (place urids rows row) rows) (drop (place urids rows row) rows), length-append (take (place urids rows row) rows) (row ∷ drop (place urids rows row) rows))

length_folded : (urids : List (List ℕ)) (held rows : List (ℕ × Prop)) → length (fold (placed_row urids) held rows) ≡ length held + length rows
length_folded urids held [] = omega arith
length_folded urids held (row ∷ rows) = let more = length_folded urids (placed_row urids held row) rows in omega (arith, more, length_placed urids held row)

pub length_in_file : (urids : List (List ℕ)) (rows : List (ℕ × Prop)) → length (in_file urids rows) ≡ length rows
length_in_file urids rows = let all = length_folded urids [] rows in omega (arith, all)

-- ---- by keys alone

position_mapped : (test : ℕ → Bool) (rows : List (ℕ × Prop)) → position_or_len test (map (λ row. row.0) rows) ≡ position_or_len (λ (row : ℕ × Prop). test row.0) rows
position_mapped test [] = refl
position_mapped test (row ∷ rows) = ap (λ n. cond (not (test row.0)) (1 + n) 0) (position_mapped test rows)

placed_mapped : (urids : List (List ℕ)) (held : List (ℕ × Prop)) (row : ℕ × Prop) → placed urids (map (λ row. row.0) held) row.0 ≡ map (λ row. row.0) (placed_row urids held row)
placed_mapped urids held row =
    ap (λ n. insert (map (λ (row : ℕ × Prop). row.0) held) n row.0) (position_mapped (comes_before urids row.0) held)
    ∙ ap (λ l. l ++ row.0 ∷ drop (place urids held row) (map (λ (row : ℕ × Prop). row.0) held)) (take-map (λ (row : ℕ × Prop). row.0) (place urids held row) held)
    ∙ ap (λ l. map (λ (row : ℕ × Prop). row.0) (take (place urids held row) held) ++ row.0 ∷ l) (drop-map (λ (row : ℕ × Prop). row.0) (place urids held row) held)
    ∙ sym (map-append (λ (row : ℕ × Prop). row.0) (take (place urids held row) held) (row ∷ drop (place urids held row) held))

keys_folded : (urids : List (List ℕ)) (held rows : List (ℕ × Prop)) → fold (placed urids) (map (λ row. row.0) held) (map (λ row. row.0) rows) ≡ map (λ row. row.0) (fold (placed_row urids) held rows)
keys_folded urids held [] = refl
keys_folded urids held (row ∷ rows) = ap (λ l. fold (placed urids) l (map (λ (row : ℕ × Prop). row.0) rows)) (placed_mapped urids held row) ∙ keys_folded urids (placed_row urids held row) rows

pub keys_in_order : (urids : List (List ℕ)) (rows : List (ℕ × Prop)) → in_order urids (map (λ row. row.0) rows) ≡ map (λ row. row.0) (in_file urids rows)
keys_in_order urids rows = keys_folded urids [] rows

-- ---- keys that rise

to_recursion : (P : ℕ × Prop → Type 0) (rows : List (ℕ × Prop)) → All P rows → AllByRecursion P rows
to_recursion P [] all = tt
to_recursion P (row ∷ rows) all = (All-head P row rows all, to_recursion P rows (All-tail P row rows all))

-- the keys of all rows are below that of each later one
abbrev pub Rise : List (ℕ × Prop) → Type 0
Rise [] = Unit {0}
Rise (row ∷ rows) = AllByRecursion (λ (later : ℕ × Prop). row.0 < later.0) rows × Rise rows

pub rise_from : (rows : List (ℕ × Prop)) → AreRising rows → Rise rows
rise_from [] rising = tt
rise_from (row ∷ rows) rising = (to_recursion (λ later. row.0 < later.0) rows (rising_head row rows rising), rise_from rows (rising_tail row rows rising))

-- each row is found by its key
held_later : (row : ℕ × Prop) (rows all : List (ℕ × Prop)) → AllByRecursion (λ (later : ℕ × Prop). row.0 < later.0) rows → AllByRecursion (λ (later : ℕ × Prop). held all later.0 ≡ Some later.1) rows
    → AllByRecursion (λ (later : ℕ × Prop). held (row ∷ all) later.0 ≡ Some later.1) rows
held_later row [] all above found = tt
held_later row (later ∷ rows) all above found =
    (other (later.0 == row.0) (ne_eqb later.0 row.0 (λ e. let less = above.0 in omega (arith, less, e))) ∙ found.0, held_later row rows all above.1 found.1)
  where
    other : (b : Bool) → b ≡ false → cond b (Some row.1) (held all later.0) ≡ held all later.0
    other true e = cc
    other false e = refl

pub held_each : (rows : List (ℕ × Prop)) → Rise rows → AllByRecursion (λ (row : ℕ × Prop). held rows row.0 ≡ Some row.1) rows
held_each [] rise = tt
held_each (row ∷ rows) rise = (own (row.0 == row.0) (eq-eqb row.0 row.0 refl), held_later row rows rows rise.0 (held_each rows rise.1))
  where
    own : (b : Bool) → b ≡ true → cond b (Some row.1) (held rows row.0) ≡ Some row.1
    own true e = refl
    own false e = cc
