-- What the store's answer says of the row.
use Rattle.std.proofs.Common.{◌≡◌, ℕ, ◌≤◌, Bool, true, false, cond, List, [], ◌∷◌, ◌++◌, Contains, length, take, ◌+◌, Result, Ok, Err, refl, ap, sym, subst, ◌∙◌, true≢false, arith}
use Rattle.std.specs.Prelude.{nat_le}
use Rattle.std.specs.List.{list_any}
use Rattle.std.proofs.lemmas.Bool.{false_from_ne_true, le-leb, leb-true, leb-false}
use Rattle.std.proofs.lemmas.List.{take-append-le, take_all, length-append}
use Rattle.triple_store.proofs.SameTerm.{contains_is, eq_of_triples, same_triple}
use Rattle.triple_store.specs.Triples.{Adds}
use Rattle.triple_store.specs.declared.fault.TheConstants.{MOST_ROWS}
use Rattle.triple_store.specs.declared.term.Term.{Term}
use Rattle.triple_store.specs.declared.term.Triple.{Triple}
use Rattle.turtle_document.specs.Meaning.{Fault, State, add, is_row}
use Rattle.turtle_document.specs.Meaning.Fault.{full_store}

abbrev pub triple : Term → Term → Term → Triple
triple s p o = record { s = s; p = p; o = o }

-- a row is there where the list contains it
there : (rows : List Triple) (t : Triple) → (list_any (same_triple t) rows ≡ true → Contains rows t) × (Contains rows t → list_any (same_triple t) rows ≡ true)
there rows t = subst (λ (eq : Triple → Triple → Bool). (list_any (eq t) rows ≡ true → Contains rows t) × (Contains rows t → list_any (eq t) rows ≡ true)) eq_of_triples (contains_is rows t)

is_there : (rows : List Triple) (s p o : Term) → Contains rows (triple s p o) → is_row s p o rows ≡ true
is_there rows s p o h = (there rows (triple s p o)).1 h

is_new : (rows : List Triple) (s p o : Term) → (Contains rows (triple s p o) → ⊥) → is_row s p o rows ≡ false
is_new rows s p o h = false_from_ne_true _ (λ e. h ((there rows (triple s p o)).0 e))

-- the add by whether the row is there, and whether the rows are most
abbrev pub add_by : Bool → Bool → ℕ → Triple → State → Result State Fault
add_by there full at t st = cond there (Ok st) (cond full (Err (full_store at)) (Ok (record st { rows = st.rows ++ t ∷ [] })))

pub added : (at : ℕ) (s p o : Term) (st : State) (new : List Triple) (newly : Bool)
    → Adds st.rows (triple s p o) newly new → (newly ≡ true → nat_le MOST_ROWS (length st.rows) ≡ false) → add at s p o st ≡ Ok (record st { rows = new })
added at s p o st new true adds room =
    ap (λ b. add_by b (nat_le MOST_ROWS (length st.rows)) at (triple s p o) st) (is_new st.rows s p o adds.0)
    ∙ ap (λ b. add_by false b at (triple s p o) st) (room refl)
    ∙ ap (λ rows. Ok (record st { rows = rows })) (sym adds.1)
added at s p o st new false adds room =
    ap (λ b. add_by b (nat_le MOST_ROWS (length st.rows)) at (triple s p o) st) (is_there st.rows s p o adds.0)
    ∙ ap (λ rows. Ok (record st { rows = rows })) (sym adds.1)

pub refused : (at : ℕ) (s p o : Term) (st : State) → (Contains st.rows (triple s p o) → ⊥) → nat_le MOST_ROWS (length st.rows) ≡ true → add at s p o st ≡ Err (full_store at)
refused at s p o st absent full =
    ap (λ b. add_by b (nat_le MOST_ROWS (length st.rows)) at (triple s p o) st) (is_new st.rows s p o absent)
    ∙ ap (λ b. add_by false b at (triple s p o) st) full

-- a row that was added newly wasn't there
pub newly : (old new : List Triple) (t : Triple) (n : Bool) → n ≡ true → Adds old t n new → Contains old t → ⊥
newly old new t true e adds = adds.0
newly old new t false e adds = absurd (true≢false (sym e))

-- a row that was added newly had room
not_full_by : (old new : List Triple) (t : Triple) (n : Bool) (full : Bool) → nat_le MOST_ROWS (length old) ≡ full → Adds old t n new → n ≡ true → length old ≤ MOST_ROWS
    → (length old ≡ MOST_ROWS → (Contains old t → ⊥) → ⊥) → full ≡ false
not_full_by old new t n false e adds is_new few not = refl
not_full_by old new t n true e adds is_new few not = let most = leb-true MOST_ROWS (length old) e in absurd (not (omega (arith, most, few)) (newly old new t n is_new adds))

pub not_full : (old new : List Triple) (t : Triple) (n : Bool) → Adds old t n new → n ≡ true → length old ≤ MOST_ROWS
    → (length old ≡ MOST_ROWS → (Contains old t → ⊥) → ⊥) → nat_le MOST_ROWS (length old) ≡ false
not_full old new t n adds is_new few not = not_full_by old new t n (nat_le MOST_ROWS (length old)) refl adds is_new few not

pub room_left : (old new : List Triple) (t : Triple) (n : Bool) → Adds old t n new → length old ≤ MOST_ROWS
    → (length old ≡ MOST_ROWS → (Contains old t → ⊥) → ⊥) → length new ≤ MOST_ROWS
room_left old new t true adds few not =
    let small = leb-false MOST_ROWS (length old) (not_full old new t true adds refl few not) in
    let long : length new ≡ length old + 1 = ap length adds.1 ∙ length-append old (t ∷ []) in omega (arith, small, long)
room_left old new t false adds few not = let same : length new ≡ length old = ap length adds.1 in omega (arith, same, few)

pub full_at : (rows : List Triple) → length rows ≡ MOST_ROWS → nat_le MOST_ROWS (length rows) ≡ true
full_at rows e = le-leb MOST_ROWS (length rows) (omega arith)

-- the rows before are kept where one is added or none
pub kept_added : (n : ℕ) (old new : List Triple) (t : Triple) (newly : Bool) → n ≤ length old → Adds old t newly new → take n new ≡ take n old
kept_added n old new t true within h = ap (take n) h.1 ∙ take-append-le n old (t ∷ []) within
kept_added n old new t false within h = ap (take n) h.1

pub held_added : (n : ℕ) (old new : List Triple) (t : Triple) (newly : Bool) → n ≤ length old → Adds old t newly new → n ≤ length new
held_added n old new t true within h = let long : length new ≡ length old + 1 = ap length h.1 ∙ length-append old (t ∷ []) in omega arith
held_added n old new t false within h = let same : length new ≡ length old = ap length h.1 in omega arith

pub kept_same : (n : ℕ) (old new : List Triple) → new ≡ old → take n new ≡ take n old
kept_same n old new e = ap (take n) e

pub all_kept : (n : ℕ) (store : List Triple) → n ≡ length store → take n store ≡ store
all_kept n store e = ap (λ m. take m store) e ∙ take_all (length store) store (omega arith)
