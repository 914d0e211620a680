-- Storing the properties in the order of a file leaves them in the order of their keys, and all of them.
use Rattle.std.proofs.Common.{◌≡◌, ℕ, ◌+◌, ◌<◌, nat_lt, Bool, true, false, cond, List, [], ◌∷◌, ◌++◌, length, take, drop, filter, refl, sym, ap, ◌∙◌, subst, arith, append_assoc, append-nil, lt-ltb, le-ltb}
use Rattle.std.specs.Prelude.{fold}
use Rattle.std.proofs.lemmas.List.{take-append-drop}
use Rattle.std.proofs.lemmas.List.Elements.{filter-append}
use Rattle.std.specs.List.{AllByRecursion}
use Rattle.state_store.specs.Properties.{below, above, with_property, bytes_in}
use Rattle.state_store.specs.declared.prop.Prop.{Prop}
use Rattle.state_round.proofs.Words.{placed_row, in_file}
use Rattle.state_round.proofs.Order.{Rise, place, all_joined, all_front, all_back, all_placed}

-- what is held once rows are stored in turn
abbrev pub kept : List (ℕ × Prop) → List (ℕ × Prop) → List (ℕ × Prop)
kept held rows = fold (λ (held : List (ℕ × Prop)) (row : ℕ × Prop). with_property held row.0 row.1) held rows

kept-append : (held a b : List (ℕ × Prop)) → kept held (a ++ b) ≡ kept (kept held a) b
kept-append held [] b = refl
kept-append held (row ∷ a) b = kept-append (with_property held row.0 row.1) a b

-- all keys are below this one
abbrev AllBelow : ℕ → List (ℕ × Prop) → Type 0
AllBelow key rows = AllByRecursion (λ (row : ℕ × Prop). row.0 < key) rows

below_all : (key : ℕ) (rows : List (ℕ × Prop)) → AllBelow key rows → below key rows ≡ rows
below_all key [] all = refl
below_all key (row ∷ rows) all = by (nat_lt row.0 key) (lt-ltb row.0 key all.0) (below_all key rows all.1)
  where
    by : (b : Bool) → b ≡ true → below key rows ≡ rows → cond b (row ∷ below key rows) (below key rows) ≡ row ∷ rows
    by true e rest = ap (λ l. row ∷ l) rest
    by false e rest = cc

above_none : (key : ℕ) (rows : List (ℕ × Prop)) → AllBelow key rows → above key rows ≡ []
above_none key [] all = refl
above_none key (row ∷ rows) all = by (nat_lt key row.0) (le-ltb key row.0 (let less = all.0 in omega (arith, less))) (above_none key rows all.1)
  where
    by : (b : Bool) → b ≡ false → above key rows ≡ [] → cond b (row ∷ above key rows) (above key rows) ≡ []
    by true e rest = cc
    by false e rest = rest

-- a greater key comes last, and stays there
with_last : (rows : List (ℕ × Prop)) (row : ℕ × Prop) → AllBelow row.0 rows → with_property rows row.0 row.1 ≡ rows ++ row ∷ []
with_last rows row all = ap (λ l. l ++ row ∷ above row.0 rows) (below_all row.0 rows all) ∙ ap (λ l. rows ++ row ∷ l) (above_none row.0 rows all)

with_before : (rows : List (ℕ × Prop)) (last row : ℕ × Prop) → row.0 < last.0 → with_property (rows ++ last ∷ []) row.0 row.1 ≡ with_property rows row.0 row.1 ++ last ∷ []
with_before rows last row less =
    ap (λ l. l ++ row ∷ above row.0 (rows ++ last ∷ [])) (filter-append (λ (other : ℕ × Prop). nat_lt other.0 row.0) rows (last ∷ []) ∙ ap (λ b. below row.0 rows ++ cond b (last ∷ []) []) (le-ltb last.0 row.0 (omega (arith, less))) ∙ append-nil (below row.0 rows))
    ∙ ap (λ l. below row.0 rows ++ row ∷ l) (filter-append (λ (other : ℕ × Prop). nat_lt row.0 other.0) rows (last ∷ []) ∙ ap (λ b. above row.0 rows ++ cond b (last ∷ []) []) (lt-ltb row.0 last.0 less))
    ∙ sym (append_assoc (below row.0 rows) (row ∷ above row.0 rows) (last ∷ []))

kept_before : (held rows : List (ℕ × Prop)) (last : ℕ × Prop) → AllBelow last.0 rows → kept (held ++ last ∷ []) rows ≡ kept held rows ++ last ∷ []
kept_before held [] last all = refl
kept_before held (row ∷ rows) last all = ap (λ l. kept l rows) (with_before held last row all.0) ∙ kept_before (with_property held row.0 row.1) rows last all.1

all_filtered : (P : ℕ × Prop → Type 0) (test : ℕ × Prop → Bool) (rows : List (ℕ × Prop)) → AllByRecursion P rows → AllByRecursion P (filter test rows)
all_filtered P test [] all = tt
all_filtered P test (row ∷ rows) all = by (test row) (all_filtered P test rows all.1)
  where
    by : (b : Bool) → AllByRecursion P (filter test rows) → AllByRecursion P (cond b (row ∷ filter test rows) (filter test rows))
    by true rest = (all.0, rest)
    by false rest = rest

kept_below : (key : ℕ) (held rows : List (ℕ × Prop)) → AllBelow key held → AllBelow key rows → AllBelow key (kept held rows)
kept_below key held [] h k = h
kept_below key held (row ∷ rows) h k =
    kept_below key (with_property held row.0 row.1) rows
    (all_joined (λ (row : ℕ × Prop). row.0 < key) (below row.0 held) (row ∷ above row.0 held) (all_filtered (λ (row : ℕ × Prop). row.0 < key) (λ (other : ℕ × Prop). nat_lt other.0 row.0) held h)
    (k.0, all_filtered (λ (row : ℕ × Prop). row.0 < key) (λ (other : ℕ × Prop). nat_lt row.0 other.0) held h))
    k.1

kept_placed : (urids : List (List ℕ)) (held : List (ℕ × Prop)) (row : ℕ × Prop) → AllBelow row.0 held → kept [] (placed_row urids held row) ≡ kept [] held ++ row ∷ []
kept_placed urids held row all =
    let whole : AllBelow row.0 (take (place urids held row) held ++ drop (place urids held row) held) = subst (AllBelow row.0) (sym (take-append-drop (place urids held row) held)) all in
    let first : AllBelow row.0 (take (place urids held row) held) = all_front (λ (other : ℕ × Prop). other.0 < row.0) (take (place urids held row) held) (drop (place urids held row) held) whole in
    let second : AllBelow row.0 (drop (place urids held row) held) = all_back (λ (other : ℕ × Prop). other.0 < row.0) (take (place urids held row) held) (drop (place urids held row) held) whole in
    kept-append [] (take (place urids held row) held) (row ∷ drop (place urids held row) held)
    ∙ ap (λ l. kept l (drop (place urids held row) held)) (with_last (kept [] (take (place urids held row) held)) row (kept_below row.0 [] (take (place urids held row) held) tt first))
    ∙ kept_before (kept [] (take (place urids held row) held)) (drop (place urids held row) held) row second
    ∙ ap (λ l. l ++ row ∷ []) (sym (kept-append [] (take (place urids held row) held) (drop (place urids held row) held)) ∙ ap (kept []) (take-append-drop (place urids held row) held))

-- each of these is above all that were placed
abbrev AreAbove : List (ℕ × Prop) → List (ℕ × Prop) → Type 0
AreAbove held rows = AllByRecursion (λ (row : ℕ × Prop). AllBelow row.0 held) rows

above_next : (urids : List (List ℕ)) (held : List (ℕ × Prop)) (row : ℕ × Prop) (rows : List (ℕ × Prop)) → AreAbove held rows → AllByRecursion (λ (later : ℕ × Prop). row.0 < later.0) rows → AreAbove (placed_row urids held row) rows
above_next urids held row [] all later = tt
above_next urids held row (next ∷ rows) all later =
    (all_placed (λ (other : ℕ × Prop). other.0 < next.0) urids held row all.0 later.0, above_next urids held row rows all.1 later.1)

kept_folded : (urids : List (List ℕ)) (held rows : List (ℕ × Prop)) → AreAbove held rows → Rise rows → kept [] (fold (placed_row urids) held rows) ≡ kept [] held ++ rows
kept_folded urids held [] all rise = sym (append-nil (kept [] held))
kept_folded urids held (row ∷ rows) all rise =
    kept_folded urids (placed_row urids held row) rows (above_next urids held row rows all.1 rise.0) rise.1
    ∙ ap (λ l. l ++ rows) (kept_placed urids held row all.0) ∙ append_assoc (kept [] held) (row ∷ []) rows

above_nothing : (rows : List (ℕ × Prop)) → AreAbove [] rows
above_nothing [] = tt
above_nothing (row ∷ rows) = (tt, above_nothing rows)

pub kept_in_file : (urids : List (List ℕ)) (rows : List (ℕ × Prop)) → Rise rows → kept [] (in_file urids rows) ≡ rows
kept_in_file urids rows rise = kept_folded urids [] rows (above_nothing rows) rise

-- ---- how many bytes

bytes_joined : (a b : List (ℕ × Prop)) → bytes_in (a ++ b) ≡ bytes_in a + bytes_in b
bytes_joined [] b = omega arith
bytes_joined (row ∷ a) b = let more = bytes_joined a b in omega (arith, more)

bytes_placed : (urids : List (List ℕ)) (held : List (ℕ × Prop)) (row : ℕ × Prop) → bytes_in (placed_row urids held row) ≡ bytes_in held + length row.1.bytes
bytes_placed urids held row =
    let whole : bytes_in (take (place urids held row) held ++ drop (place urids held row) held) ≡ bytes_in held = ap bytes_in (take-append-drop (place urids held row) held) in
    omega (arith, whole, bytes_joined (take (place urids held row) held) (drop (place urids held row) held), bytes_joined (take (place urids held row) held) (row ∷ drop (place urids held row) held))

bytes_folded : (urids : List (List ℕ)) (held rows : List (ℕ × Prop)) → bytes_in (fold (placed_row urids) held rows) ≡ bytes_in held + bytes_in rows
bytes_folded urids held [] = omega arith
bytes_folded urids held (row ∷ rows) = let more = bytes_folded urids (placed_row urids held row) rows in omega (arith, more, bytes_placed urids held row)

pub bytes_in_file : (urids : List (List ℕ)) (rows : List (ℕ × Prop)) → bytes_in (in_file urids rows) ≡ bytes_in rows
bytes_in_file urids rows = let all = bytes_folded urids [] rows in omega (arith, all)

-- ---- each key once

abbrev pub AreApart : ℕ × Prop → ℕ × Prop → Type 0
AreApart row other = row.0 ≡ other.0 → ⊥

abbrev pub Once : List (ℕ × Prop) → Type 0
Once [] = Unit {0}
Once (row ∷ rows) = AllByRecursion (AreApart row) rows × Once rows

once_joined : (a b : List (ℕ × Prop)) (row : ℕ × Prop) → Once (a ++ b) → AllBelow row.0 (a ++ b) → Once (a ++ row ∷ b)
once_joined [] b row once all = (apart b all, once)
  where
    apart : (b : List (ℕ × Prop)) → AllBelow row.0 b → AllByRecursion (AreApart row) b
    apart [] all = tt
    apart (other ∷ b) all = (λ e. let less = all.0 in omega (arith, less, e), apart b all.1)
once_joined (other ∷ a) b row once all = (
  all_joined (AreApart other) a (row ∷ b) (all_front (AreApart other) a b once.0) (λ e. let less = all.0 in omega (arith, less, e), all_back (AreApart other) a b once.0),
  once_joined a b row once.1 all.1,
)

once_placed : (urids : List (List ℕ)) (held : List (ℕ × Prop)) (row : ℕ × Prop) → Once held → AllBelow row.0 held → Once (placed_row urids held row)
once_placed urids held row once all =
    once_joined (take (place urids held row) held) (drop (place urids held row) held) row (subst Once (sym (take-append-drop (place urids held row) held)) once) (subst (AllBelow row.0) (sym (take-append-drop (place urids held row) held)) all)

once_folded : (urids : List (List ℕ)) (held rows : List (ℕ × Prop)) → Once held → AreAbove held rows → Rise rows → Once (fold (placed_row urids) held rows)
once_folded urids held [] once all rise = once
once_folded urids held (row ∷ rows) once all rise = once_folded urids (placed_row urids held row) rows (once_placed urids held row once all.0) (above_next urids held row rows all.1 rise.0) rise.1

pub once_in_file : (urids : List (List ℕ)) (rows : List (ℕ × Prop)) → Rise rows → Once (in_file urids rows)
once_in_file urids rows rise = once_folded urids [] rows tt (above_nothing rows) rise
