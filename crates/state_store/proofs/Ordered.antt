-- The rows of a map: they rise, also with one more, and tell what each key has.
use Rattle.std.proofs.Common.{◌≡◌, ◌≢◌, ℕ, zero, suc, ◌+◌, ◌<◌, ◌≤◌, ◌==◌, nat_lt, Bool, true, false, cond, List, [], ◌∷◌, ◌++◌, length, filter, Option, None, Some, All, AllPairs, get_or, unwrap_or, true≢false, refl, sym, ap, subst, ◌∙◌, arith, ltb-true, ltb-false, lt-ltb, le-ltb, eq-eqb, ne_eqb, eqb-true, ap₂}
use Rattle.std.specs.List.{AllPass}
use Rattle.std.proofs.lemmas.List.Elements.{All-nil, All-cons, All-head, All-tail, All-append, All-filter, All-weaker, filter_passes}
use Rattle.std.proofs.lemmas.List.Kept.{AllPairs-cons, AllPairs-filter}
use Rattle.state_store.specs.Properties.{AreRising, held, below, above, with_property}
use Rattle.state_store.specs.declared.prop.Prop.{Prop}

-- ---- filters

pub filter_all : {X : Type 0} (test : X → Bool) (xs : List X) → AllPass test xs → filter test xs ≡ xs
filter_all test [] all = refl
filter_all test (x ∷ xs) all = rw (All-head (λ y. test y ≡ true) x xs all) (ap (λ l. x ∷ l) (filter_all test xs (All-tail (λ y. test y ≡ true) x xs all)))

pub filter_none : {X : Type 0} (test : X → Bool) (xs : List X) → All (λ x. test x ≡ false) xs → filter test xs ≡ []
filter_none test [] none = refl
filter_none test (x ∷ xs) none = rw (All-head (λ y. test y ≡ false) x xs none) (filter_none test xs (All-tail (λ y. test y ≡ false) x xs none))

-- ---- what rises

-- the first key is below all others
pub rising_head : (row : ℕ × Prop) (rows : List (ℕ × Prop)) → AreRising (row ∷ rows) → All (λ later. row.0 < later.0) rows
rising_head row rows rising k d within = rising 0 (suc k) d (omega arith) (omega arith)

pub rising_tail : (row : ℕ × Prop) (rows : List (ℕ × Prop)) → AreRising (row ∷ rows) → AreRising rows
rising_tail row rows rising i j d before within = rising (suc i) (suc j) d (omega arith) (omega arith)

-- where the first key isn't below a key, none is
pub none_below : (row : ℕ × Prop) (rows : List (ℕ × Prop)) (key : ℕ) → AreRising (row ∷ rows) → key ≤ row.0 → below key rows ≡ []
none_below row rows key rising least =
    filter_none (λ (other : ℕ × Prop). nat_lt other.0 key) rows
    (All-weaker (λ (later : ℕ × Prop). row.0 < later.0) (λ other. nat_lt other.0 key ≡ false) (λ other more. le-ltb other.0 key (omega (arith, more, least))) rows (rising_head row rows rising))

-- and all others are above it
pub all_above : (row : ℕ × Prop) (rows : List (ℕ × Prop)) (key : ℕ) → AreRising (row ∷ rows) → key ≤ row.0 → above key rows ≡ rows
all_above row rows key rising least =
    filter_all (λ (other : ℕ × Prop). nat_lt key other.0) rows
    (All-weaker (λ (later : ℕ × Prop). row.0 < later.0) (λ other. nat_lt key other.0 ≡ true) (λ other more. lt-ltb key other.0 (omega (arith, more, least))) rows (rising_head row rows rising))

-- ---- one row more

-- a row before the key stays the first
pub with_first : (row : ℕ × Prop) (rows : List (ℕ × Prop)) (key : ℕ) (prop : Prop) → row.0 < key → with_property (row ∷ rows) key prop ≡ row ∷ with_property rows key prop
with_first row rows key prop less = rw (lt-ltb row.0 key less) (rw (le-ltb key row.0 (omega (arith, less))) refl)

-- the key stands before all greater ones
pub with_least : (row : ℕ × Prop) (rows : List (ℕ × Prop)) (key : ℕ) (prop : Prop) → AreRising (row ∷ rows) → key < row.0 → with_property (row ∷ rows) key prop ≡ (key, prop) ∷ row ∷ rows
with_least row rows key prop rising less =
    rw (le-ltb row.0 key (omega (arith, less)))
    (rw (lt-ltb key row.0 less)
    (rw (none_below row rows key rising (omega (arith, less))) (rw (all_above row rows key rising (omega (arith, less))) refl)))

-- and takes the place of an equal one
pub with_equal : (row : ℕ × Prop) (rows : List (ℕ × Prop)) (key : ℕ) (prop : Prop) → AreRising (row ∷ rows) → row.0 ≡ key → with_property (row ∷ rows) key prop ≡ (key, prop) ∷ rows
with_equal row rows key prop rising same =
    rw (le-ltb row.0 key (omega (arith, same)))
    (rw (le-ltb key row.0 (omega (arith, same)))
    (rw (none_below row rows key rising (omega (arith, same))) (rw (all_above row rows key rising (omega (arith, same))) refl)))

-- what all rows and the new one are, all with the new one are
pub all_with : (P : ℕ × Prop → Type 0) (rows : List (ℕ × Prop)) (key : ℕ) (prop : Prop) → All P rows → P (key, prop) → All P (with_property rows key prop)
all_with P rows key prop all one =
    All-append P (below key rows) ((key, prop) ∷ above key rows) (All-filter (λ (row : ℕ × Prop). nat_lt row.0 key) P rows all)
    (All-cons P (key, prop) (above key rows) one (All-filter (λ (row : ℕ × Prop). nat_lt key row.0) P rows all))

pub rising_with : (rows : List (ℕ × Prop)) (key : ℕ) (prop : Prop) → AreRising rows → AreRising (with_property rows key prop)
rising_with [] key prop rising = AllPairs-cons (λ before after. before.0 < after.0) (key, prop) [] (All-nil (λ (after : ℕ × Prop). key < after.0)) rising
rising_with (row ∷ rows) key prop rising = by (rising_with rows key prop (rising_tail row rows rising)) (nat_lt row.0 key) refl (nat_lt key row.0) refl
  where
    by : AreRising (with_property rows key prop) → (b : Bool) → nat_lt row.0 key ≡ b → (c : Bool) → nat_lt key row.0 ≡ c → AreRising (with_property (row ∷ rows) key prop)
    by more true less c _ =
        subst AreRising (sym (with_first row rows key prop (ltb-true row.0 key less)))
        (AllPairs-cons (λ before after. before.0 < after.0) row (with_property rows key prop)
        (all_with (λ (after : ℕ × Prop). row.0 < after.0) rows key prop (rising_head row rows rising) (ltb-true row.0 key less)) more)
    by more false least true above' =
        subst AreRising (sym (with_least row rows key prop rising (ltb-true key row.0 above')))
        (AllPairs-cons (λ before after. before.0 < after.0) (key, prop) (row ∷ rows)
        (All-cons (λ (after : ℕ × Prop). key < after.0) row rows (ltb-true key row.0 above')
        (All-weaker (λ (after : ℕ × Prop). row.0 < after.0) (λ after. key < after.0)
        (λ after later. let first : key < row.0 = ltb-true key row.0 above' in omega (arith, later, first)) rows (rising_head row rows rising)))
        rising)
    by more false least false most =
        let same : row.0 ≡ key = omega (arith, ltb-false row.0 key least, ltb-false key row.0 most) in
        subst AreRising (sym (with_equal row rows key prop rising same))
        (AllPairs-cons (λ before after. before.0 < after.0) (key, prop) rows
        (subst (λ k. All (λ (after : ℕ × Prop). k < after.0) rows) same (rising_head row rows rising)) (rising_tail row rows rising))

-- ---- what each key has

-- no row has the key
pub held_none : (rows : List (ℕ × Prop)) (key : ℕ) → All (λ row. (key == row.0) ≡ false) rows → held rows key ≡ None
held_none [] key none = refl
held_none (row ∷ rows) key none =
    rw (All-head (λ (r : ℕ × Prop). (key == r.0) ≡ false) row rows none) (held_none rows key (All-tail (λ (r : ℕ × Prop). (key == r.0) ≡ false) row rows none))

-- the row at a place has it
pub held_at : (rows : List (ℕ × Prop)) (place key : ℕ) (row : ℕ × Prop) → AreRising rows → place < length rows → row ≡ get_or rows place row → row.0 ≡ key → held rows key ≡ Some row.1
held_at [] place key row rising within here same = absurd (omega (arith, within))
held_at (first ∷ rows) zero key row rising within here same =
    let own : (key == first.0) ≡ true = eq-eqb key first.0 (sym (sym (ap (λ (r : ℕ × Prop). r.0) here) ∙ same)) in
    rw own (ap (λ (r : ℕ × Prop). Some r.1) (sym here))
held_at (first ∷ rows) (suc place) key row rising within here same =
    let later : first.0 < (get_or rows place row).0 = rising_head first rows rising place row (omega (arith, within)) in
    let key_is : (get_or rows place row).0 ≡ key = ap (λ (r : ℕ × Prop). r.0) (sym here) ∙ same in
    let other : (key == first.0) ≡ false = ne_eqb key first.0 (λ e. omega (arith, later, key_is, e)) in
    rw other (held_at rows place key row (rising_tail first rows rising) (omega (arith, within)) here same)

-- what stands in two parts
or_else : Option Prop → Option Prop → Option Prop
or_else (Some prop) other = Some prop
or_else None other = other

held-append : (rows more : List (ℕ × Prop)) (key : ℕ) → held (rows ++ more) key ≡ or_else (held rows key) (held more key)
unfolding or_else
held-append [] more key = refl
held-append (row ∷ rows) more key = by (key == row.0) (held-append rows more key)
  where
    by : (b : Bool) → held (rows ++ more) key ≡ or_else (held rows key) (held more key)
        → cond b (Some row.1) (held (rows ++ more) key) ≡ or_else (cond b (Some row.1) (held rows key)) (held more key)
    by true h = refl
    by false h = h

-- rows that a test of their keys lets through
held-passing : (test : ℕ → Bool) (rows : List (ℕ × Prop)) (key : ℕ) → test key ≡ true → held (filter (λ row. test row.0) rows) key ≡ held rows key
held-passing test [] key pass = refl
held-passing test (row ∷ rows) key pass = by (test row.0) refl (key == row.0) refl (held-passing test rows key pass)
  where
    by : (b : Bool) → test row.0 ≡ b → (c : Bool) → (key == row.0) ≡ c → held (filter (λ row. test row.0) rows) key ≡ held rows key
        → held (cond b (row ∷ filter (λ row. test row.0) rows) (filter (λ row. test row.0) rows)) key ≡ cond c (Some row.1) (held rows key)
    by true passes true same h = rw same refl
    by true passes false other h = rw other h
    by false fails true same h = absurd (true≢false (sym pass ∙ (ap test (eqb-true key row.0 same) ∙ fails)))
    by false fails false other h = h

held-stopped : (test : ℕ → Bool) (rows : List (ℕ × Prop)) (key : ℕ) → test key ≡ false → held (filter (λ row. test row.0) rows) key ≡ None
held-stopped test [] key stop = refl
held-stopped test (row ∷ rows) key stop = by (test row.0) refl (key == row.0) refl (held-stopped test rows key stop)
  where
    by : (b : Bool) → test row.0 ≡ b → (c : Bool) → (key == row.0) ≡ c → held (filter (λ row. test row.0) rows) key ≡ None
        → held (cond b (row ∷ filter (λ row. test row.0) rows) (filter (λ row. test row.0) rows)) key ≡ None
    by true passes true same h = absurd (true≢false (sym passes ∙ (ap test (sym (eqb-true key row.0 same)) ∙ stop)))
    by true passes false other h = rw other h
    by false fails c same h = h

-- the key has what was stored
pub held_stored : (rows : List (ℕ × Prop)) (key : ℕ) (prop : Prop) → held (with_property rows key prop) key ≡ Some prop
unfolding or_else
held_stored rows key prop =
    held-append (below key rows) ((key, prop) ∷ above key rows) key
    ∙ (ap (λ o. or_else o (held ((key, prop) ∷ above key rows) key)) (held-stopped (λ k. nat_lt k key) rows key (le-ltb key key (omega arith)))
    ∙ rw (eq-eqb key key refl) refl)

-- and every other what it had
pub held_other : (rows : List (ℕ × Prop)) (key : ℕ) (prop : Prop) (other : ℕ) → other ≢ key → held (with_property rows key prop) other ≡ held rows other
unfolding or_else
held_other rows key prop other apart = held-append (below key rows) ((key, prop) ∷ above key rows) other ∙ by (nat_lt other key) refl (nat_lt key other) refl
  where
    rest : held ((key, prop) ∷ above key rows) other ≡ held (above key rows) other
    rest = rw (ne_eqb other key apart) refl

    first_alone : (o : Option Prop) → or_else o None ≡ o
    first_alone None = refl
    first_alone (Some prop) = refl

    by : (b : Bool) → nat_lt other key ≡ b → (c : Bool) → nat_lt key other ≡ c → or_else (held (below key rows) other) (held ((key, prop) ∷ above key rows) other) ≡ held rows other
    by true less c _ =
        ap (λ o. or_else (held (below key rows) other) o) (rest ∙ held-stopped (λ k. nat_lt key k) rows other (le-ltb key other (omega (arith, ltb-true other key less))))
        ∙ (first_alone (held (below key rows) other) ∙ held-passing (λ k. nat_lt k key) rows other less)
    by false least true more =
        ap (λ o. or_else o (held ((key, prop) ∷ above key rows) other)) (held-stopped (λ k. nat_lt k key) rows other least)
        ∙ (rest ∙ held-passing (λ k. nat_lt key k) rows other more)
    by false least false most = absurd (apart (omega (arith, ltb-false other key least, ltb-false key other most)))

-- ---- a map is what its keys have

-- no key is below the first
held_below : (row : ℕ × Prop) (rows : List (ℕ × Prop)) (key : ℕ) → AreRising (row ∷ rows) → key < row.0 → held (row ∷ rows) key ≡ None
held_below row rows key rising less =
    held_none (row ∷ rows) key
    (All-cons (λ (r : ℕ × Prop). (key == r.0) ≡ false) row rows (ne_eqb key row.0 (λ e. omega (arith, less, e)))
    (All-weaker (λ (r : ℕ × Prop). row.0 < r.0) (λ r. (key == r.0) ≡ false) (λ r later. ne_eqb key r.0 (λ e. omega (arith, less, later, e))) rows (rising_head row rows rising)))

-- nor does it stand again
held_after : (row : ℕ × Prop) (rows : List (ℕ × Prop)) (key : ℕ) → AreRising (row ∷ rows) → key ≡ row.0 → held rows key ≡ None
held_after row rows key rising same =
    held_none rows key (All-weaker (λ (r : ℕ × Prop). row.0 < r.0) (λ r. (key == r.0) ≡ false) (λ r later. ne_eqb key r.0 (λ e. omega (arith, same, later, e))) rows (rising_head row rows rising))

held_first : (row : ℕ × Prop) (rows : List (ℕ × Prop)) (key : ℕ) → key ≡ row.0 → held (row ∷ rows) key ≡ Some row.1
held_first row rows key same = rw (eq-eqb key row.0 same) refl

none_is_some : {X : Type 0} (x : X) → ◌≡◌ {A = Option X} None (Some x) → ⊥
none_is_some x e = cc

pub same_map : (a b : List (ℕ × Prop)) → AreRising a → AreRising b → ((key : ℕ) → held a key ≡ held b key) → a ≡ b
same_map [] [] up up' alike = refl
same_map [] (y ∷ ys) up up' alike = absurd (none_is_some y.1 (alike y.0 ∙ held_first y ys y.0 refl))
same_map (x ∷ xs) [] up up' alike = absurd (none_is_some x.1 (sym (alike x.0) ∙ held_first x xs x.0 refl))
same_map (x ∷ xs) (y ∷ ys) up up' alike = ap₂ (λ row rows. row ∷ rows) first (same_map xs ys (rising_tail x xs up) (rising_tail y ys up') (λ key. later key (key == x.0) refl))
  where
    keys : x.0 ≡ y.0
    keys = by (nat_lt x.0 y.0) refl (nat_lt y.0 x.0) refl
      where
        by : (b : Bool) → nat_lt x.0 y.0 ≡ b → (c : Bool) → nat_lt y.0 x.0 ≡ c → x.0 ≡ y.0
        by true less c _ = absurd (none_is_some x.1 (sym (held_below y ys x.0 up' (ltb-true x.0 y.0 less)) ∙ (sym (alike x.0) ∙ held_first x xs x.0 refl)))
        by false least true more = absurd (none_is_some y.1 (sym (held_below x xs y.0 up (ltb-true y.0 x.0 more)) ∙ (alike y.0 ∙ held_first y ys y.0 refl)))
        by false least false most = omega (arith, ltb-false x.0 y.0 least, ltb-false y.0 x.0 most)

    values : x.1 ≡ y.1
    values =
        let both : Some x.1 ≡ Some y.1 = sym (held_first x xs x.0 refl) ∙ (alike x.0 ∙ held_first y ys x.0 keys) in
        ap (λ o. unwrap_or o x.1) both

    first : x ≡ y
    first = ap₂ (λ k v. (k, v)) keys values

    later : (key : ℕ) (b : Bool) → (key == x.0) ≡ b → held xs key ≡ held ys key
    later key true same = held_after x xs key up (eqb-true key x.0 same) ∙ sym (held_after y ys key up' (eqb-true key x.0 same ∙ keys))
    later key false other =
        let other' : (key == y.0) ≡ false = subst (λ k. (key == k) ≡ false) keys other in
        let here : held (x ∷ xs) key ≡ held xs key = rw other refl in
        let there : held (y ∷ ys) key ≡ held ys key = rw other' refl in
        sym here ∙ (alike key ∙ there)
