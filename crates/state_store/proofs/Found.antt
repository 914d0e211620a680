-- What a binary search by keys tells of a map.
use Rattle.std.proofs.Common.{◌≡◌, ◌⊎◌, inl, inr, ℕ, ◌+◌, ◌<◌, ◌≤◌, ◌==◌, Bool, true, false, cond, List, length, get_or, Option, None, Some, Result, Ok, Err, All, MatchResult, refl, sym, ap, subst, arith, ⊎_elim, ne_eqb}
use Rattle.std.proofs.lemmas.Bool.{cases_lt}
use Rattle.std.specs.Cmp.{ranked}
use Rattle.std.specs.List.{AllWithin}
use Rattle.std.specs.List.Sorted.{IsBinarySearchResult, IsSearchInRange, IsNonDecreasingBy}
use Rattle.std.specs.Ordering.{nat_cmp, ordering_index}
use Rattle.std.specs.declared.cmp.Ordering.TheVariants.{Less, Equal, Greater}
use Rattle.std.proofs.Common.{tests}
use Rattle.state_store.specs.Properties.{AreRising, held}
use Rattle.state_store.specs.declared.prop.Prop.{Prop}
use Rattle.state_store.proofs.Ordered.{held_at, held_none}

higher : (a b key : ℕ) → a ≤ b → ordering_index (nat_cmp a key) ≤ ordering_index (nat_cmp b key)
higher a b key le = grind (arith, tests)

rising_orders : (rows : List (ℕ × Prop)) (key : ℕ) → AreRising rows → IsNonDecreasingBy (λ (row : ℕ × Prop). ordering_index (nat_cmp row.0 key)) rows
rising_orders rows key rising i j d le within =
    ⊎_elim (λ less. higher (get_or rows i d).0 (get_or rows j d).0 key (let below : (get_or rows i d).0 < (get_or rows j d).0 = rising i j d less within in omega arith))
    (λ least. subst (λ k. ordering_index (nat_cmp (get_or rows i d).0 key) ≤ ordering_index (nat_cmp (get_or rows k d).0 key)) (let same : i ≡ j = omega (arith, least, le) in same) (omega arith))
    (cases_lt i j)

pub retrieved : (rows : List (ℕ × Prop)) (key : ℕ) (r : Result ℕ ℕ) → AreRising rows → IsBinarySearchResult (λ (row : ℕ × Prop). nat_cmp row.0 key) rows r → IsSearchInRange r (length rows)
    → MatchResult r (λ place. (row : ℕ × Prop) → row ≡ get_or rows place row → held rows key ≡ Some row.1) (λ _. held rows key ≡ None)
retrieved rows key (Ok place) rising found within = λ row here.
    held_at rows place key row rising within here (ranked row.0 key Equal (sym (subst (λ (r : ℕ × Prop). nat_cmp r.0 key ≡ Equal) (sym here) (found row))))
retrieved rows key (Err place) rising parted within = held_none rows key (λ k d inside. ne_eqb key (get_or rows k d).0 (apart k d inside))
  where
    parts : AllWithin (λ (row : ℕ × Prop). nat_cmp row.0 key ≡ Less) rows 0 place × AllWithin (λ (row : ℕ × Prop). nat_cmp row.0 key ≡ Greater) rows place (length rows)
    parts = parted (rising_orders rows key rising)

    apart : (k : ℕ) (d : ℕ × Prop) → k < length rows → key ≡ (get_or rows k d).0 → ⊥
    apart k d inside same =
        ⊎_elim (λ less. let low : (get_or rows k d).0 < key = ranked (get_or rows k d).0 key Less (sym (parts.0 k d (omega arith) less)) in omega (arith, low, same))
        (λ least. let high : key < (get_or rows k d).0 = ranked (get_or rows k d).0 key Greater (sym (parts.1 k d least inside)) in omega (arith, high, same))
        (cases_lt k place)
