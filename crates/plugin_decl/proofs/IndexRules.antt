-- What the rules on indexes test.
use Rattle.std.proofs.Common.{◌≡◌, ℕ, ◌<◌, ◌≤◌, Bool, true, false, cond, List, [], ◌∷◌, length, map, min, count_by, Option, None, Some, IfSome, ℤ, pos, negsuc, refl, sym, ◌∙◌, ap, subst, ⊎_elim, arith}
use Rattle.std.specs.Prelude.{nat_lt, nat_le, not, ◌&&◌, is_none}
use Rattle.std.specs.List.{list_any}
use Rattle.std.specs.Option.{option_and_then}
use Rattle.std.proofs.lemmas.Bool.{cases_lt, le-ltb, lt-ltb, false≢true}
use Rattle.std.proofs.lemmas.Bool.Decides.{nat_tests}
use Rattle.triple_store.specs.declared.term.Term.{Term}
use Rattle.triple_store.specs.declared.term.Triple.{Triple}
use Rattle.plugin_decl.specs.Values.{natural_in, up_to}
use Rattle.plugin_decl.specs.Ports.{index_of}
use Rattle.plugin_decl.specs.Declaration.{ports_in_rows, indexes_of, is_index}
use Rattle.plugin_decl.specs.Rules.{passes_at, breaks}
use Rattle.plugin_decl.specs.Rules.Rule.{bad_index, same_index, gap}
use Rattle.plugin_decl.specs.Checks.{AreIndexes}
use Rattle.plugin_decl.proofs.Checking.{IsTest}

-- each rule, where the code has these indexes
pub test-bad_index : (rows : List Triple) (plugin : Term) (block : ℕ) (indexes : List (Option ℕ)) → indexes ≡ indexes_of rows plugin → IsTest rows plugin block bad_index (passes_at is_none indexes)
unfolding breaks
test-bad_index rows plugin block indexes e = record { same = λ place. ap (λ xs. passes_at is_none xs place) (sym e) }

pub test-same_index : (rows : List Triple) (plugin : Term) (block : ℕ) (indexes : List (Option ℕ)) → indexes ≡ indexes_of rows plugin → IsTest rows plugin block same_index (λ i. nat_lt 1 (count_by (is_index i) indexes))
unfolding breaks
test-same_index rows plugin block indexes e = record { same = λ i. ap (λ xs. nat_lt 1 (count_by (is_index i) xs)) (sym e) }

pub test-gap : (rows : List Triple) (plugin : Term) (block : ℕ) (indexes : List (Option ℕ)) → indexes ≡ indexes_of rows plugin → IsTest rows plugin block gap (λ i. nat_lt i (length indexes) && not (list_any (is_index i) indexes))
unfolding breaks
test-gap rows plugin block indexes e = record { same = λ i. ap (λ xs. nat_lt i (length xs) && not (list_any (is_index i) xs)) (sym e) }

-- ---- indexes are below 256

within_by : (n most : ℕ) (b : Bool) → nat_le n most ≡ b → IfSome (cond b (Some n) None) (λ i. i ≤ most)
within_by n most false e = tt
within_by n most true e = grind (arith, nat_tests)

up_to-within : (most : ℕ) (z : Option ℤ) → IfSome (up_to most z) (λ i. i ≤ most)
up_to-within most None = tt
up_to-within most (Some (negsuc n)) = tt
up_to-within most (Some (pos n)) = within_by n most (nat_le n most) refl

pub natural_in-within : (most : ℕ) (term : Term) → IfSome (natural_in most term) (λ i. i ≤ most)
unfolding natural_in
natural_in-within most term = up_to-within most _

small_by : (o : Option ℕ) → IfSome o (λ i. i ≤ 255) → IfSome o (λ i. i < 256)
small_by None h = tt
small_by (Some i) h = omega arith

small_of : (term : Option Term) → IfSome (option_and_then (natural_in 255) term) (λ i. i < 256)
small_of None = tt
small_of (Some term) = small_by (natural_in 255 term) (natural_in-within 255 term)

are-small : (rows : List Triple) (ports : List Term) → AreIndexes (map (index_of rows) ports)
unfolding index_of
are-small rows [] = tt
are-small rows (port ∷ ports) = (small_of _, are-small rows ports)

pub AreIndexes-of : (rows : List Triple) (plugin : Term) (indexes : List (Option ℕ)) → indexes ≡ indexes_of rows plugin → AreIndexes indexes
AreIndexes-of rows plugin indexes e = subst AreIndexes (sym e) (are-small rows (ports_in_rows rows plugin))

-- so a number from 256 on is no index
miss : (i : ℕ) (o : Option ℕ) → IfSome o (λ j. j < 256) → 256 ≤ i → is_index i o ≡ false
miss i None h far = refl
miss i (Some j) h far = grind (arith, nat_tests)

count-far : (indexes : List (Option ℕ)) (i : ℕ) → AreIndexes indexes → 256 ≤ i → count_by (is_index i) indexes ≡ 0
count-far [] i h far = refl
count-far (x ∷ xs) i h far = rw (miss i x h.0 far) (count-far xs i h.1 far)

any-far : (indexes : List (Option ℕ)) (i : ℕ) → AreIndexes indexes → 256 ≤ i → list_any (is_index i) indexes ≡ false
any-far [] i h far = refl
any-far (x ∷ xs) i h far = rw (miss i x h.0 far) (any-far xs i h.1 far)

-- where no index below 256 stands twice, none does
pub never-repeated : (indexes : List (Option ℕ)) → AreIndexes indexes → ((k : ℕ) → k < 256 → nat_lt 1 (count_by (is_index k) indexes) ≡ false) → (place : ℕ) → nat_lt 1 (count_by (is_index place) indexes) ≡ false
never-repeated indexes h none place = ⊎_elim
    (λ (near : place < 256). none place near)
    (λ (far : 256 ≤ place). rw (count-far indexes place h far) refl)
    (cases_lt place 256)

-- an index below the number of ports that doesn't stand
pub gap-at : (indexes : List (Option ℕ)) (i : ℕ) → i < length indexes → list_any (is_index i) indexes ≡ false → (nat_lt i (length indexes) && not (list_any (is_index i) indexes)) ≡ true
gap-at indexes i h e = rw (lt-ltb i (length indexes) h, e) refl

and-false : (b : Bool) → (b && false) ≡ false
and-false true = refl
and-false false = refl

-- and one that does
pub no_gap-at : (indexes : List (Option ℕ)) (i : ℕ) → list_any (is_index i) indexes ≡ true → (nat_lt i (length indexes) && not (list_any (is_index i) indexes)) ≡ false
no_gap-at indexes i e = rw e (and-false (nat_lt i (length indexes)))

-- where each index below both 257 and the number of ports stands, none is missing
pub no_gaps : (indexes : List (Option ℕ)) (n : ℕ) → n ≡ min (length indexes) 257 → AreIndexes indexes → ((k : ℕ) → k < n → list_any (is_index k) indexes ≡ true) → (place : ℕ) → (nat_lt place (length indexes) && not (list_any (is_index place) indexes)) ≡ false
no_gaps indexes n e h there place = ⊎_elim
    (λ (near : place < n). no_gap-at indexes place (there place near))
    (λ (far : n ≤ place). ⊎_elim
    (λ (many : 256 < length indexes). absurd (false≢true (sym (any-far indexes 256 h (omega arith)) ∙ there 256 (omega arith))))
    (λ (few : length indexes ≤ 256). rw (le-ltb place (length indexes) (omega arith)) refl)
    (cases_lt 256 (length indexes)))
    (cases_lt place n)

-- where none is missing, there are at most 256 ports
pub few-ports : (indexes : List (Option ℕ)) → AreIndexes indexes → ((place : ℕ) → (nat_lt place (length indexes) && not (list_any (is_index place) indexes)) ≡ false) → length indexes ≤ 256
few-ports indexes h none = ⊎_elim
    (λ (many : 256 < length indexes). absurd (false≢true (sym (none 256) ∙ gap-at indexes 256 many (any-far indexes 256 h (omega arith)))))
    (λ (few : length indexes ≤ 256). few)
    (cases_lt 256 (length indexes))
