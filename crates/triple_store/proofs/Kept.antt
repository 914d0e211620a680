-- What a store keeps, after an added row and after a cut.
use Rattle.std.proofs.Common.{◌≡◌, ◌≢◌, ℕ, zero, suc, ◌-◌, ◌<◌, ◌≤◌, max, List, [], ◌∷◌, ◌++◌, length, take, get_or, Contains, refl, ap, sym, subst, ◌∙◌, arith, length-append}
use Rattle.std.proofs.lemmas.List.{length-take, length-take-le}
use Rattle.std.proofs.lemmas.List.Quantifiers.{all_pairs_push}
use Rattle.triple_store.specs.Index.{blanks_so_far, AreIndexed}
use Rattle.triple_store.specs.Kept.{IsKept}
use Rattle.triple_store.specs.Late.{AreLate}
use Rattle.triple_store.specs.Triples.{AreDistinct, blanks_of, blanks_of_triple}
use Rattle.triple_store.specs.declared.fault.TheConstants.{MOST_ROWS}
use Rattle.triple_store.specs.declared.late.Late.{Late}
use Rattle.triple_store.specs.declared.subjects.Subjects.{Subjects}
use Rattle.triple_store.specs.declared.term.Triple.{Triple}
use Rattle.triple_store.proofs.Blanks.{blanks_so_far-push, blanks_so_far-take}

-- a new row at the end is none of those before it
distinct-push : (rows : List Triple) (t : Triple) → AreDistinct rows → (¬ Contains rows t) → AreDistinct (rows ++ t ∷ [])
distinct-push rows t old is_new = all_pairs_push (λ s u. s ≢ u) rows t old (λ k d within same. is_new (k, within, any_default rows k t d within ∙ same))
  where
    any_default : (rows : List Triple) (k : ℕ) (a b : Triple) → k < length rows → get_or rows k a ≡ get_or rows k b
    any_default [] k a b h = absurd (omega arith)
    any_default (u ∷ rows) zero a b h = refl
    any_default (u ∷ rows) (suc k) a b h = any_default rows k a b (omega arith)

-- the first rows are distinct, as all are
distinct-take : (rows : List Triple) (n : ℕ) → AreDistinct rows → AreDistinct (take n rows)
distinct-take rows n all i j d lt within same =
    let count : length (take n rows) ≤ length rows = length-take-at-most n rows in
    all i j d lt (omega arith) (sym (first n rows i d (omega arith)) ∙ same ∙ first n rows j d within)
  where
    length-take-at-most : (n : ℕ) (rows : List Triple) → length (take n rows) ≤ length rows
    length-take-at-most zero rows = omega arith
    length-take-at-most (suc n) [] = omega arith
    length-take-at-most (suc n) (t ∷ rows) = let h : length (take n rows) ≤ length rows = length-take-at-most n rows in omega arith

    first : (n : ℕ) (rows : List Triple) (k : ℕ) (d : Triple) → k < length (take n rows) → get_or (take n rows) k d ≡ get_or rows k d
    first zero rows k d h = absurd (omega arith)
    first (suc n) [] k d h = absurd (omega arith)
    first (suc n) (t ∷ rows) zero d h = refl
    first (suc n) (t ∷ rows) (suc k) d h = first n rows k d (omega arith)

-- after a new row, with its bound and its place
pub kept-push : (rows new : List Triple) (t : Triple) (bounds new_bounds : List ℕ) (subjects new_subjects : Subjects) (late new_late : Late) (most : ℕ)
    → IsKept rows bounds subjects late → new ≡ rows ++ t ∷ [] → length rows < MOST_ROWS → (¬ Contains rows t)
    → most ≡ max (blanks_of rows) (blanks_of_triple t) → new_bounds ≡ bounds ++ most ∷ [] → AreIndexed new_subjects new → AreLate new_late new → IsKept new new_bounds new_subjects new_late
kept-push rows new t bounds new_bounds subjects new_subjects late new_late most kept grown room is_new is_most is_bounds indexed later =
    record {
      few = omega (arith, ap length grown, length-append rows (t ∷ []), room);
      distinct = subst AreDistinct (sym grown) (distinct-push rows t kept.distinct is_new);
      counted = is_bounds ∙ ap (λ l. l ++ most ∷ []) kept.counted ∙ ap (λ n. blanks_so_far 0 rows ++ n ∷ []) is_most ∙ sym (blanks_so_far-push 0 rows t) ∙ ap (blanks_so_far 0) (sym grown);
      indexed = indexed;
      late = later;
    }

-- after a cut
pub kept-cut : (rows all new : List Triple) (n : ℕ) (bounds new_bounds : List ℕ) (subjects new_subjects : Subjects) (late new_late : Late)
    → IsKept rows bounds subjects late → n ≤ length rows → all ≡ rows → new ≡ take n rows → new_bounds ≡ take n bounds → AreIndexed new_subjects (take n all) → AreLate new_late (take n rows)
    → IsKept new new_bounds new_subjects new_late
kept-cut rows all new n bounds new_bounds subjects new_subjects late new_late kept h same cut is_bounds indexed later =
    let first : take n all ≡ new = ap (take n) same ∙ sym cut in
    record {
      few = omega (arith, ap length cut, length-take n rows, kept.few, h);
      distinct = subst AreDistinct (sym cut) (distinct-take rows n kept.distinct);
      counted = is_bounds ∙ ap (take n) kept.counted ∙ sym (blanks_so_far-take 0 n rows) ∙ ap (blanks_so_far 0) (sym cut);
      indexed = subst (AreIndexed new_subjects) first indexed;
      late = subst (AreLate new_late) (sym cut) later;
    }

-- one row less of the first ones
pub take_less : (left : ℕ) (rows : List Triple) → left ≤ length rows → take (length (take left rows) - 1) (take left rows) ≡ take (left - 1) rows
take_less left rows h =
    let count : length (take left rows) ≡ left = length-take-le left rows h in
    ap (λ n. take (n - 1) (take left rows)) count ∙ twice (left - 1) left rows (omega arith)
  where
    twice : (i left : ℕ) (rows : List Triple) → i ≤ left → take i (take left rows) ≡ take i rows
    twice zero left rows h = refl
    twice (suc i) zero rows h = absurd (omega arith)
    twice (suc i) (suc left) [] h = refl
    twice (suc i) (suc left) (t ∷ rows) h = ap (λ l. t ∷ l) (twice i left rows (omega arith))
