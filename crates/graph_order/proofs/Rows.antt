-- The rows of the search: which instances they mark.
use Rattle.std.proofs.Common.{◌≡◌, ℕ, zero, suc, ◌<◌, ◌≤◌, ◌+◌, Bool, true, false, not, ◌&&◌, ◌||◌, List, [], ◌∷◌, ◌++◌, length, get_or, take, set, replicate, eqb, sym, ◌∙◌, ap, subst, inl, inr, refl, arith}
use Rattle.std.proofs.lemmas.Bool.{and_from, and_right, and_left, and_cases, or_right, cases_eq, cases_lt, eq-eqb, ne_eqb}
use Rattle.std.proofs.lemmas.List.{length-set, length-replicate, get_or-replicate, get_or-set_same, get_or-set_other, take_all, length_push, get_or_push, get_or_append_left}
use Rattle.std.specs.List.{list_any}
use Rattle.std.proofs.lemmas.List.Folds.{list_any_more}
use Rattle.session_script.specs.declared.session.CableLine.{CableLine}
use Rattle.graph_order.specs.Wiring.{leads_into, feeds_some, AreWithin}
use Rattle.graph_order.specs.Search.{reaches, is_marked, IsRowOf, AreRows, IsApartBelow, IsSearched}
use Rattle.graph_order.proofs.Feeding.{feeds_some-same}

pub or-none : (b : Bool) → (b || false) ≡ b
or-none true = refl
or-none false = refl

-- a row with one mark
pub row-one : (count inst : ℕ) (row : List Bool) → inst < count → row ≡ set (replicate count false) inst true → IsRowOf (λ one. eqb one inst) count row
row-one count inst row within made =
    let long : length (replicate count false) ≡ count = length-replicate count false in
    record {
      all = ap length made ∙ length-set (replicate count false) inst true ∙ long;
      same = λ one there. ap (λ (bs : List Bool). get_or bs one false) made ∙ (elim (cases_eq one inst) [
        | inl equal ↦ ap (λ (i : ℕ). get_or (set (replicate count false) inst true) i false) equal ∙ get_or-set_same (replicate count false) inst true false (omega arith) ∙ sym (eq-eqb one inst equal)
        | inr apart ↦ get_or-set_other (replicate count false) inst one true false apart ∙ get_or-replicate count one false false there ∙ sym (ne_eqb one inst apart)
      ]);
    }

-- before the first cable none is marked
pub mark-none : (cables : List CableLine) (targets : ℕ → Bool) (count : ℕ) (row : List Bool) → row ≡ replicate count false → IsRowOf (feeds_some (take 0 cables) targets) count row
unfolding feeds_some
mark-none cables targets count row made = record {
  all = ap length made ∙ length-replicate count false;
  same = λ one there. ap (λ (bs : List Bool). get_or bs one false) made ∙ get_or-replicate count one false false there;
}

pub fed-more : (cables : List CableLine) (targets : ℕ → Bool) (one k : ℕ) (cable : CableLine) → k < length cables → get_or cables k cable ≡ cable → feeds_some (take (k + 1) cables) targets one ≡ (feeds_some (take k cables) targets one || leads_into targets one cable)
unfolding feeds_some
fed-more cables targets one k cable within at = list_any_more (leads_into targets one) cables k cable within ∙ ap (λ (c : CableLine). list_any (leads_into targets one) (take k cables) || leads_into targets one c) at

-- a cable without delay from an instance to one of the targets marks its source
pub mark-set : (cables : List CableLine) (targets : ℕ → Bool) (count k : ℕ) (cable : CableLine) (row : List Bool) → k < length cables → get_or cables k cable ≡ cable → cable.source < count → not cable.delayed ≡ true → targets cable.target ≡ true → IsRowOf (feeds_some (take k cables) targets) count row → IsRowOf (feeds_some (take (k + 1) cables) targets) count (set row cable.source true)
mark-set cables targets count k cable row within at source undelayed hit before =
    let from : ℕ = cable.source in
    let all = before.all in
    record {
      all = length-set row from true ∙ before.all;
      same = λ one there. (elim (cases_eq one from) [
        | inl equal ↦
            let leads : leads_into targets one cable ≡ true = and_from (not cable.delayed) (eqb from one && targets cable.target) undelayed (and_from (eqb from one) (targets cable.target) (eq-eqb from one (sym equal)) hit) in
            ap (λ (i : ℕ). get_or (set row from true) i false) equal ∙ get_or-set_same row from true false (omega arith)
            ∙ sym (fed-more cables targets one k cable within at ∙ or_right (feeds_some (take k cables) targets one) (leads_into targets one cable) leads)
        | inr apart ↦
            let passes : leads_into targets one cable ≡ false = and_right (not cable.delayed) (eqb from one && targets cable.target) (and_left (eqb from one) (targets cable.target) (ne_eqb from one (λ e. apart (sym e)))) in
            get_or-set_other row from one true false apart ∙ before.same one there ∙ sym (fed-more cables targets one k cable within at ∙ ap (λ (b : Bool). feeds_some (take k cables) targets one || b) passes ∙ or-none (feeds_some (take k cables) targets one))
      ]);
    }

pub skips : (targets : ℕ → Bool) (cable : CableLine) → (not cable.delayed && targets cable.target) ≡ false → (one : ℕ) → leads_into targets one cable ≡ false
skips targets cable passes one =
    elim (and_cases (not cable.delayed) (targets cable.target) passes) [
      | inl late ↦ and_left (not cable.delayed) (eqb cable.source one && targets cable.target) late
      | inr miss ↦ and_right (not cable.delayed) (eqb cable.source one && targets cable.target) (and_right (eqb cable.source one) (targets cable.target) miss)
    ]

-- any other cable marks none
pub mark-skip : (cables : List CableLine) (targets : ℕ → Bool) (count k : ℕ) (cable : CableLine) (row : List Bool) → k < length cables → get_or cables k cable ≡ cable → (not cable.delayed && targets cable.target) ≡ false → IsRowOf (feeds_some (take k cables) targets) count row → IsRowOf (feeds_some (take (k + 1) cables) targets) count row
mark-skip cables targets count k cable row within at passes before = record {
  all = before.all;
  same = λ one there. before.same one there ∙ sym (fed-more cables targets one k cable within at ∙ ap (λ (b : Bool). feeds_some (take k cables) targets one || b) (skips targets cable passes one) ∙ or-none (feeds_some (take k cables) targets one));
}

pub mark-all : (cables : List CableLine) (targets : ℕ → Bool) (count k : ℕ) (row : List Bool) → length cables ≤ k → IsRowOf (feeds_some (take k cables) targets) count row → IsRowOf (feeds_some cables targets) count row
mark-all cables targets count k row whole before =
    let Marks : List CableLine → Type 0 = λ cs. IsRowOf (feeds_some cs targets) count row in
    subst Marks (take_all k cables whole) before

-- the row after row n
pub row-next : (cables : List CableLine) (to count n : ℕ) (before row : List Bool) → AreWithin count cables → IsRowOf (reaches cables to n) count before → IsRowOf (feeds_some cables (is_marked before)) (length before) row → IsRowOf (reaches cables to (suc n)) count row
row-next cables to count n before row within is next =
    let all = is.all in
    record {
      all = next.all ∙ is.all;
      same = λ one there. next.same one (omega arith) ∙ feeds_some-same cables count (is_marked before) (reaches cables to n) one within is.same;
    }

pub rows-push : (cables : List CableLine) (to count : ℕ) (rows : List (List Bool)) (row : List Bool) → AreRows cables to count rows → IsRowOf (reaches cables to (length rows)) count row → AreRows cables to count (rows ++ row ∷ [])
rows-push cables to count rows row before is n within =
    let longer = length_push rows row in
    elim (cases_lt n (length rows)) [
      | inl below ↦
          let Row : List Bool → Type 0 = λ bs. IsRowOf (reaches cables to n) count bs in
          subst Row (sym (get_or_append_left rows (row ∷ []) [] n below)) (before n below)
      | inr past ↦
          let end : length rows ≡ n = omega arith in
          let Row : List Bool → Type 0 = λ bs. IsRowOf (reaches cables to n) count bs in
          let Number : ℕ → Type 0 = λ m. IsRowOf (reaches cables to m) count row in
          subst Row (sym (get_or_push rows row [] n end)) (subst Number end is)
    ]

pub rows-first : (cables : List CableLine) (to count : ℕ) (row : List Bool) → IsRowOf (λ one. eqb one to) count row → AreRows cables to count (row ∷ [])
rows-first cables to count row is zero within = is
rows-first cables to count row is (suc n) within = absurd (omega arith)

-- no way back over one cable more
pub apart-more : (cables : List CableLine) (inst n : ℕ) → IsApartBelow cables inst n → reaches cables inst n inst ≡ false → IsApartBelow cables inst (suc n)
apart-more cables inst n before none k some below =
    elim (cases_eq k n) [
      | inl equal ↦ ap (λ (m : ℕ). reaches cables inst m inst) equal ∙ none
      | inr apart ↦ before k some (omega arith)
    ]

-- the rows are as long as there are instances, and lead on
pub step-there : (cables : List CableLine) (to count n from : ℕ) (rows : List (List Bool)) (row : List Bool) → AreWithin count cables → AreRows cables to count rows → n < length rows → row ≡ get_or rows n [] → reaches cables to (n + 1) from ≡ true → feeds_some cables (is_marked row) from ≡ true
step-there cables to count n from rows row within are there same reached =
    let Row : List Bool → Type 0 = λ bs. IsRowOf (reaches cables to n) count bs in
    let is : IsRowOf (reaches cables to n) count row = subst Row (sym same) (are n there) in
    let Reached : ℕ → Type 0 = λ m. reaches cables to m from ≡ true in
    let number : n + 1 ≡ suc n = omega arith in
    feeds_some-same cables count (is_marked row) (reaches cables to n) from within is.same ∙ subst Reached number reached

-- the row after one of the rows
pub row-behind : (cables : List CableLine) (to count n : ℕ) (rows : List (List Bool)) (before row : List Bool) → AreWithin count cables → AreRows cables to count rows → n < length rows → before ≡ get_or rows n [] → IsRowOf (feeds_some cables (is_marked before)) (length before) row → IsRowOf (reaches cables to (n + 1)) count row
row-behind cables to count n rows before row within are there same next =
    let Before : List Bool → Type 0 = λ bs. IsRowOf (reaches cables to n) count bs in
    let Row : ℕ → Type 0 = λ m. IsRowOf (reaches cables to m) count row in
    let number : n + 1 ≡ suc n = omega arith in
    subst Row (sym number) (row-next cables to count n before row within (subst Before (sym same) (are n there)) next)

-- the rows so far, where the one after them marks the instance
pub searched : (cables : List CableLine) (inst count n : ℕ) (rows : List (List Bool)) (row : List Bool) → inst < count → length rows ≡ n → 0 < n → AreRows cables inst count rows → IsApartBelow cables inst n → IsRowOf (reaches cables inst n) count row → is_marked row inst ≡ true → IsSearched cables inst count rows
searched cables inst count n rows row there long some are apart is marked =
    let Apart : ℕ → Type 0 = λ m. IsApartBelow cables inst m in
    let Back : ℕ → Type 0 = λ m. reaches cables inst m inst ≡ true in
    record {
      some = omega arith;
      rows = are;
      apart = subst Apart (sym long) apart;
      back = subst Back (sym long) (sym (is.same inst there) ∙ marked);
    }

-- the rows with that one, where it doesn't
pub rows-more : (cables : List CableLine) (inst count n : ℕ) (rows after : List (List Bool)) (row : List Bool) → inst < count → length rows ≡ n → AreRows cables inst count rows → IsApartBelow cables inst n → IsRowOf (reaches cables inst n) count row → is_marked row inst ≡ false → after ≡ rows ++ row ∷ [] → (length after ≡ n + 1) × AreRows cables inst count after × IsApartBelow cables inst (n + 1)
rows-more cables inst count n rows after row there long are apart is unmarked longer =
    let Row : ℕ → Type 0 = λ m. IsRowOf (reaches cables inst m) count row in
    let Rows : List (List Bool) → Type 0 = λ rs. AreRows cables inst count rs in
    let Apart : ℕ → Type 0 = λ m. IsApartBelow cables inst m in
    let number : suc n ≡ n + 1 = omega arith in
    let all : length after ≡ n + 1 = ap length longer ∙ length_push rows row ∙ ap (λ (m : ℕ). m + 1) long in (
      all,
      subst Rows (sym longer) (rows-push cables inst count rows row are (subst Row (sym long) is)),
      subst Apart number (apart-more cables inst n apart (sym (is.same inst there) ∙ unmarked)),
    )
