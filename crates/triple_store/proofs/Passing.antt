-- The last place before another one that passes a test, and the first after it.
use Rattle.std.proofs.Common.{◌≡◌, ◌≢◌, ℕ, zero, suc, ◌+◌, ◌-◌, ◌<◌, ◌≤◌, Bool, true, false, refl, ap, sym, ◌∙◌, true≢false, arith}
use Rattle.std.proofs.Math.Logic.{⊎_elim}
use Rattle.std.proofs.lemmas.Bool.{cases_lt}
use Rattle.triple_store.specs.Index.{IsFirst, IsLast, AreNeighbours}

-- a place that passes is no place that doesn't
pub differ : (test : ℕ → Bool) (i j : ℕ) → test i ≡ true → test j ≡ false → i ≢ j
differ test i j p q e = true≢false (sym p ∙ ap test e ∙ q)

-- the last place below m that passes
abbrev pub Before : (ℕ → Bool) → ℕ → Type 0
Before test m = (i : ℕ) × (i < m) × (test i ≡ true) × ((k : ℕ) → i < k → k < m → test k ≡ false)

pub last_before : (test : ℕ → Bool) (a m : ℕ) → a < m → test a ≡ true → Before test m
last_before test a zero h p = absurd (omega arith)
last_before test a (suc m) h p = by (test m) refl (λ h. last_before test a m h p)
  where
    by : (b : Bool) → test m ≡ b → (a < m → Before test m) → Before test (suc m)
    by true e more = (m, omega arith, e, λ k above below. absurd (omega arith))
    by false e more =
        let other : a ≢ m = differ test a m p e in
        let rest : Before test m = more (omega arith) in
        let less : rest.0 < m = rest.1 in (
          rest.0,
          omega arith,
          rest.2,
          λ k above below.
              ⊎_elim (λ (h : k < m). rest.3 k above h) (λ (h : m ≤ k). let same : k ≡ m = omega arith in ap test same ∙ e) (cases_lt k m),
        )

-- the first of the places above a, up to d + 1 above it
abbrev pub After : (ℕ → Bool) → ℕ → ℕ → Type 0
After test a d = (j : ℕ) × (a < j) × (j ≤ a + suc d) × (test j ≡ true) × ((k : ℕ) → a < k → k < j → test k ≡ false)

first_above : (test : ℕ → Bool) (a d : ℕ) → test (a + suc d) ≡ true → After test a d
first_above test a zero p = (a + 1, omega arith, omega arith, p, λ k above below. absurd (omega arith))
first_above test a (suc d) p = by (test (suc a)) refl (first_above test (suc a) d (let same : suc a + suc d ≡ a + suc (suc d) = omega arith in ap test same ∙ p))
  where
    by : (b : Bool) → test (suc a) ≡ b → After test (suc a) d → After test a (suc d)
    by true e rest = (suc a, omega arith, omega arith, e, λ k above below. absurd (omega arith))
    by false e rest =
        let more : suc a < rest.0 = rest.1 in
        let within : rest.0 ≤ suc a + suc d = rest.2 in (
          rest.0,
          omega arith,
          omega arith,
          rest.3,
          λ k above below.
              ⊎_elim (λ (h : k < suc (suc a)). let at : k ≡ suc a = omega arith in ap test at ∙ e) (λ (h : suc (suc a) ≤ k). rest.4 k (omega arith) below) (cases_lt k (suc (suc a))),
        )

-- where a later place passes, there is a neighbour after
pub next_of : (test : ℕ → Bool) (a b : ℕ) → a < b → test a ≡ true → test b ≡ true → (j : ℕ) × AreNeighbours test a j × (j ≤ b)
next_of test a b h p q =
    let d = b - suc a in
    let same : b ≡ a + suc d = omega arith in
    let found : After test a d = first_above test a d (ap test (sym same) ∙ q) in
    let above : a < found.0 = found.1 in
    let within : found.0 ≤ a + suc d = found.2 in
    (found.0, record { order = above; passes_before = p; passes_after = found.3; none_between = found.4 }, omega arith)

-- where an earlier place passes, there is a neighbour before
pub previous_of : (test : ℕ → Bool) (a b : ℕ) → a < b → test a ≡ true → test b ≡ true → (i : ℕ) × AreNeighbours test i b
previous_of test a b h p q =
    let found : Before test b = last_before test a b h p in
    (found.0, record { order = found.1; passes_before = found.2; passes_after = q; none_between = found.3 })

-- the first place isn't after the last one
pub ends_in_order : (test : ℕ → Bool) (first last : ℕ) → IsFirst test first → test last ≡ true → first ≤ last
ends_in_order test first last low p = ⊎_elim (λ (h : last < first). absurd (true≢false (sym p ∙ low.none_before last h))) (λ (h : first ≤ last). h) (cases_lt last first)

pub not_above : (test : ℕ → Bool) (place last : ℕ) → IsLast test last → test place ≡ true → place ≤ last
not_above test place last high p = ⊎_elim (λ (h : last < place). absurd (true≢false (sym p ∙ high.none_after place h))) (λ (h : place ≤ last). h) (cases_lt last place)
