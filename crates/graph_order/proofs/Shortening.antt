-- Where a list leads from an instance back to it, one leads there that has no instance twice, and so few.
use Rattle.std.proofs.Common.{◌≡◌, ℕ, suc, ◌<◌, ◌≤◌, ◌+◌, true, false, List, [], ◌∷◌, length, eqb, sym, subst, refl, inl, inr, arith}
use Rattle.std.specs.List.{list_any, IsDistinct, AllByRecursion}
use Rattle.std.proofs.lemmas.Bool.{and_parts, and_from, or_cases, or_parts, eqb-true, cases_Bool}
use Rattle.std.proofs.lemmas.Map.Keys.{IsDistinct-tail, IsDistinct-cons, IsDistinct-from_apart}
use Rattle.std.proofs.lemmas.Map.Steps.{length-le_from_distinct_below}
use Rattle.session_script.specs.declared.session.CableLine.{CableLine}
use Rattle.graph_order.specs.Wiring.{feeds, leads, AreWithin}
use Rattle.graph_order.specs.Search.{reaches, IsApartBelow}
use Rattle.graph_order.proofs.Feeding.{feeds-within}
use Rattle.graph_order.proofs.Reaching.{reaches-leads}

pub apart-from-none : (q : ℕ) (xs : List ℕ) → list_any (eqb q) xs ≡ false → AllByRecursion (λ y. eqb q y ≡ false) xs
apart-from-none q [] none = tt
apart-from-none q (x ∷ xs) none =
    let parts = or_parts (eqb q x) (list_any (eqb q) xs) none in
    (parts.0, apart-from-none q xs parts.1)

-- one more that isn't there
pub distinct-cons : (q : ℕ) (xs : List ℕ) → list_any (eqb q) xs ≡ false → IsDistinct eqb xs → IsDistinct eqb (q ∷ xs)
distinct-cons q xs none distinct = IsDistinct-cons eqb q xs (apart-from-none q xs none) distinct

pub distinct-nil : IsDistinct eqb []
distinct-nil = IsDistinct-from_apart eqb [] (λ i j d below within. absurd (omega arith))

-- a list that leads on without an instance twice
pub record IsSimple (cables : List CableLine) (to from : ℕ) : Type 0 where
  pub rest : List ℕ
  pub way : leads cables from rest to ≡ true
  pub distinct : IsDistinct eqb (from ∷ rest)

-- what is left of such a list from one of its instances on
pub simple-from : (cables : List CableLine) (to q from : ℕ) (rest : List ℕ) → leads cables from rest to ≡ true → IsDistinct eqb (from ∷ rest) → list_any (eqb q) (from ∷ rest) ≡ true → IsSimple cables to q
simple-from cables to q from [] way distinct on =
    elim (or_cases (eqb q from) false on) [
      | inl same ↦
          let Simple : ℕ → Type 0 = λ n. IsSimple cables to n in
          subst Simple (sym (eqb-true q from same)) (record { rest = []; way = way; distinct = distinct })
      | inr none ↦ cc
    ]
simple-from cables to q from (via ∷ rest) way distinct on =
    elim (or_cases (eqb q from) (list_any (eqb q) (via ∷ rest)) on) [
      | inl same ↦
          let Simple : ℕ → Type 0 = λ n. IsSimple cables to n in
          subst Simple (sym (eqb-true q from same)) (record { rest = via ∷ rest; way = way; distinct = distinct })
      | inr behind ↦
          simple-from cables to q via rest ((and_parts (feeds cables from via) (leads cables via rest to) way).1) (IsDistinct-tail eqb from (via ∷ rest) distinct) behind
    ]

-- where a list leads on, one without an instance twice does
pub simple : (cables : List CableLine) (to from : ℕ) (rest : List ℕ) → leads cables from rest to ≡ true → IsSimple cables to from
simple cables to from [] way = record { rest = []; way = way; distinct = distinct-cons from [] refl distinct-nil }
simple cables to from (via ∷ rest) way =
    let parts = and_parts (feeds cables from via) (leads cables via rest to) way in
    let on = simple cables to via rest parts.1 in
    elim (cases_Bool (list_any (eqb from) (via ∷ on.rest))) [
      | inl again ↦ simple-from cables to from via on.rest on.way on.distinct again
      | inr new ↦ record {
        rest = via ∷ on.rest;
        way = and_from (feeds cables from via) (leads cables via on.rest to) parts.0 on.way;
        distinct = distinct-cons from (via ∷ on.rest) new on.distinct;
      }
    ]

-- all on a list that leads on are there
pub on-within : (cables : List CableLine) (count to from : ℕ) (rest : List ℕ) → AreWithin count cables → leads cables from rest to ≡ true → (q : ℕ) → list_any (eqb q) (from ∷ rest) ≡ true → q < count
on-within cables count to from [] within way q on =
    elim (or_cases (eqb q from) false on) [
      | inl same ↦ let Below : ℕ → Type 0 = λ n. n < count in subst Below (sym (eqb-true q from same)) ((feeds-within cables count from to within way).0)
      | inr none ↦ cc
    ]
on-within cables count to from (via ∷ rest) within way q on =
    let parts = and_parts (feeds cables from via) (leads cables via rest to) way in
    elim (or_cases (eqb q from) (list_any (eqb q) (via ∷ rest)) on) [
      | inl same ↦ let Below : ℕ → Type 0 = λ n. n < count in subst Below (sym (eqb-true q from same)) ((feeds-within cables count from via within parts.0).0)
      | inr behind ↦ on-within cables count to via rest within parts.1 q behind
    ]

-- where no way back has at most as many cables as there are instances, there is none
pub none-from-apart : (cables : List CableLine) (count inst : ℕ) → AreWithin count cables → IsApartBelow cables inst (count + 1) → (rest : List ℕ) → leads cables inst rest inst ≡ true → ⊥
none-from-apart cables count inst within apart rest way =
    let short = simple cables inst inst rest way in
    let few : suc (length short.rest) ≤ count = length-le_from_distinct_below (inst ∷ short.rest) count short.distinct (on-within cables count inst inst short.rest within short.way) in
    let reached = reaches-leads cables inst inst short.rest short.way in
    let none : reaches cables inst (suc (length short.rest)) inst ≡ false = apart (suc (length short.rest)) (omega arith) (omega arith) in
    cc
