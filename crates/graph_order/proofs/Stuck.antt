-- Where no instance is ready although some have no place, some feed each other in a circle.
use Rattle.std.proofs.Common.{◌≡◌, ◌⊎◌, ℕ, zero, suc, ◌<◌, ◌≤◌, ◌+◌, true, false, not, ◌&&◌, List, [], ◌∷◌, length, eqb, sym, ◌∙◌, ap, subst, refl, inl, inr, arith}
use Rattle.std.specs.List.{list_any, IsDistinct, Any}
use Rattle.std.proofs.lemmas.Bool.{and_parts, and_from, and_cases, or_cases, or_left, eqb-true, eq-eqb, not-true, not-false, cases_Bool, cases_order}
use Rattle.std.proofs.lemmas.List.Folds.{Any-from_list_any}
use Rattle.std.proofs.lemmas.Map.Steps.{length-le_from_distinct_below, le-length_from_below}
use Rattle.session_script.specs.declared.session.CableLine.{CableLine}
use Rattle.graph_order.specs.Wiring.{feeds, leads, AreWithin}
use Rattle.graph_order.specs.Plans.{is_placed, keeps_waiting, is_ready, IsStuck}
use Rattle.graph_order.specs.Cycles.{HasCycle}
use Rattle.graph_order.proofs.Feeding.{from-there, feeds-within}
use Rattle.graph_order.proofs.Shortening.{distinct-cons, distinct-nil}

-- an instance without a place that isn't ready is fed by one without a place
pub waits-for : (cables : List CableLine) (placed : List ℕ) (inst : ℕ) → is_ready cables placed inst ≡ false → is_placed placed inst ≡ false → (source : ℕ) × (feeds cables source inst ≡ true) × (is_placed placed source ≡ false)
unfolding is_ready
waits-for cables placed inst unready free =
    elim (and_cases (not (is_placed placed inst)) (not (list_any (keeps_waiting placed inst) cables)) unready) [
      | inl there ↦ absurd (let holds = not-false (is_placed placed inst) there in cc)
      | inr waits ↦
          let some : Any (λ cable. keeps_waiting placed inst cable ≡ true) cables = Any-from_list_any (keeps_waiting placed inst) cables (not-false (list_any (keeps_waiting placed inst) cables) waits) in
          let parts = and_parts (not (some.1).delayed) (eqb (some.1).target inst && not (is_placed placed (some.1).source)) some.4 in
          let ends = and_parts (eqb (some.1).target inst) (not (is_placed placed (some.1).source)) parts.1 in (
            (some.1).source,
            from-there cables (λ x. eqb x inst) (some.1).source (record { cable = some.1; place = some.0; within = some.2; at = some.3; undelayed = parts.0; from = refl; into = ends.0 }),
            not-true (is_placed placed (some.1).source) ends.1,
          )
    ]

-- from an instance on there is a way to another, or it is the other
abbrev pub IsAhead : List CableLine → ℕ → ℕ → Type 0
IsAhead cables from to = (from ≡ to) ⊎ ((rest : List ℕ) × (leads cables from rest to ≡ true))

pub record IsTrail (cables : List CableLine) (count : ℕ) (placed : List ℕ) (head : ℕ) (tail : List ℕ) : Type 0 where
  pub free : is_placed placed head ≡ false
  pub distinct : IsDistinct eqb (head ∷ tail)
  pub there : (q : ℕ) → list_any (eqb q) (head ∷ tail) ≡ true → q < count
  pub ahead : (q : ℕ) → list_any (eqb q) (head ∷ tail) ≡ true → IsAhead cables head q

-- one that feeds an instance is after all that are ahead of this
pub ahead-on : (cables : List CableLine) (source head q : ℕ) → feeds cables source head ≡ true → IsAhead cables head q → (rest : List ℕ) × (leads cables source rest q ≡ true)
ahead-on cables source head q fed (inl same) = ([], let Fed : ℕ → Type 0 = λ n. feeds cables source n ≡ true in subst Fed same fed)
ahead-on cables source head q fed (inr way) = (head ∷ way.0, and_from (feeds cables source head) (leads cables head way.0 q) fed way.1)

pub trail-on : (cables : List CableLine) (count : ℕ) (placed : List ℕ) (head : ℕ) (tail : List ℕ) (source : ℕ) → AreWithin count cables → IsTrail cables count placed head tail → feeds cables source head ≡ true → is_placed placed source ≡ false → list_any (eqb source) (head ∷ tail) ≡ false → IsTrail cables count placed source (head ∷ tail)
trail-on cables count placed head tail source within trail fed free new = record {
  free = free;
  distinct = distinct-cons source (head ∷ tail) new trail.distinct;
  there = λ q on. elim (or_cases (eqb q source) (list_any (eqb q) (head ∷ tail)) on) [
    | inl same ↦ let Below : ℕ → Type 0 = λ n. n < count in subst Below (sym (eqb-true q source same)) ((feeds-within cables count source head within fed).0)
    | inr behind ↦ trail.there q behind
  ];
  ahead = λ q on. elim (or_cases (eqb q source) (list_any (eqb q) (head ∷ tail)) on) [
    | inl same ↦ inl (sym (eqb-true q source same))
    | inr behind ↦ inr (ahead-on cables source head q fed (trail.ahead q behind))
  ];
}

pub on-head : (head : ℕ) (tail : List ℕ) → list_any (eqb head) (head ∷ tail) ≡ true
on-head head tail = or_left (eqb head head) (list_any (eqb head) tail) (eq-eqb head head refl)

pub on-only : (q one : ℕ) → list_any (eqb q) (one ∷ []) ≡ true → q ≡ one
on-only q one on =
    elim (or_cases (eqb q one) false on) [
      | inl same ↦ eqb-true q one same
      | inr none ↦ cc
    ]

-- back from source to source, as often as there are instances left
pub circle : (cables : List CableLine) (count : ℕ) (placed : List ℕ) (fuel head : ℕ) (tail : List ℕ) → AreWithin count cables → IsStuck cables count placed → IsTrail cables count placed head tail → suc (length tail) + fuel ≡ count + 1 → HasCycle cables
circle cables count placed zero head tail within stuck trail all =
    let few : suc (length tail) ≤ count = length-le_from_distinct_below (head ∷ tail) count trail.distinct trail.there in
    absurd (omega arith)
circle cables count placed (suc fuel) head tail within stuck trail all =
    let here : head < count = trail.there head (on-head head tail) in
    let source = waits-for cables placed head (stuck head here) trail.free in
    elim (cases_Bool (list_any (eqb source.0) (head ∷ tail))) [
      | inl again ↦
          let back = ahead-on cables source.0 head source.0 source.1 (trail.ahead source.0 again) in
          (source.0 ∷ back.0, back.1)
      | inr new ↦ circle cables count placed fuel source.0 (head ∷ tail) within stuck (trail-on cables count placed head tail source.0 within trail source.1 source.2 new) (omega arith)
    ]

-- of fewer than `count` numbers one below `count` is missing
pub missing-below : (xs : List ℕ) (n : ℕ) → ((q : ℕ) × (q < n) × (is_placed xs q ≡ false)) ⊎ ((q : ℕ) → q < n → is_placed xs q ≡ true)
missing-below xs zero = inr (λ q below. absurd (omega arith))
missing-below xs (suc n) =
    elim (missing-below xs n) [
      | inl one ↦ inl (one.0, omega arith, one.2)
      | inr all ↦ elim (cases_Bool (is_placed xs n)) [
        | inl there ↦ inr (λ q below. elim (cases_order q n) [
          | inl same ↦ ap (is_placed xs) same ∙ there
          | inr apart ↦ elim apart [
            | inl less ↦ all q less
            | inr more ↦ absurd (omega arith)
          ]
        ])
        | inr none ↦ inl (n, omega arith, none)
      ]
    ]

-- where none is ready and not all have their place, there is a circle
pub cycle-from-stuck : (cables : List CableLine) (count : ℕ) (placed : List ℕ) → AreWithin count cables → IsStuck cables count placed → length placed < count → HasCycle cables
cycle-from-stuck cables count placed within stuck few =
    elim (missing-below placed count) [
      | inl one ↦ circle cables count placed count one.0 [] within stuck
          (record {
            free = one.2;
            distinct = distinct-cons one.0 [] refl distinct-nil;
            there = λ q on. let Below : ℕ → Type 0 = λ n. n < count in subst Below (sym (on-only q one.0 on)) one.1;
            ahead = λ q on. inl (sym (on-only q one.0 on));
          }) (omega arith)
      | inr all ↦ absurd (let many : count ≤ length placed = le-length_from_below placed count all in omega arith)
    ]
