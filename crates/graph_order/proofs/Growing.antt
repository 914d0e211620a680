-- A plan that grows by one instance after another, up to all.
use Rattle.std.proofs.Common.{◌≡◌, ℕ, suc, ◌<◌, ◌≤◌, Bool, true, false, not, ◌&&◌, ◌||◌, List, [], ◌∷◌, ◌++◌, length, get_or, take, set, replicate, eqb, ltb, sym, ◌∙◌, ap, subst, refl, inl, inr, arith}
use Rattle.std.specs.List.{list_any, IsDistinct, Any}
use Rattle.std.specs.Cmp.{nat_eq_equiv}
use Rattle.std.proofs.lemmas.Bool.{and_parts, and_from, and_right, and_left, or_cases, eqb-true, eq-eqb, not-true, not_from_false, cases_Bool, cases_eq, cases_lt, lt-ltb, le-ltb, true_from_ne_false, or_right, ne_eqb}
use Rattle.std.proofs.lemmas.List.{length_push, length-set, get_or_push, get_or_append_left, get_or-set_same, get_or-set_other, take-append-le, get_or-take, get_or-replicate, length-replicate, length-take-le, get_or_default, take_at}
use Rattle.std.proofs.lemmas.List.Folds.{Any-from_list_any, list_any-append, list_any_at}
use Rattle.std.proofs.lemmas.Map.Keys.{IsDistinct-push}
use Rattle.std.proofs.lemmas.Map.Steps.{length-le_from_distinct_below}
use Rattle.session_script.specs.declared.session.CableLine.{CableLine}
use Rattle.graph_order.specs.declared.plan.Plan.{Plan}
use Rattle.graph_order.specs.Wiring.{AreWithin}
use Rattle.graph_order.specs.Plans.{is_placed, keeps_waiting, is_ready, IsNext, IsLawful, IsPlanOf, IsGrowing}
use Rattle.graph_order.proofs.Shortening.{distinct-cons, distinct-nil}

-- who is placed stands at some place
pub placed-at : (placed : List ℕ) (inst : ℕ) → is_placed placed inst ≡ true → (k : ℕ) × (k < length placed) × (get_or placed k 0 ≡ inst)
placed-at placed inst there =
    let some : Any (λ one. eqb inst one ≡ true) placed = Any-from_list_any (eqb inst) placed there in
    let same : inst ≡ some.1 = eqb-true inst some.1 some.4 in
    let at : get_or placed some.0 some.1 ≡ get_or placed some.0 0 = get_or_default placed some.0 some.1 0 some.2 in
    (some.0, some.2, sym at ∙ some.3 ∙ sym same)

pub at-placed : (placed : List ℕ) (k : ℕ) → k < length placed → is_placed placed (get_or placed k 0) ≡ true
at-placed placed k within = list_any_at (eqb (get_or placed k 0)) placed k 0 within (eq-eqb (get_or placed k 0) (get_or placed k 0) refl)

pub ready-free : (cables : List CableLine) (placed : List ℕ) (inst : ℕ) → is_ready cables placed inst ≡ true → is_placed placed inst ≡ false
unfolding is_ready
ready-free cables placed inst ready = not-true (is_placed placed inst) ((and_parts (not (is_placed placed inst)) (not (list_any (keeps_waiting placed inst) cables)) ready).0)

pub or-false : (b : Bool) → (b || false) ≡ b
or-false true = refl
or-false false = refl

-- a push places one more
pub placed-push : (placed : List ℕ) (inst one : ℕ) → is_placed (placed ++ inst ∷ []) one ≡ (is_placed placed one || eqb one inst)
placed-push placed inst one =
    elim (cases_Bool (eqb one inst)) [
      | inl holds ↦ list_any-append (eqb one) placed (inst ∷ []) ∙ ap (λ (b : Bool). is_placed placed one || (b || false)) holds ∙ sym (ap (λ (b : Bool). is_placed placed one || b) holds)
      | inr fails ↦ list_any-append (eqb one) placed (inst ∷ []) ∙ ap (λ (b : Bool). is_placed placed one || (b || false)) fails ∙ sym (ap (λ (b : Bool). is_placed placed one || b) fails)
    ]

pub next-same : (cables : List CableLine) (count : ℕ) (placed before : List ℕ) (inst one : ℕ) → before ≡ placed → one ≡ inst → IsNext cables count placed inst → IsNext cables count before one
next-same cables count placed before inst one e f next =
    let Placed : List ℕ → Type 0 = λ xs. IsNext cables count xs inst in
    let One : ℕ → Type 0 = λ n. IsNext cables count before n in
    subst One (sym f) (subst Placed (sym e) next)

-- a plan without an instance
pub growing-none : (cables : List CableLine) (count : ℕ) (plan : Plan) → plan.order ≡ [] → plan.place ≡ replicate count count → IsGrowing cables count plan
growing-none cables count plan none unplaced =
    let orders : length plan.order ≡ 0 = ap length none in
    let places : length plan.place ≡ count = ap length unplaced ∙ length-replicate count count in
    let nobody : (inst : ℕ) → is_placed plan.order inst ≡ false = λ inst. ap (λ (xs : List ℕ). is_placed xs inst) none in
    record {
      marking = record {
        same = λ inst. nobody inst ∙ sym (elim (cases_lt inst count) [
          | inl below ↦
              let at : get_or plan.place inst 0 ≡ count = ap (λ (xs : List ℕ). get_or xs inst 0) unplaced ∙ get_or-replicate count inst count 0 below in
              and_right (ltb inst (length plan.place)) (ltb (get_or plan.place inst 0) (length plan.place)) (le-ltb (get_or plan.place inst 0) (length plan.place) (omega arith))
          | inr past ↦ and_left (ltb inst (length plan.place)) (ltb (get_or plan.place inst 0) (length plan.place)) (le-ltb inst (length plan.place) (omega arith))
        ]);
      };
      places = places;
      next = λ k below. absurd (omega arith);
      distinct = let Distinct : List ℕ → Type 0 = λ xs. IsDistinct eqb xs in subst Distinct (sym none) distinct-nil;
      placed = λ k below. absurd (omega arith);
      ordered = λ inst there. absurd (let nowhere = nobody inst in cc);
    }

-- what a growing plan says of one more instance at its end
pub record IsPut (count : ℕ) (order place : List ℕ) (inst k : ℕ) : Type 0 where
  pub here : length order ≡ k
  pub room : k < count
  pub there : inst < count
  pub free : is_placed order inst ≡ false
  pub places : length place ≡ count

pub put-next : (cables : List CableLine) (count : ℕ) (order : List ℕ) (inst : ℕ) → ((k : ℕ) → k < length order → IsNext cables count (take k order) (get_or order k 0)) → IsNext cables count order inst → (k : ℕ) → k < length (order ++ inst ∷ []) → IsNext cables count (take k (order ++ inst ∷ [])) (get_or (order ++ inst ∷ []) k 0)
put-next cables count order inst before next k within =
    elim (cases_lt k (length order)) [
      | inl below ↦ next-same cables count (take k order) (take k (order ++ inst ∷ [])) (get_or order k 0) (get_or (order ++ inst ∷ []) k 0) (take-append-le k order (inst ∷ []) (omega arith)) (get_or_append_left order (inst ∷ []) 0 k below) (before k below)
      | inr past ↦
          let end : length order ≡ k = omega (arith, length_push order inst) in
          next-same cables count order (take k (order ++ inst ∷ [])) inst (get_or (order ++ inst ∷ []) k 0) (take_at order (inst ∷ []) k end) (get_or_push order inst 0 k end) next
    ]

pub put-placed : (count : ℕ) (order place : List ℕ) (inst n : ℕ) → IsPut count order place inst n → ((k : ℕ) → k < length order → get_or place (get_or order k 0) 0 ≡ k) → (k : ℕ) → k < length (order ++ inst ∷ []) → get_or (set place inst n) (get_or (order ++ inst ∷ []) k 0) 0 ≡ k
put-placed count order place inst n put before k within =
    elim (cases_lt k (length order)) [
      | inl below ↦
          let same : get_or (order ++ inst ∷ []) k 0 ≡ get_or order k 0 = get_or_append_left order (inst ∷ []) 0 k below in
          let apart : get_or order k 0 ≡ inst → ⊥ = λ e. (let there : is_placed order inst ≡ true = ap (is_placed order) (sym e) ∙ at-placed order k below in let free = put.free in cc) in
          ap (λ (i : ℕ). get_or (set place inst n) i 0) same ∙ get_or-set_other place inst (get_or order k 0) n 0 apart ∙ before k below
      | inr past ↦
          let end : length order ≡ k = omega (arith, length_push order inst) in
          let number : n ≡ k = sym put.here ∙ end in
          let room : inst < length place = let there = put.there in let places = put.places in omega arith in
          ap (λ (i : ℕ). get_or (set place inst n) i 0) (get_or_push order inst 0 k end) ∙ get_or-set_same place inst n 0 room ∙ number
    ]

pub put-ordered : (count : ℕ) (order place : List ℕ) (inst n : ℕ) → IsPut count order place inst n → ((one : ℕ) → is_placed order one ≡ true → (get_or place one 0 < length order) × (get_or order (get_or place one 0) 0 ≡ one)) → (one : ℕ) → is_placed (order ++ inst ∷ []) one ≡ true → (get_or (set place inst n) one 0 < length (order ++ inst ∷ [])) × (get_or (order ++ inst ∷ []) (get_or (set place inst n) one 0) 0 ≡ one)
put-ordered count order place inst n put before one there =
    let longer = length_push order inst in
    elim (cases_eq one inst) [
      | inl same ↦
          let room : inst < length place = let at = put.there in let places = put.places in omega arith in
          let at : get_or (set place inst n) one 0 ≡ n = ap (λ (i : ℕ). get_or (set place inst n) i 0) same ∙ get_or-set_same place inst n 0 room in
          let here = put.here in
          (omega arith, ap (λ (i : ℕ). get_or (order ++ inst ∷ []) i 0) at ∙ get_or_push order inst 0 n put.here ∙ sym same)
      | inr apart ↦
          let before_there : is_placed order one ≡ true = elim (or_cases (is_placed order one) (eqb one inst) (sym (placed-push order inst one) ∙ there)) [
            | inl holds ↦ holds
            | inr equal ↦ absurd (apart (eqb-true one inst equal))
          ] in
          let was = before one before_there in
          let at : get_or (set place inst n) one 0 ≡ get_or place one 0 = get_or-set_other place inst one n 0 apart in
          let below : get_or place one 0 < length order = was.0 in
          (omega arith, ap (λ (i : ℕ). get_or (order ++ inst ∷ []) i 0) at ∙ get_or_append_left order (inst ∷ []) 0 (get_or place one 0) was.0 ∙ was.1)
    ]

pub put-marking : (count : ℕ) (order place : List ℕ) (inst n : ℕ) → IsPut count order place inst n → ((one : ℕ) → is_placed order one ≡ (ltb one (length place) && ltb (get_or place one 0) (length place))) → (one : ℕ) → is_placed (order ++ inst ∷ []) one ≡ (ltb one (length (set place inst n)) && ltb (get_or (set place inst n) one 0) (length (set place inst n)))
put-marking count order place inst n put before one =
    let kept = length-set place inst n in
    elim (cases_eq one inst) [
      | inl same ↦
          let room : inst < length place = let at = put.there in let places = put.places in omega arith in
          let at : get_or (set place inst n) one 0 ≡ n = ap (λ (i : ℕ). get_or (set place inst n) i 0) same ∙ get_or-set_same place inst n 0 room in
          let less = put.room in
          let places = put.places in
          let equal : eqb one inst ≡ true = eq-eqb one inst same in
          let there : is_placed (order ++ inst ∷ []) one ≡ true = placed-push order inst one ∙ or_right (is_placed order one) (eqb one inst) equal in
          there ∙ sym (and_from (ltb one (length (set place inst n))) (ltb (get_or (set place inst n) one 0) (length (set place inst n))) (lt-ltb one (length (set place inst n)) (omega arith)) (lt-ltb (get_or (set place inst n) one 0) (length (set place inst n)) (omega arith)))
      | inr apart ↦
          let at : get_or (set place inst n) one 0 ≡ get_or place one 0 = get_or-set_other place inst one n 0 apart in
          let unequal : eqb one inst ≡ false = ne_eqb one inst apart in
          let same : is_placed (order ++ inst ∷ []) one ≡ is_placed order one = placed-push order inst one ∙ ap (λ (b : Bool). is_placed order one || b) unequal ∙ or-false (is_placed order one) in
          same ∙ before one ∙ rw (at, kept) refl
    ]

-- one more instance at the end
pub growing-put : (cables : List CableLine) (count : ℕ) (plan after : Plan) (inst k : ℕ) → IsGrowing cables count plan → length plan.order ≡ k → k < count → IsNext cables count plan.order inst → after.order ≡ plan.order ++ inst ∷ [] → after.place ≡ set plan.place inst k → IsGrowing cables count after
growing-put cables count plan after inst k growing here room next order place =
    let put : IsPut count plan.order plan.place inst k = record { here = here; room = room; there = next.there; free = ready-free cables plan.order inst next.ready; places = growing.places } in
    let Growing : List ℕ → List ℕ → Type 0 = λ xs ys. IsGrowing cables count (record { order = xs; place = ys }) in
    let grown : Growing (plan.order ++ inst ∷ []) (set plan.place inst k) = record {
      marking = record { same = put-marking count plan.order plan.place inst k put growing.marking.same };
      places = length-set plan.place inst k ∙ growing.places;
      next = put-next cables count plan.order inst growing.next next;
      distinct = IsDistinct-push nat_eq_equiv plan.order inst growing.distinct put.free;
      placed = put-placed count plan.order plan.place inst k put growing.placed;
      ordered = put-ordered count plan.order plan.place inst k put growing.ordered;
    } in
    let First : List ℕ → Type 0 = λ xs. Growing xs (set plan.place inst k) in
    let Second : List ℕ → Type 0 = λ ys. Growing after.order ys in
    subst Second (sym place) (subst First (sym order) grown)

-- in a plan of all instances each has its place
pub all-placed : (cables : List CableLine) (count : ℕ) (plan : Plan) → IsGrowing cables count plan → length plan.order ≡ count → (inst : ℕ) → inst < count → is_placed plan.order inst ≡ true
all-placed cables count plan growing all inst within =
    true_from_ne_false (is_placed plan.order inst) (λ free.
    (let few : suc (length plan.order) ≤ count = length-le_from_distinct_below (inst ∷ plan.order) count (distinct-cons inst plan.order free growing.distinct)
    (λ q on. elim (or_cases (eqb q inst) (list_any (eqb q) plan.order) on) [
      | inl same ↦ let Below : ℕ → Type 0 = λ n. n < count in subst Below (sym (eqb-true q inst same)) within
      | inr there ↦
          let at = placed-at plan.order q there in
          let Below : ℕ → Type 0 = λ n. n < count in subst Below at.2 ((growing.next at.0 at.1).there)
    ]) in
    omega arith))

pub planned : (cables : List CableLine) (count : ℕ) (plan : Plan) → IsGrowing cables count plan → length plan.order ≡ count → IsPlanOf cables count plan
planned cables count plan growing all = record {
  least = record {
    all = all;
    next = λ k below. growing.next k (omega arith);
  };
  placing = record {
    orders = all;
    places = growing.places;
    placed = λ k below. ((growing.next k (omega arith)).there, growing.placed k (omega arith));
    ordered = λ inst within. (let at = growing.ordered inst (all-placed cables count plan growing all inst within) in (omega arith, at.1));
  };
}

-- a source stands before who waits for it
pub fed-before : (cables : List CableLine) (count : ℕ) (plan : Plan) → AreWithin count cables → IsPlanOf cables count plan → (k : ℕ) (d : CableLine) → k < length cables → (get_or cables k d).delayed ≡ false → get_or plan.place (get_or cables k d).source 0 < get_or plan.place (get_or cables k d).target 0
unfolding is_ready
fed-before cables count plan within is k d there undelayed =
    let cable : CableLine = get_or cables k d in
    let at = is.placing.ordered cable.target ((within k d there).1) in
    let p : ℕ = get_or plan.place cable.target 0 in
    let orders = is.placing.orders in
    let next : IsNext cables count (take p plan.order) cable.target = next-same cables count (take p plan.order) (take p plan.order) (get_or plan.order p 0) cable.target refl (sym at.1) (is.least.next p at.0) in
    let calm : list_any (keeps_waiting (take p plan.order) cable.target) cables ≡ false = not-true (list_any (keeps_waiting (take p plan.order) cable.target) cables) ((and_parts (not (is_placed (take p plan.order) cable.target)) (not (list_any (keeps_waiting (take p plan.order) cable.target) cables)) next.ready).1) in
    let before : is_placed (take p plan.order) cable.source ≡ true = true_from_ne_false (is_placed (take p plan.order) cable.source) (λ free.
    (let waits : keeps_waiting (take p plan.order) cable.target cable ≡ true = and_from (not cable.delayed) (eqb cable.target cable.target && not (is_placed (take p plan.order) cable.source)) (not_from_false cable.delayed undelayed) (and_from (eqb cable.target cable.target) (not (is_placed (take p plan.order) cable.source)) (eq-eqb cable.target cable.target refl) (not_from_false (is_placed (take p plan.order) cable.source) free)) in
    let some : list_any (keeps_waiting (take p plan.order) cable.target) cables ≡ true = list_any_at (keeps_waiting (take p plan.order) cable.target) cables k d there waits in
    cc)) in
    let source = placed-at (take p plan.order) cable.source before in
    let long : length (take p plan.order) ≡ p = length-take-le p plan.order (omega arith) in
    let early : source.0 < p = omega arith in
    let stands : get_or plan.order source.0 0 ≡ cable.source = sym (get_or-take p plan.order source.0 0 early) ∙ source.2 in
    let place : get_or plan.place cable.source 0 ≡ source.0 = ap (λ (i : ℕ). get_or plan.place i 0) (sym stands) ∙ (is.placing.placed source.0 (omega arith)).1 in
    omega arith

pub lawful : (cables : List CableLine) (count : ℕ) (plan : Plan) → AreWithin count cables → IsPlanOf cables count plan → IsLawful cables count plan
lawful cables count plan within is = record {
  placing = is.placing;
  fed = fed-before cables count plan within is;
}
