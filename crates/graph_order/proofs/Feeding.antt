-- What it means that an instance feeds one of some others: there is a cable.
use Rattle.std.proofs.Common.{◌≡◌, ℕ, ◌<◌, Bool, true, not, ◌&&◌, List, length, get_or, eqb, sym, ◌∙◌, ap, subst, refl, inl, inr}
use Rattle.std.specs.List.{Any}
use Rattle.std.proofs.lemmas.Bool.{and_parts, and_from, eqb-true, eq-eqb, cases_Bool}
use Rattle.std.proofs.lemmas.List.Folds.{Any-from_list_any, list_any-from_Any}
use Rattle.session_script.specs.declared.session.CableLine.{CableLine}
use Rattle.graph_order.specs.Wiring.{leads_into, feeds_some, feeds, AreWithin}

-- a cable of the list that leads from an instance into some others
pub record IsThere (cables : List CableLine) (targets : ℕ → Bool) (source : ℕ) : Type 0 where
  pub cable : CableLine
  pub place : ℕ
  pub within : place < length cables
  pub at : get_or cables place cable ≡ cable
  pub undelayed : not cable.delayed ≡ true
  pub from : cable.source ≡ source
  pub into : targets cable.target ≡ true

pub there : (cables : List CableLine) (targets : ℕ → Bool) (source : ℕ) → feeds_some cables targets source ≡ true → IsThere cables targets source
unfolding feeds_some
there cables targets source fed =
    let some : Any (λ cable. leads_into targets source cable ≡ true) cables = Any-from_list_any (leads_into targets source) cables fed in
    let parts = and_parts (not (some.1).delayed) (eqb (some.1).source source && targets (some.1).target) some.4 in
    let ends = and_parts (eqb (some.1).source source) (targets (some.1).target) parts.1 in
    record {
      cable = some.1;
      place = some.0;
      within = some.2;
      at = some.3;
      undelayed = parts.0;
      from = eqb-true (some.1).source source ends.0;
      into = ends.1;
    }

pub from-there : (cables : List CableLine) (targets : ℕ → Bool) (source : ℕ) → IsThere cables targets source → feeds_some cables targets source ≡ true
unfolding feeds_some
from-there cables targets source t =
    list_any-from_Any (leads_into targets source) cables
    (t.place, t.cable, t.within, t.at, and_from (not t.cable.delayed) (eqb t.cable.source source && targets t.cable.target) t.undelayed (and_from (eqb t.cable.source source) (targets t.cable.target) (eq-eqb t.cable.source source t.from) t.into))

-- who feeds one of some others feeds one of them
pub feeds_some-one : (cables : List CableLine) (targets : ℕ → Bool) (source : ℕ) → feeds_some cables targets source ≡ true → (one : ℕ) × (feeds cables source one ≡ true) × (targets one ≡ true)
feeds_some-one cables targets source fed =
    let t = there cables targets source fed in
    let one : IsThere cables (λ x. eqb x t.cable.target) source = record {
      cable = t.cable;
      place = t.place;
      within = t.within;
      at = t.at;
      undelayed = t.undelayed;
      from = t.from;
      into = eq-eqb t.cable.target t.cable.target refl;
    } in
    (t.cable.target, from-there cables (λ x. eqb x t.cable.target) source one, t.into)

-- and who feeds one of them feeds one of some others
pub feeds_some-from : (cables : List CableLine) (targets : ℕ → Bool) (source one : ℕ) → feeds cables source one ≡ true → targets one ≡ true → feeds_some cables targets source ≡ true
feeds_some-from cables targets source one fed hit =
    let t = there cables (λ x. eqb x one) source fed in
    from-there cables targets source
    (record { cable = t.cable; place = t.place; within = t.within; at = t.at; undelayed = t.undelayed; from = t.from; into = ap targets (eqb-true t.cable.target one t.into) ∙ hit })

pub feeds-within : (cables : List CableLine) (count source one : ℕ) → AreWithin count cables → feeds cables source one ≡ true → (source < count) × (one < count)
feeds-within cables count source one within fed =
    let t = there cables (λ x. eqb x one) source fed in
    let InRange : CableLine → Type 0 = λ cable. (cable.source < count) × (cable.target < count) in
    let ends : InRange t.cable = subst InRange t.at (within t.place t.cable t.within) in
    let Below : ℕ → Type 0 = λ n. n < count in
    (subst Below t.from ends.0, subst Below (eqb-true t.cable.target one t.into) ends.1)

-- targets that are the same among those that are there are fed by the same
pub feeds_some-same : (cables : List CableLine) (count : ℕ) (f g : ℕ → Bool) (source : ℕ) → AreWithin count cables → ((one : ℕ) → one < count → f one ≡ g one) → feeds_some cables f source ≡ feeds_some cables g source
feeds_some-same cables count f g source within same =
    elim (cases_Bool (feeds_some cables f source)) [
      | inl holds ↦
          let one = feeds_some-one cables f source holds in
          holds ∙ sym (feeds_some-from cables g source one.0 one.1 (sym (same one.0 ((feeds-within cables count source one.0 within one.1).1)) ∙ one.2))
      | inr fails ↦ elim (cases_Bool (feeds_some cables g source)) [
        | inl holds ↦
            let one = feeds_some-one cables g source holds in
            let both : feeds_some cables f source ≡ true = feeds_some-from cables f source one.0 one.1 (same one.0 ((feeds-within cables count source one.0 within one.1).1) ∙ one.2) in
            cc
        | inr none ↦ fails ∙ sym none
      ]
    ]
