-- The turns of RFC 3986, section 5.2.4, one after the other.
use Rattle.std.proofs.Common.{◌≡◌, ℕ, zero, suc, ◌<◌, ◌≤◌, List, [], ◌∷◌, length, refl, sym, ◌∙◌, ap, arith}
use Rattle.std.proofs.lemmas.List.{drop-take, take_rest, drop-append-le, take-append-drop}
use Rattle.iri_resolve.specs.Dots.{turn, turns, without_dots}

-- cuts of an output whose front stays
pub ruleset cuts = (drop-take, take_rest, drop-append-le, take-append-drop)

-- no input, no turn
pub turns-nil : (n : ℕ) (output : List ℕ) → turns n [] output ≡ output
turns-nil zero output = refl
turns-nil (suc n) output = refl

-- turns enough for an input make this of it and of an output
pub record Makes (input output path : List ℕ) : Type 0 where
  pub count : ℕ
  pub enough : length input ≤ count
  pub made : turns count input output ≡ path

by_count : (c : ℕ) (input output rest written path : List ℕ) → length rest < length (c ∷ input)
    → rest ≡ (turn (c ∷ input) output).0 → written ≡ (turn (c ∷ input) output).1
    → (count : ℕ) → length (c ∷ input) ≤ count → turns count (c ∷ input) output ≡ path → Makes rest written path
by_count c input output rest written path shorter left right zero enough made = absurd (omega arith)
by_count c input output rest written path shorter left right (suc n) enough made = record {
  count = n;
  enough = omega arith;
  made = ap (λ i. turns n i written) left ∙ ap (λ o. turns n (turn (c ∷ input) output).0 o) right ∙ made;
}

-- after a turn they still do
pub Makes-turn : (input output rest written path : List ℕ) → 0 < length input → length rest < length input
    → rest ≡ (turn input output).0 → written ≡ (turn input output).1 → Makes input output path → Makes rest written path
Makes-turn [] output rest written path some shorter left right h = absurd (omega arith)
Makes-turn (c ∷ input) output rest written path some shorter left right h = by_count c input output rest written path shorter left right h.count h.enough h.made

-- they do so for a path and an empty output
pub Makes-start : (path output : List ℕ) → output ≡ [] → Makes path output (without_dots path)
Makes-start path output empty = record {
  count = length path;
  enough = omega arith;
  made = ap (λ o. turns (length path) path o) empty;
}

-- and once the input is empty, the output is what they make
pub Makes-end : (input output path : List ℕ) → length input ≡ 0 → Makes input output path → output ≡ path
Makes-end [] output path none h = sym (turns-nil h.count output) ∙ h.made
Makes-end (c ∷ input) output path none h = absurd (omega arith)
