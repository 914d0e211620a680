-- Which references are resolved.
use Rattle.std.proofs.Common.{◌↔◌, is_some, IsSome, ◌≡◌, ℕ, ◌<◌, ◌+◌, Bool, true, false, cond, not, ◌||◌, List, [], ◌∷◌, length, Result, Ok, Err, refl, ap, sym, subst, ◌∙◌, true≢false, arith, IsUtf8}
use Rattle.std.specs.List.{list_any, position_or_len}
use Rattle.std.specs.Str.Lossy.{utf8_valid_len}
use Rattle.std.proofs.lemmas.Bool.{false_from_ne_true}
use Rattle.std.proofs.lemmas.Str.{utf8_valid_len-IsUtf8}
use Rattle.iri_resolve.specs.Components.{scheme_of}
use Rattle.iri_resolve.specs.Excluded.{is_excluded, first_bad, IsFirstBad}
use Rattle.iri_resolve.specs.declared.target.IriFault.{IriFault}
use Rattle.iri_resolve.specs.declared.target.IriFault.TheVariants.{BadChar}
use Rattle.iri_resolve.specs.Target.{resolved}
use Rattle.turtle_grammar.specs.Tree.{Leaf}
use Rattle.turtle_grammar.specs.Value.{reference_of}
use Rattle.turtle_document.specs.Meaning.{absolute}
use Rattle.turtle_document.specs.Meaning.Fault.{bad_iri}

-- something passes a test where the first place is within
some_step : (p : ℕ → Bool) (x : ℕ) (xs : List ℕ) (b : Bool) → p x ≡ b → position_or_len p (x ∷ xs) < length (x ∷ xs)
    → (position_or_len p xs < length xs → list_any p xs ≡ true) → list_any p (x ∷ xs) ≡ true
some_step p x xs true e h rest = ap (λ v. v || list_any p xs) e
some_step p x xs false e h rest =
    let at : position_or_len p (x ∷ xs) ≡ 1 + position_or_len p xs = ap (λ v. cond (not v) (1 + position_or_len p xs) 0) e in
    ap (λ v. v || list_any p xs) e ∙ rest (omega arith)

some_within : (p : ℕ → Bool) (xs : List ℕ) → position_or_len p xs < length xs → list_any p xs ≡ true
some_within p [] h = absurd (omega arith)
some_within p (x ∷ xs) h = some_step p x xs (p x) refl h (some_within p xs)

within_step : (p : ℕ → Bool) (x : ℕ) (xs : List ℕ) (b : Bool) → p x ≡ b → list_any p (x ∷ xs) ≡ true
    → (list_any p xs ≡ true → position_or_len p xs < length xs) → position_or_len p (x ∷ xs) < length (x ∷ xs)
within_step p x xs true e h rest = let at : position_or_len p (x ∷ xs) ≡ 0 = ap (λ v. cond (not v) (1 + position_or_len p xs) 0) e in omega arith
within_step p x xs false e h rest =
    let less : position_or_len p xs < length xs = rest (sym (ap (λ v. v || list_any p xs) e) ∙ h) in
    let at : position_or_len p (x ∷ xs) ≡ 1 + position_or_len p xs = ap (λ v. cond (not v) (1 + position_or_len p xs) 0) e in
    omega arith

within_some : (p : ℕ → Bool) (xs : List ℕ) → list_any p xs ≡ true → position_or_len p xs < length xs
within_some p [] h = absurd (true≢false (sym h))
within_some p (x ∷ xs) h = within_step p x xs (p x) refl h (within_some p xs)

pub is_bad : (base : List ℕ) (leaf : Leaf) (reference : List ℕ) → reference ≡ reference_of leaf.text → IsUtf8 reference
    → first_bad reference < length reference → absolute base leaf ≡ Err (bad_iri leaf.at)
is_bad base leaf reference e utf8 bad =
    let valid : utf8_valid_len reference ≡ length reference = utf8_valid_len-IsUtf8 reference utf8 in
    let place : position_or_len is_excluded reference < length reference = omega arith in
    let any : list_any is_excluded (reference_of leaf.text) ≡ true = subst (λ r. list_any is_excluded r ≡ true) e (some_within is_excluded reference place) in
    ap (λ b. cond b (Err (bad_iri leaf.at)) (Ok (resolved base (reference_of leaf.text)))) any

pub is_good : (base : List ℕ) (leaf : Leaf) (reference iri : List ℕ) → reference ≡ reference_of leaf.text → IsUtf8 reference
    → (first_bad reference < length reference → ⊥) → iri ≡ resolved base reference → absolute base leaf ≡ Ok iri
is_good base leaf reference iri e utf8 good value =
    let valid : utf8_valid_len reference ≡ length reference = utf8_valid_len-IsUtf8 reference utf8 in
    let any : list_any is_excluded reference ≡ false = false_from_ne_true _ (λ h. good (let place : position_or_len is_excluded reference < length reference = within_some is_excluded reference h in omega arith)) in
    let none : list_any is_excluded (reference_of leaf.text) ≡ false = subst (λ r. list_any is_excluded r ≡ false) e any in
    ap (λ b. cond b (Err (bad_iri leaf.at)) (Ok (resolved base (reference_of leaf.text)))) none ∙ ap Ok (sym (value ∙ ap (resolved base) e))

-- what was resolved has nothing bad
pub good_from : (base reference : List ℕ) (r : Result (List ℕ) IriFault) (iri : List ℕ) → r ≡ Ok iri → is_some (scheme_of base) ≡ true
    → ((at : ℕ) → (r ≡ Err (BadChar at)) ↔ (IsSome (scheme_of base) × IsFirstBad reference at)) → first_bad reference < length reference → ⊥
good_from base reference r iri ok absolute bad less =
    let no : r ≡ Err (BadChar (first_bad reference)) = (bad (first_bad reference)).1 (absolute, (less, refl)) in
    differ r iri (first_bad reference) ok no
  where
    differ : (r : Result (List ℕ) IriFault) (iri : List ℕ) (at : ℕ) → r ≡ Ok iri → r ≡ Err (BadChar at) → ⊥
    differ r iri at p q = cc
