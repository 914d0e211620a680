-- What is pushed for a character, and what is left to push.
use Rattle.std.proofs.Common.{◌≡◌, ℕ, Bool, true, false, filter, if◌then◌else◌, Option, None, Some, List, [], ◌∷◌, ◌++◌, encode_utf8_all, refl, sym, ap, ◌∙◌, append_assoc, append-nil}
use Rattle.turtle_value.specs.Escaping.{left_of, with, Steps}
use lib.Utf8.{encode}
use Rattle.turtle_value.specs.declared.unescape.Escape.{Escape}

split_with : (made : Option ℕ) (rest : List ℕ) → encode_utf8_all (with made rest) ≡ encode_utf8_all (with made []) ++ encode_utf8_all rest
split_with None rest = refl
split_with (Some c) rest = ap (λ x. x ++ encode_utf8_all rest) (sym (append-nil (encode c)))

pub pushed : (out new : List ℕ) (before after : Escape) (c : ℕ) (made : Option ℕ) (rest : List ℕ) → Steps before c made after
    → new ≡ out ++ encode_utf8_all (with made []) → new ++ encode_utf8_all (left_of after rest) ≡ out ++ encode_utf8_all (left_of before (c ∷ rest))
pushed out new before after c made rest step e =
    ap (λ x. x ++ encode_utf8_all (left_of after rest)) e
    ∙ (append_assoc out (encode_utf8_all (with made [])) (encode_utf8_all (left_of after rest))
    ∙ ap (λ x. out ++ x) (sym (ap encode_utf8_all (step.left rest) ∙ split_with made (left_of after rest))))

-- The same for characters of which those that pass no test are left out.
pub kept : (test : ℕ → Bool) (out new : List ℕ) (c : ℕ) (rest : List ℕ) → test c ≡ true → new ≡ out ++ encode c
    → new ++ encode_utf8_all (filter test rest) ≡ out ++ encode_utf8_all (filter test (c ∷ rest))
kept test out new c rest passes e =
    ap (λ x. x ++ encode_utf8_all (filter test rest)) e
    ∙ (append_assoc out (encode c) (encode_utf8_all (filter test rest))
    ∙ ap (λ (b : Bool). out ++ encode_utf8_all (if b then c ∷ filter test rest else filter test rest)) (sym passes))

pub left_out : (test : ℕ → Bool) (out : List ℕ) (c : ℕ) (rest : List ℕ) → test c ≡ false
    → out ++ encode_utf8_all (filter test rest) ≡ out ++ encode_utf8_all (filter test (c ∷ rest))
left_out test out c rest fails = ap (λ (b : Bool). out ++ encode_utf8_all (if b then c ∷ filter test rest else filter test rest)) (sym fails)
