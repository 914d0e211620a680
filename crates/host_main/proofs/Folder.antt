-- The folder that a word names, by what cutting a slash from its end gives.
use Rattle.std.proofs.Common.{◌≡◌, ◌≢◌, ℕ, ◌-◌, ◌+◌, Bool, true, false, List, ◌++◌, length, take, nat_eq, Option, Some, None, Bor, refl, sym, ap, ◌∙◌, codes}
use Rattle.std.specs.Prelude.{if◌then◌else◌, unwrap_or, MatchOption}
use Rattle.std.specs.Str.Pattern.{FindsTextSuffix}
use Rattle.std.specs.List.{ends_with}
use Rattle.std.proofs.lemmas.Slice.Eq.{ends_is}
use Rattle.std.proofs.lemmas.Bool.Decides.{Decides-eqb}
use Rattle.host_main.specs.Check.{folder_of}

abbrev slash : List ℕ
slash = codes "/"

kept : (test : Bool) (a b : List ℕ) → (test ≡ true → ⊥) → (if test then a else b) ≡ b
kept true a b never = absurd (never refl)
kept false a b never = refl

cut : (test : Bool) (a b : List ℕ) → test ≡ true → (if test then a else b) ≡ a
cut true a b is = refl
cut false a b is = cc

-- without a slash at its end a word is the folder
pub whole_word : (word : List ℕ) → ((front : List ℕ) → word ≢ front ++ codes "/") → folder_of word ≡ word
whole_word word never =
    let ends = ends_is Decides-eqb word slash (ends_with nat_eq word slash) refl in
    kept _ _ _ (λ is. never _ (ends.0 is))

-- else it is cut
pub cut_word : (word front : List ℕ) → word ≡ front ++ codes "/" → folder_of word ≡ take (length word - 1) word
cut_word word front is =
    let ends = ends_is Decides-eqb word slash (ends_with nat_eq word slash) refl in
    cut _ _ _ (ends.1 front is)

-- what cutting the slash gives, or else the word
pub stripped : (word : List ℕ) (cut_at : Option (Bor (List ℕ))) (whole : Bor (List ℕ)) → whole.now ≡ word
    → MatchOption cut_at ((front : List ℕ) → word ≢ front ++ slash)
    (λ x. (n : ℕ) × FindsTextSuffix slash word (Some n) × (x.now ≡ take (length word - n) word) × (length x.now + n ≡ length word))
    → (unwrap_or cut_at whole).now ≡ folder_of word
stripped word None whole is h = is ∙ sym (whole_word word h)
stripped word (Some x) whole is h =
    let one : h.0 ≡ 1 = h.1.0 in
    h.2 ∙ (ap (λ (n : ℕ). take (length word - n) word) one ∙ sym (cut_word word _ h.1.1))
