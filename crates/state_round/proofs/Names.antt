-- Names of letters, digits and `_` stand between quotes as they are.
use Rattle.std.proofs.Common.{◌≡◌, ℕ, zero, suc, ◌<◌, Bool, true, false, ◌||◌, List, [], ◌∷◌, IsUtf8, refl, ap, ◌∙◌, arith}
use Rattle.std.proofs.lemmas.Bool.{and_parts}
use Rattle.std.proofs.lemmas.Bool.Decides.{nat_tests}
use Rattle.std.proofs.lemmas.Str.{IsUtf8-append, IsUtf8-from_ascii, IsUtf8-from_is_utf8}
use Rattle.std.specs.List.{list_all, list_any}
use Rattle.std.specs.Str.{chars, is_utf8, IsAscii}
use Rattle.turtle_grammar.specs.Characters.{is_letter, is_digit, is_letter_or_digit}
use Rattle.turtle_words.specs.Words.{ends_string}
use Rattle.state_round.specs.RoundTrip.{is_name_character, NamesArePlain}
use lib.Utf8.{encode}

low : (c : ℕ) → is_name_character c ≡ true → c < 128
unfolding is_letter_or_digit is_letter is_digit
low c h = grind (arith, nat_tests)

plain : (c : ℕ) → is_name_character c ≡ true → ends_string c ≡ false
unfolding is_letter_or_digit is_letter is_digit
plain c h = by (ends_string c) refl
  where
    by : (b : Bool) → ends_string c ≡ b → ends_string c ≡ false
    by false e = e
    by true e = absurd (grind (arith, nat_tests))

utf8_one : (c : ℕ) → c < 128 → IsUtf8 (c ∷ [])
utf8_one c less = IsUtf8-from_ascii (c ∷ []) ascii
  where
    ascii : IsAscii (c ∷ [])
    ascii zero = less
    ascii (suc i) = omega arith

utf8_all : (name : List ℕ) → list_all is_name_character name ≡ true → IsUtf8 name
unfolding is_utf8 chars encode
utf8_all [] h = IsUtf8-from_is_utf8 [] refl
utf8_all (c ∷ name) h =
    let k = and_parts (is_name_character c) (list_all is_name_character name) h in
    IsUtf8-append (c ∷ []) name (utf8_one c (low c k.0)) (utf8_all name k.1)

plain_all : (name : List ℕ) → list_all is_name_character name ≡ true → list_any ends_string name ≡ false
plain_all [] h = refl
plain_all (c ∷ name) h =
    let k = and_parts (is_name_character c) (list_all is_name_character name) h in
    ap (λ b. b || list_any ends_string name) (plain c k.0) ∙ plain_all name k.1

pub names_are_plain : NamesArePlain
names_are_plain name h = record { utf8 = utf8_all name h; plain = plain_all name h }
