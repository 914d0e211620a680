-- What follows the first character of a token.
use Rattle.std.proofs.Common.{◌≡◌, ◌≢◌, ◌⊎◌, inl, inr, ⊎_elim, ℕ, ◌≤◌, ◌<◌, ◌+◌, Bool, true, false, ◌==◌, ◌||◌, Option, Some, None, List, [], ◌∷◌, codes, length, get_or, drop, refl, sym, ap, ◌∙◌, subst, arith}
use Rattle.std.proofs.lemmas.Bool.{ne_eqb, eqb-true}
use Rattle.std.specs.Char.{to_ascii_lowercase}
use Rattle.turtle_grammar.specs.Characters.{is_letter, is_digit, is_sign, is_name_base}
use Rattle.turtle_grammar.specs.Pattern.{nothing, word}
use Rattle.turtle_grammar.specs.Terminals.{pattern, iriref, short_string, long_string, integer, decimal, double, pname_ns, pname_ln, blank_label, langtag}
use Rattle.turtle_grammar.specs.declared.token.TokenKind.{TokenKind}
use Rattle.turtle_grammar.specs.declared.token.TokenKind.TheVariants.{Comma, Semicolon, OpenSquare, CloseSquare, OpenRound, CloseRound, DoubleCaret, A, True, False, Prefix, Base}
use Rattle.turtle_lex.specs.Picks.{Candidate, all_after, alive, accepting, PicksAt}
use Rattle.turtle_lex.specs.Kinds.{wanting, others, words, tokens, dot_start, underscore, caret, letters, letter_class}
use Rattle.turtle_lex.specs.Names.{prefix, colon, label_start}
use Rattle.turtle_lex.specs.Numbers.{unsigned, whole, fraction}
use Rattle.turtle_lex.specs.Tags.{tag_start}
use Rattle.turtle_lex.proofs.Bodies.{plain_only}
use Rattle.turtle_lex.proofs.Opened.{either_fails}
use Rattle.std.proofs.lemmas.List.{drop_more, drop_all}
use Rattle.turtle_lex.specs.Places.{IsPlace, chars_from, Reads}
use Rattle.turtle_lex.proofs.Picked.{pick_through, pick_none, pick_none_last, pick_done}
use Rattle.turtle_lex.proofs.Apart.{digit_no_base, base_no_digit, digit_no_p, digit_no_b}

comma_by : alive (all_after 44 tokens) ≡ wanting Comma nothing ∷ []
unfolding pattern iriref short_string long_string integer decimal double pname_ns pname_ln blank_label langtag is_digit is_sign is_name_base is_letter
comma_by = refl

pub comma : (c : ℕ) → c ≡ 44 → alive (all_after c tokens) ≡ wanting Comma nothing ∷ []
comma c e = ap (λ x. alive (all_after x tokens)) e ∙ comma_by

semicolon_by : alive (all_after 59 tokens) ≡ wanting Semicolon nothing ∷ []
unfolding pattern iriref short_string long_string integer decimal double pname_ns pname_ln blank_label langtag is_digit is_sign is_name_base is_letter
semicolon_by = refl

pub semicolon : (c : ℕ) → c ≡ 59 → alive (all_after c tokens) ≡ wanting Semicolon nothing ∷ []
semicolon c e = ap (λ x. alive (all_after x tokens)) e ∙ semicolon_by

open_square_by : alive (all_after 91 tokens) ≡ wanting OpenSquare nothing ∷ []
unfolding pattern iriref short_string long_string integer decimal double pname_ns pname_ln blank_label langtag is_digit is_sign is_name_base is_letter
open_square_by = refl

pub open_square : (c : ℕ) → c ≡ 91 → alive (all_after c tokens) ≡ wanting OpenSquare nothing ∷ []
open_square c e = ap (λ x. alive (all_after x tokens)) e ∙ open_square_by

close_square_by : alive (all_after 93 tokens) ≡ wanting CloseSquare nothing ∷ []
unfolding pattern iriref short_string long_string integer decimal double pname_ns pname_ln blank_label langtag is_digit is_sign is_name_base is_letter
close_square_by = refl

pub close_square : (c : ℕ) → c ≡ 93 → alive (all_after c tokens) ≡ wanting CloseSquare nothing ∷ []
close_square c e = ap (λ x. alive (all_after x tokens)) e ∙ close_square_by

open_round_by : alive (all_after 40 tokens) ≡ wanting OpenRound nothing ∷ []
unfolding pattern iriref short_string long_string integer decimal double pname_ns pname_ln blank_label langtag is_digit is_sign is_name_base is_letter
open_round_by = refl

pub open_round : (c : ℕ) → c ≡ 40 → alive (all_after c tokens) ≡ wanting OpenRound nothing ∷ []
open_round c e = ap (λ x. alive (all_after x tokens)) e ∙ open_round_by

close_round_by : alive (all_after 41 tokens) ≡ wanting CloseRound nothing ∷ []
unfolding pattern iriref short_string long_string integer decimal double pname_ns pname_ln blank_label langtag is_digit is_sign is_name_base is_letter
close_round_by = refl

pub close_round : (c : ℕ) → c ≡ 41 → alive (all_after c tokens) ≡ wanting CloseRound nothing ∷ []
close_round c e = ap (λ x. alive (all_after x tokens)) e ∙ close_round_by

starts_dot_by : alive (all_after 46 tokens) ≡ dot_start
unfolding pattern iriref short_string long_string integer decimal double pname_ns pname_ln blank_label langtag is_digit is_sign is_name_base is_letter
starts_dot_by = refl

pub starts_dot : (c : ℕ) → c ≡ 46 → alive (all_after c tokens) ≡ dot_start
starts_dot c e = ap (λ x. alive (all_after x tokens)) e ∙ starts_dot_by

starts_colon_by : alive (all_after 58 tokens) ≡ colon
unfolding pattern iriref short_string long_string integer decimal double pname_ns pname_ln blank_label langtag is_digit is_sign is_name_base is_letter
starts_colon_by = refl

pub starts_colon : (c : ℕ) → c ≡ 58 → alive (all_after c tokens) ≡ colon
starts_colon c e = ap (λ x. alive (all_after x tokens)) e ∙ starts_colon_by

starts_underscore_by : alive (all_after 95 tokens) ≡ underscore
unfolding pattern iriref short_string long_string integer decimal double pname_ns pname_ln blank_label langtag is_digit is_sign is_name_base is_letter
starts_underscore_by = refl

pub starts_underscore : (c : ℕ) → c ≡ 95 → alive (all_after c tokens) ≡ underscore
starts_underscore c e = ap (λ x. alive (all_after x tokens)) e ∙ starts_underscore_by

starts_at_by : alive (all_after 64 tokens) ≡ tag_start
unfolding pattern iriref short_string long_string integer decimal double pname_ns pname_ln blank_label langtag is_digit is_sign is_name_base is_letter
starts_at_by = refl

pub starts_at : (c : ℕ) → c ≡ 64 → alive (all_after c tokens) ≡ tag_start
starts_at c e = ap (λ x. alive (all_after x tokens)) e ∙ starts_at_by

starts_caret_by : alive (all_after 94 tokens) ≡ caret
unfolding pattern iriref short_string long_string integer decimal double pname_ns pname_ln blank_label langtag is_digit is_sign is_name_base is_letter
starts_caret_by = refl

pub starts_caret : (c : ℕ) → c ≡ 94 → alive (all_after c tokens) ≡ caret
starts_caret c e = ap (λ x. alive (all_after x tokens)) e ∙ starts_caret_by

starts_plus_by : alive (all_after 43 tokens) ≡ unsigned
unfolding pattern iriref short_string long_string integer decimal double pname_ns pname_ln blank_label langtag is_digit is_sign is_name_base is_letter
starts_plus_by = refl

pub starts_plus : (c : ℕ) → c ≡ 43 → alive (all_after c tokens) ≡ unsigned
starts_plus c e = ap (λ x. alive (all_after x tokens)) e ∙ starts_plus_by

starts_minus_by : alive (all_after 45 tokens) ≡ unsigned
unfolding pattern iriref short_string long_string integer decimal double pname_ns pname_ln blank_label langtag is_digit is_sign is_name_base is_letter
starts_minus_by = refl

pub starts_minus : (c : ℕ) → c ≡ 45 → alive (all_after c tokens) ≡ unsigned
starts_minus c e = ap (λ x. alive (all_after x tokens)) e ∙ starts_minus_by

digit_by : (c : ℕ) → is_digit c ≡ true → (c == 60) ≡ false → (c == 34) ≡ false → (c == 39) ≡ false → (c == 46) ≡ false → (c == 44) ≡ false → (c == 59) ≡ false → (c == 91) ≡ false → (c == 93) ≡ false → (c == 40) ≡ false → (c == 41) ≡ false → (c == 94) ≡ false → (c == 58) ≡ false → (c == 95) ≡ false → (c == 64) ≡ false → (c == 97) ≡ false → (c == 116) ≡ false → (c == 102) ≡ false → is_sign c ≡ false → is_name_base c ≡ false → (to_ascii_lowercase c == 112) ≡ false → (to_ascii_lowercase c == 98) ≡ false → alive (all_after c tokens) ≡ whole
unfolding pattern iriref short_string long_string integer decimal double pname_ns pname_ln blank_label langtag
digit_by c d h0 h1 h2 h3 h4 h5 h6 h7 h8 h9 h10 h11 h12 h13 h14 h15 h16 h17 h18 h19 h20 = rw (d, h0, h1, h2, h3, h4, h5, h6, h7, h8, h9, h10, h11, h12, h13, h14, h15, h16, h17, h18, h19, h20) refl

other_by : (c : ℕ) → is_digit c ≡ false → (c == 60) ≡ false → (c == 34) ≡ false → (c == 39) ≡ false → (c == 46) ≡ false → (c == 44) ≡ false → (c == 59) ≡ false → (c == 91) ≡ false → (c == 93) ≡ false → (c == 40) ≡ false → (c == 41) ≡ false → (c == 94) ≡ false → (c == 58) ≡ false → (c == 95) ≡ false → (c == 64) ≡ false → (c == 97) ≡ false → (c == 116) ≡ false → (c == 102) ≡ false → is_sign c ≡ false → is_name_base c ≡ false → (to_ascii_lowercase c == 112) ≡ false → (to_ascii_lowercase c == 98) ≡ false → alive (all_after c tokens) ≡ []
unfolding pattern iriref short_string long_string integer decimal double pname_ns pname_ln blank_label langtag
other_by c d h0 h1 h2 h3 h4 h5 h6 h7 h8 h9 h10 h11 h12 h13 h14 h15 h16 h17 h18 h19 h20 = rw (d, h0, h1, h2, h3, h4, h5, h6, h7, h8, h9, h10, h11, h12, h13, h14, h15, h16, h17, h18, h19, h20) refl

digit_no_sign : (c : ℕ) → is_digit c ≡ true → is_sign c ≡ false
unfolding is_digit is_sign
digit_no_sign c h = rw (plain_only is_digit c 43 refl h, plain_only is_digit c 45 refl h) refl

pub starts_digit : (c : ℕ) → is_digit c ≡ true → alive (all_after c tokens) ≡ whole
unfolding is_digit
starts_digit c h = digit_by c h (plain_only is_digit c 60 refl h) (plain_only is_digit c 34 refl h) (plain_only is_digit c 39 refl h) (plain_only is_digit c 46 refl h) (plain_only is_digit c 44 refl h) (plain_only is_digit c 59 refl h) (plain_only is_digit c 91 refl h) (plain_only is_digit c 93 refl h) (plain_only is_digit c 40 refl h) (plain_only is_digit c 41 refl h) (plain_only is_digit c 94 refl h) (plain_only is_digit c 58 refl h) (plain_only is_digit c 95 refl h) (plain_only is_digit c 64 refl h) (plain_only is_digit c 97 refl h) (plain_only is_digit c 116 refl h) (plain_only is_digit c 102 refl h) (digit_no_sign c h) (digit_no_base c h) (digit_no_p c h) (digit_no_b c h)

either_true : (x y : Bool) → x || y ≡ true → (x ≡ true) ⊎ (y ≡ true)
either_true true y e = inl refl
either_true false y e = inr e

sign_is : (c : ℕ) → is_sign c ≡ true → (c ≡ 43) ⊎ (c ≡ 45)
unfolding is_sign
sign_is c h = ⊎_elim (λ e. inl (eqb-true c 43 e)) (λ k. ⊎_elim (λ e. inr (eqb-true c 45 e)) (λ f. absurd (let g = f in cc)) (either_true (c == 45) false k)) (either_true (c == 43) (c == 45 || false) h)

pub starts_sign : (c : ℕ) → is_sign c ≡ true → alive (all_after c tokens) ≡ unsigned
starts_sign c h = ⊎_elim (λ e. starts_plus c e) (λ e. starts_minus c e) (sign_is c h)

base_by : (c : ℕ) → is_name_base c ≡ true → (c == 60) ≡ false → (c == 34) ≡ false → (c == 39) ≡ false → (c == 46) ≡ false → (c == 44) ≡ false → (c == 59) ≡ false → (c == 91) ≡ false → (c == 93) ≡ false → (c == 40) ≡ false → (c == 41) ≡ false → (c == 94) ≡ false → (c == 58) ≡ false → (c == 95) ≡ false → (c == 64) ≡ false → is_sign c ≡ false → is_digit c ≡ false → alive (all_after c others) ≡ prefix
unfolding pattern iriref short_string long_string integer decimal double pname_ns pname_ln blank_label langtag
base_by c b h0 h1 h2 h3 h4 h5 h6 h7 h8 h9 h10 h11 h12 h13 h14 h15 = rw (b, h0, h1, h2, h3, h4, h5, h6, h7, h8, h9, h10, h11, h12, h13, h14, h15) refl

base_no_sign : (c : ℕ) → is_name_base c ≡ true → is_sign c ≡ false
unfolding is_name_base is_letter is_sign
base_no_sign c h = rw (plain_only is_name_base c 43 refl h, plain_only is_name_base c 45 refl h) refl

pub starts_base : (c : ℕ) → is_name_base c ≡ true → alive (all_after c others) ≡ prefix
unfolding is_name_base is_letter
starts_base c h = base_by c h (plain_only is_name_base c 60 refl h) (plain_only is_name_base c 34 refl h) (plain_only is_name_base c 39 refl h) (plain_only is_name_base c 46 refl h) (plain_only is_name_base c 44 refl h) (plain_only is_name_base c 59 refl h) (plain_only is_name_base c 91 refl h) (plain_only is_name_base c 93 refl h) (plain_only is_name_base c 40 refl h) (plain_only is_name_base c 41 refl h) (plain_only is_name_base c 94 refl h) (plain_only is_name_base c 58 refl h) (plain_only is_name_base c 95 refl h) (plain_only is_name_base c 64 refl h) (base_no_sign c h) (base_no_digit c h)

not_that : (f : ℕ → Bool) (c k : ℕ) → f k ≡ true → f c ≡ false → (c == k) ≡ false
not_that f c k it no_c = ne_eqb c k (λ e. let there : f c ≡ f k = ap f e in cc)

lower_is : (c k : ℕ) → to_ascii_lowercase c ≡ k → (c ≡ k) ⊎ (c + 32 ≡ k)
lower_is c k e = grind arith

base_lower : (c : ℕ) → is_name_base c ≡ false → (to_ascii_lowercase c == 112) ≡ false
unfolding is_name_base is_letter
base_lower c h = ne_eqb (to_ascii_lowercase c) 112 (λ e. ⊎_elim (λ s. let there : is_name_base c ≡ is_name_base 112 = ap is_name_base s in cc) (λ s. let is : c ≡ 80 = omega arith in let there : is_name_base c ≡ is_name_base 80 = ap is_name_base is in cc) (lower_is c 112 e))

base_lower_b : (c : ℕ) → is_name_base c ≡ false → (to_ascii_lowercase c == 98) ≡ false
unfolding is_name_base is_letter
base_lower_b c h = ne_eqb (to_ascii_lowercase c) 98 (λ e. ⊎_elim (λ s. let there : is_name_base c ≡ is_name_base 98 = ap is_name_base s in cc) (λ s. let is : c ≡ 66 = omega arith in let there : is_name_base c ≡ is_name_base 66 = ap is_name_base is in cc) (lower_is c 98 e))

pub starts_none : (c : ℕ) → is_digit c ≡ false → is_sign c ≡ false → is_name_base c ≡ false → c ≢ 60 → c ≢ 34 → c ≢ 39 → c ≢ 46 → c ≢ 44 → c ≢ 59 → c ≢ 91 → c ≢ 93 → c ≢ 40 → c ≢ 41 → c ≢ 94 → c ≢ 58 → c ≢ 95 → c ≢ 64 → alive (all_after c tokens) ≡ []
unfolding is_name_base is_letter
starts_none c d s b n60 n34 n39 n46 n44 n59 n91 n93 n40 n41 n94 n58 n95 n64 = other_by c d (ne_eqb c 60 n60) (ne_eqb c 34 n34) (ne_eqb c 39 n39) (ne_eqb c 46 n46) (ne_eqb c 44 n44) (ne_eqb c 59 n59) (ne_eqb c 91 n91) (ne_eqb c 93 n93) (ne_eqb c 40 n40) (ne_eqb c 41 n41) (ne_eqb c 94 n94) (ne_eqb c 58 n58) (ne_eqb c 95 n95) (ne_eqb c 64 n64) (not_that is_name_base c 97 refl b) (not_that is_name_base c 116 refl b) (not_that is_name_base c 102 refl b) s b (base_lower c b) (base_lower_b c b)

-- words
word_a_by : alive (all_after 97 words) ≡ wanting A nothing ∷ []
unfolding pattern
word_a_by = refl

word_t_by : alive (all_after 116 words) ≡ wanting True (letters false (codes "rue")) ∷ []
unfolding pattern
word_t_by = refl

word_f_by : alive (all_after 102 words) ≡ wanting False (letters false (codes "alse")) ∷ []
unfolding pattern
word_f_by = refl

pub word_a : (c : ℕ) → c ≡ 97 → alive (all_after c words) ≡ wanting A nothing ∷ []
word_a c e = ap (λ x. alive (all_after x words)) e ∙ word_a_by

pub word_t : (c : ℕ) → c ≡ 116 → alive (all_after c words) ≡ wanting True (letters false (codes "rue")) ∷ []
word_t c e = ap (λ x. alive (all_after x words)) e ∙ word_t_by

pub word_f : (c : ℕ) → c ≡ 102 → alive (all_after c words) ≡ wanting False (letters false (codes "alse")) ∷ []
word_f c e = ap (λ x. alive (all_after x words)) e ∙ word_f_by

p_by : (c : ℕ) → (c == 97) ≡ false → (c == 116) ≡ false → (c == 102) ≡ false → (to_ascii_lowercase c == 112) ≡ true → (to_ascii_lowercase c == 98) ≡ false → alive (all_after c words) ≡ wanting Prefix (letters true (codes "refix")) ∷ []
unfolding pattern
p_by c a t f p b = rw (a, t, f, p, b) refl

b_by : (c : ℕ) → (c == 97) ≡ false → (c == 116) ≡ false → (c == 102) ≡ false → (to_ascii_lowercase c == 112) ≡ false → (to_ascii_lowercase c == 98) ≡ true → alive (all_after c words) ≡ wanting Base (letters true (codes "ase")) ∷ []
unfolding pattern
b_by c a t f p b = rw (a, t, f, p, b) refl

pub word_p : (c : ℕ) → c ≢ 97 → c ≢ 116 → c ≢ 102 → (to_ascii_lowercase c == 112) ≡ true → alive (all_after c words) ≡ wanting Prefix (letters true (codes "refix")) ∷ []
word_p c a t f p = p_by c (ne_eqb c 97 a) (ne_eqb c 116 t) (ne_eqb c 102 f) p (ne_eqb (to_ascii_lowercase c) 98 (λ e. let k = eqb-true (to_ascii_lowercase c) 112 p in absurd (omega arith)))

pub word_b : (c : ℕ) → c ≢ 97 → c ≢ 116 → c ≢ 102 → (to_ascii_lowercase c == 112) ≡ false → (to_ascii_lowercase c == 98) ≡ true → alive (all_after c words) ≡ wanting Base (letters true (codes "ase")) ∷ []
word_b c a t f p b = b_by c (ne_eqb c 97 a) (ne_eqb c 116 t) (ne_eqb c 102 f) p b

none_by : (c : ℕ) → (c == 97) ≡ false → (c == 116) ≡ false → (c == 102) ≡ false → (to_ascii_lowercase c == 112) ≡ false → (to_ascii_lowercase c == 98) ≡ false → alive (all_after c words) ≡ []
unfolding pattern
none_by c a t f p b = rw (a, t, f, p, b) refl

pub word_none : (c : ℕ) → c ≢ 97 → c ≢ 116 → c ≢ 102 → (to_ascii_lowercase c == 112) ≡ false → (to_ascii_lowercase c == 98) ≡ false → alive (all_after c words) ≡ []
word_none c a t f p b = none_by c (ne_eqb c 97 a) (ne_eqb c 116 t) (ne_eqb c 102 f) p b

-- none of them is empty
pub tokens_accept : accepting tokens ≡ []
unfolding pattern iriref short_string long_string integer decimal double pname_ns pname_ln blank_label langtag
tokens_accept = refl

pub others_accept : accepting others ≡ []
unfolding pattern iriref short_string long_string integer decimal double pname_ns pname_ln blank_label langtag
others_accept = refl

pub words_accept : accepting words ≡ []
unfolding pattern
words_accept = refl

-- after the first character
pub caret_again : (c : ℕ) → c ≡ 94 → alive (all_after c caret) ≡ wanting DoubleCaret nothing ∷ []
caret_again c e = rw e refl

pub caret_other : (c : ℕ) → c ≢ 94 → alive (all_after c caret) ≡ []
caret_other c h = let k = ne_eqb c 94 h in rw k refl

pub underscore_colon : (c : ℕ) → c ≡ 58 → alive (all_after c underscore) ≡ label_start
underscore_colon c e = rw e refl

pub underscore_other : (c : ℕ) → c ≢ 58 → alive (all_after c underscore) ≡ []
underscore_other c h = let k = ne_eqb c 58 h in rw k refl

pub dot_digit : (c : ℕ) → is_digit c ≡ true → alive (all_after c dot_start) ≡ fraction
dot_digit c h = rw h refl

pub dot_other : (c : ℕ) → is_digit c ≡ false → alive (all_after c dot_start) ≡ []
dot_other c h = rw h refl

-- a letter of a word
pub letter_more : (b : Bool) (kind : TokenKind) (letter : ℕ) (rest : List ℕ) (c : ℕ) → letter_class b letter c ≡ true → alive (all_after c (wanting kind (letters b (letter ∷ rest)) ∷ [])) ≡ alive (wanting kind (letters b rest) ∷ [])
letter_more false kind letter rest c h = rw (h, either_fails) refl
letter_more true kind letter rest c h = rw (h, either_fails) refl

pub letter_not : (b : Bool) (kind : TokenKind) (letter : ℕ) (rest : List ℕ) (c : ℕ) → letter_class b letter c ≡ false → alive (all_after c (wanting kind (letters b (letter ∷ rest)) ∷ [])) ≡ []
letter_not false kind letter rest c h = rw h refl
letter_not true kind letter rest c h = rw h refl

pub letters_alive : (b : Bool) (kind : TokenKind) (rest : List ℕ) → alive (wanting kind (letters b rest) ∷ []) ≡ wanting kind (letters b rest) ∷ []
letters_alive false kind [] = refl
letters_alive false kind (c ∷ rest) = refl
letters_alive true kind [] = refl
letters_alive true kind (c ∷ rest) = refl

pub letters_accept : (b : Bool) (kind : TokenKind) (letter : ℕ) (rest : List ℕ) → accepting (wanting kind (letters b (letter ∷ rest)) ∷ []) ≡ []
letters_accept false kind letter rest = refl
letters_accept true kind letter rest = refl

pub letters_done : (b : Bool) (kind : TokenKind) → wanting kind (letters b []) ∷ [] ≡ wanting kind nothing ∷ []
letters_done false kind = refl
letters_done true kind = refl

at_word : (b : Bool) (kind : TokenKind) (text : List ℕ) (at : ℕ) (found : Option (TokenKind × ℕ)) (v w : List ℕ) → v ≡ w → PicksAt (wanting kind (letters b w) ∷ []) text at found → PicksAt (wanting kind (letters b v) ∷ []) text at found
at_word b kind text at found v w e h = let P : List ℕ → Type 0 = λ x. PicksAt (wanting kind (letters b x) ∷ []) text at found in subst P (sym e) h

-- the letters of a word, one by one
pub letters_on : (b : Bool) (kind : TokenKind) (word : List ℕ) (i : ℕ) (text : List ℕ) (at c next : ℕ) (found : Option (TokenKind × ℕ)) → i < length word → IsPlace text at → Reads text at c next → letter_class b (get_or word i 0) c ≡ true
    → PicksAt (wanting kind (letters b (drop (i + 1) word)) ∷ []) text next found → PicksAt (wanting kind (letters b (drop i word)) ∷ []) text at found
letters_on b kind word i text at c next found lt place r h k =
    let l = get_or word i 0 in
    let rest = drop (i + 1) word in
    at_word b kind text at found (drop i word) (l ∷ rest) (drop_more word i 0 lt)
    (pick_through text at c next (wanting kind (letters b (l ∷ rest)) ∷ []) (wanting kind (letters b rest) ∷ []) found place r (letter_more b kind l rest c h ∙ letters_alive b kind rest) (letters_accept b kind l rest) k)

pub letters_stop : (b : Bool) (kind : TokenKind) (word : List ℕ) (i : ℕ) (text : List ℕ) (at c next : ℕ) → i < length word → IsPlace text at → Reads text at c next → letter_class b (get_or word i 0) c ≡ false
    → PicksAt (wanting kind (letters b (drop i word)) ∷ []) text at None
letters_stop b kind word i text at c next lt place r h =
    let l = get_or word i 0 in
    let rest = drop (i + 1) word in
    at_word b kind text at None (drop i word) (l ∷ rest) (drop_more word i 0 lt)
    (pick_none text at c next (wanting kind (letters b (l ∷ rest)) ∷ []) place r (letter_not b kind l rest c h) (letters_accept b kind l rest))

pub letters_cut : (b : Bool) (kind : TokenKind) (word : List ℕ) (i : ℕ) (text : List ℕ) (at : ℕ) → i < length word → IsPlace text at → chars_from text at ≡ [] → PicksAt (wanting kind (letters b (drop i word)) ∷ []) text at None
letters_cut b kind word i text at lt place e =
    let l = get_or word i 0 in
    let rest = drop (i + 1) word in
    at_word b kind text at None (drop i word) (l ∷ rest) (drop_more word i 0 lt)
    (pick_none_last text at (wanting kind (letters b (l ∷ rest)) ∷ []) place e (letters_accept b kind l rest))

pub letters_whole : (b : Bool) (kind : TokenKind) (word : List ℕ) (i : ℕ) (text : List ℕ) (at : ℕ) → length word ≤ i → IsPlace text at → PicksAt (wanting kind (letters b (drop i word)) ∷ []) text at (Some (kind, at))
letters_whole b kind word i text at le place =
    let P : List Candidate → Type 0 = λ rs. PicksAt rs text at (Some (kind, at)) in
    at_word b kind text at (Some (kind, at)) (drop i word) [] (drop_all i word le) (subst P (sym (letters_done b kind)) (pick_done text at kind place))
