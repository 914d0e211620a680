-- What follows each character in a language tag and in a gap.
use Rattle.std.proofs.Common.{◌≡◌, ℕ, Bool, true, false, not, ◌==◌, Option, Some, None, List, [], ◌∷◌, refl, sym, ap, ◌∙◌, subst}
use Rattle.turtle_grammar.specs.Characters.{is_letter, is_letter_or_digit, is_digit, is_white, is_line_end}
use Rattle.turtle_lex.specs.Picks.{all_after, alive, accepting, Loops}
use Rattle.turtle_grammar.specs.declared.token.TokenKind.TheVariants.{Dot}
use Rattle.turtle_lex.specs.Tags.{tag_start, tag_letters, tag_hyphen, tag_rest, gap_state, GoesOnWithHyphen, GapSteps}
use Rattle.turtle_lex.proofs.Bodies.{plain_only}

letter_no_hyphen : (c : ℕ) → is_letter c ≡ true → (c == 45) ≡ false
unfolding is_letter
letter_no_hyphen c h = plain_only is_letter c 45 refl h

both_no_hyphen : (c : ℕ) → is_letter_or_digit c ≡ true → (c == 45) ≡ false
unfolding is_letter_or_digit is_letter is_digit
both_no_hyphen c h = plain_only is_letter_or_digit c 45 refl h

pub start_letter : (c : ℕ) → is_letter c ≡ true → alive (all_after c tag_start) ≡ tag_letters
start_letter c h = rw h refl

pub start_other : (c : ℕ) → is_letter c ≡ false → alive (all_after c tag_start) ≡ []
start_other c h = rw h refl

letters_letter : (c : ℕ) → is_letter c ≡ true → (c == 45) ≡ false → alive (all_after c tag_letters) ≡ tag_letters
letters_letter c h k = rw (h, k) refl

pub letters_other : (c : ℕ) → is_letter c ≡ false → (c == 45) ≡ false → alive (all_after c tag_letters) ≡ []
letters_other c h k = rw (h, k) refl

pub letters_hyphen : alive (all_after 45 tag_letters) ≡ tag_hyphen
unfolding is_letter
letters_hyphen = refl

pub hyphen_more : (c : ℕ) → is_letter_or_digit c ≡ true → alive (all_after c tag_hyphen) ≡ tag_rest
hyphen_more c h = rw h refl

pub hyphen_other : (c : ℕ) → is_letter_or_digit c ≡ false → alive (all_after c tag_hyphen) ≡ []
hyphen_other c h = rw h refl

rest_more : (c : ℕ) → is_letter_or_digit c ≡ true → (c == 45) ≡ false → alive (all_after c tag_rest) ≡ tag_rest
rest_more c h k = rw (h, k) refl

pub rest_other : (c : ℕ) → is_letter_or_digit c ≡ false → (c == 45) ≡ false → alive (all_after c tag_rest) ≡ []
rest_other c h k = rw (h, k) refl

pub rest_hyphen : alive (all_after 45 tag_rest) ≡ tag_hyphen
unfolding is_letter_or_digit is_letter is_digit
rest_hyphen = refl

pub letters_loops : Loops is_letter tag_letters
letters_loops = record { stays = λ c h. letters_letter c h (letter_no_hyphen c h); sole = tt }

pub rest_loops : Loops is_letter_or_digit tag_rest
rest_loops = record { stays = λ c h. rest_more c h (both_no_hyphen c h); sole = tt }

-- gaps
white_no_sharp : (c : ℕ) → is_white c ≡ true → (c == 35) ≡ false
unfolding is_white
white_no_sharp c h = plain_only is_white c 35 refl h

white_by : (c : ℕ) → is_white c ≡ true → (c == 35) ≡ false → alive (all_after c (gap_state false)) ≡ gap_state false
white_by c h k = rw (h, k) refl

pub gap_white : (c : ℕ) → is_white c ≡ true → alive (all_after c (gap_state false)) ≡ gap_state false
gap_white c h = white_by c h (white_no_sharp c h)

sharp_by : alive (all_after 35 (gap_state false)) ≡ gap_state true
unfolding is_white
sharp_by = refl

pub gap_sharp : (c : ℕ) → c ≡ 35 → alive (all_after c (gap_state false)) ≡ gap_state true
gap_sharp c e = ap (λ x. alive (all_after x (gap_state false))) e ∙ sharp_by

pub gap_other : (c : ℕ) → is_white c ≡ false → (c == 35) ≡ false → alive (all_after c (gap_state false)) ≡ []
gap_other c h k = rw (h, k) refl

line_end : (c : ℕ) → is_line_end c ≡ true → alive (all_after c (gap_state true)) ≡ gap_state false
line_end c h = rw h refl

line_more : (c : ℕ) → is_line_end c ≡ false → alive (all_after c (gap_state true)) ≡ gap_state true
line_more c h = rw h refl

by_line : (c : ℕ) (b : Bool) → is_line_end c ≡ b → alive (all_after c (gap_state true)) ≡ gap_state (not b)
by_line c true h = line_end c h
by_line c false h = line_more c h

pub gap_line : (c : ℕ) → alive (all_after c (gap_state true)) ≡ gap_state (not (is_line_end c))
gap_line c = by_line c (is_line_end c) refl

pub gap_accepts : (b : Bool) → accepting (gap_state b) ≡ Dot ∷ []
gap_accepts true = refl
gap_accepts false = refl

-- the hyphen isn't there
pub not_there : (text : List ℕ) (at : ℕ) (found : Option ℕ) → ((x : ℕ) → found ≡ Some x → ⊥) → GoesOnWithHyphen text at found → GoesOnWithHyphen text at None
not_there text at None not_some h = h
not_there text at (Some x) not_some h = absurd (not_some x refl)

pub gap_case : (c : ℕ) (b d : Bool) (found : Option Bool) → b ≡ d → GapSteps c d found → GapSteps c b found
gap_case c b d found e h = let P : Bool → Type 0 = λ x. GapSteps c x found in subst P (sym e) h
