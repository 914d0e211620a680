-- What follows each character in a local name.
use Rattle.std.proofs.Common.{◌≡◌, ◌≢◌, ◌⊎◌, inl, inr, ⊎_elim, ℕ, ◌≤◌, Bool, true, false, ◌==◌, ◌||◌, Option, Some, None, List, [], refl, sym, ap, ◌∙◌, subst, arith}
use Rattle.std.proofs.lemmas.Bool.{ne_eqb, eqb-true}
use Rattle.turtle_grammar.specs.Characters.{is_letter, is_digit, is_name_base, is_name_start, is_name_char, is_hex, is_local_escape}
use Rattle.turtle_grammar.specs.Terminals.{hex}
use Rattle.turtle_grammar.specs.Pattern.{Pattern, one, times}
use Rattle.turtle_grammar.specs.declared.token.TokenKind.{TokenKind}
use Rattle.turtle_grammar.specs.declared.token.TokenKind.TheVariants.{PrefixedName}
use Rattle.turtle_lex.specs.Places.{IsPlace, chars_from, Reads}
use Rattle.turtle_lex.specs.Picks.{Candidate, all_after, alive, PicksAt}
use Rattle.turtle_lex.specs.Names.{colon, local, local_dot, first_within, later_within, is_local_start, is_local_char, GoesWithin, GoesOnLocally, HasLocal, HasLocalDots}
use Rattle.turtle_lex.proofs.Bodies.{plain_only}
use Rattle.turtle_lex.proofs.Apart.{digit_no_start, start_no_digit}
use Rattle.turtle_lex.proofs.Picked.{pick_through, pick_or, pick_none, pick_only, pick_none_last, pick_only_last}

-- within an escape
pub first_hex : (c : ℕ) → is_hex c ≡ true → alive (all_after c (first_within (times 2 hex))) ≡ first_within hex
first_hex c h = rw h refl

pub later_hex : (c : ℕ) → is_hex c ≡ true → alive (all_after c (later_within (times 2 hex))) ≡ later_within hex
later_hex c h = rw h refl

pub first_no_hex : (c : ℕ) → is_hex c ≡ false → alive (all_after c (first_within (times 2 hex))) ≡ []
first_no_hex c h = rw h refl

pub later_no_hex : (c : ℕ) → is_hex c ≡ false → alive (all_after c (later_within (times 2 hex))) ≡ []
later_no_hex c h = rw h refl

pub first_last : (f : ℕ → Bool) (c : ℕ) → f c ≡ true → alive (all_after c (first_within (one f))) ≡ local
first_last f c h = rw h refl

pub later_last : (f : ℕ → Bool) (c : ℕ) → f c ≡ true → alive (all_after c (later_within (one f))) ≡ local
later_last f c h = rw h refl

pub first_not : (f : ℕ → Bool) (c : ℕ) → f c ≡ false → alive (all_after c (first_within (one f))) ≡ []
first_not f c h = rw h refl

pub later_not : (f : ℕ → Bool) (c : ℕ) → f c ≡ false → alive (all_after c (later_within (one f))) ≡ []
later_not f c h = rw h refl

-- one character of a class
pub within_last : (f : ℕ → Bool) (text : List ℕ) (at c next : ℕ) → IsPlace text at → Reads text at c next → f c ≡ true → GoesWithin (one f) text at (Some next)
within_last f text at c next place r h = (
  r.place,
  r.further,
  λ x k. pick_through text at c next (first_within (one f)) local (Some x) place r (first_last f c h) refl k,
  λ x k. pick_through text at c next (later_within (one f)) local (Some x) place r (later_last f c h) refl k,
)

pub within_not : (f : ℕ → Bool) (text : List ℕ) (at c next : ℕ) → IsPlace text at → Reads text at c next → f c ≡ false → GoesWithin (one f) text at None
within_not f text at c next place r h =
    (pick_none text at c next (first_within (one f)) place r (first_not f c h) refl, pick_none text at c next (later_within (one f)) place r (later_not f c h) refl)

pub within_end : (f : ℕ → Bool) (text : List ℕ) (at : ℕ) → IsPlace text at → chars_from text at ≡ [] → GoesWithin (one f) text at None
within_end f text at place e = (pick_none_last text at (first_within (one f)) place e refl, pick_none_last text at (later_within (one f)) place e refl)

pub within_two : (text : List ℕ) (at c next : ℕ) (found : Option ℕ) → IsPlace text at → Reads text at c next → is_hex c ≡ true → GoesWithin hex text next found → GoesWithin (times 2 hex) text at found
within_two text at c next (Some upto) place r h k = (
  k.0,
  omega (arith, k.1, r.further),
  λ x m. pick_through text at c next (first_within (times 2 hex)) (first_within hex) (Some x) place r (first_hex c h) refl (k.2 x m),
  λ x m. pick_through text at c next (later_within (times 2 hex)) (later_within hex) (Some x) place r (later_hex c h) refl (k.3 x m),
)
within_two text at c next None place r h k = (
  pick_through text at c next (first_within (times 2 hex)) (first_within hex) None place r (first_hex c h) refl k.0,
  pick_through text at c next (later_within (times 2 hex)) (later_within hex) None place r (later_hex c h) refl k.1,
)

pub within_two_not : (text : List ℕ) (at c next : ℕ) → IsPlace text at → Reads text at c next → is_hex c ≡ false → GoesWithin (times 2 hex) text at None
within_two_not text at c next place r h =
    (pick_none text at c next (first_within (times 2 hex)) place r (first_no_hex c h) refl, pick_none text at c next (later_within (times 2 hex)) place r (later_no_hex c h) refl)

pub within_two_end : (text : List ℕ) (at : ℕ) → IsPlace text at → chars_from text at ≡ [] → GoesWithin (times 2 hex) text at None
within_two_end text at place e = (pick_none_last text at (first_within (times 2 hex)) place e refl, pick_none_last text at (later_within (times 2 hex)) place e refl)

-- a part of a local name
either_true : (x y : Bool) → x || y ≡ true → (x ≡ true) ⊎ (y ≡ true)
either_true true y e = inl refl
either_true false y e = inr e

no_46 : is_name_char 46 ≡ false
unfolding is_name_char is_name_start is_name_base is_letter is_digit
no_46 = refl

no_58 : is_name_char 58 ≡ false
unfolding is_name_char is_name_start is_name_base is_letter is_digit
no_58 = refl

no_37 : is_name_char 37 ≡ false
unfolding is_name_char is_name_start is_name_base is_letter is_digit
no_37 = refl

no_92 : is_name_char 92 ≡ false
unfolding is_name_char is_name_start is_name_base is_letter is_digit
no_92 = refl

name_facts : (c k : ℕ) → is_name_char k ≡ false → is_name_char c ≡ true → (c == k) ≡ false
name_facts c k e h = plain_only is_name_char c k e h

local_by_name : (c : ℕ) → is_name_char c ≡ true → (c == 46) ≡ false → (c == 58) ≡ false → (c == 37) ≡ false → (c == 92) ≡ false → alive (all_after c local) ≡ local
local_by_name c h f g k l = rw (h, f, g, k, l) refl

dot_by_name : (c : ℕ) → is_name_char c ≡ true → (c == 46) ≡ false → (c == 58) ≡ false → (c == 37) ≡ false → (c == 92) ≡ false → alive (all_after c local_dot) ≡ local
dot_by_name c h f g k l = rw (h, f, g, k, l) refl

local_by_colon : alive (all_after 58 local) ≡ local
unfolding is_name_char is_name_start is_name_base is_letter is_digit
local_by_colon = refl

dot_by_colon : alive (all_after 58 local_dot) ≡ local
unfolding is_name_char is_name_start is_name_base is_letter is_digit
dot_by_colon = refl

more_by : (rs : List Candidate) (c : ℕ) → (is_name_char c ≡ true → (c == 46) ≡ false → (c == 58) ≡ false → (c == 37) ≡ false → (c == 92) ≡ false → alive (all_after c rs) ≡ local) → alive (all_after 58 rs) ≡ local
    → is_local_char c ≡ true → alive (all_after c rs) ≡ local
more_by rs c by_name by_colon h =
    ⊎_elim
    (λ n. by_name n (name_facts c 46 no_46 n) (name_facts c 58 no_58 n) (name_facts c 37 no_37 n) (name_facts c 92 no_92 n))
    (λ k. ap (λ x. alive (all_after x rs)) (eqb-true c 58 k) ∙ by_colon)
    (either_true (is_name_char c) (c == 58) h)

local_more : (c : ℕ) → is_local_char c ≡ true → alive (all_after c local) ≡ local
local_more c h = more_by local c (local_by_name c) local_by_colon h

dot_more : (c : ℕ) → is_local_char c ≡ true → alive (all_after c local_dot) ≡ local
dot_more c h = more_by local_dot c (dot_by_name c) dot_by_colon h

local_first_dot : alive (all_after 46 local) ≡ local_dot
unfolding is_name_char is_name_start is_name_base is_letter is_digit
local_first_dot = refl

local_next_dot : alive (all_after 46 local_dot) ≡ local_dot
unfolding is_name_char is_name_start is_name_base is_letter is_digit
local_next_dot = refl

pub local_percent : alive (all_after 37 local) ≡ later_within (times 2 hex)
unfolding is_name_char is_name_start is_name_base is_letter is_digit
local_percent = refl

pub dot_percent : alive (all_after 37 local_dot) ≡ later_within (times 2 hex)
unfolding is_name_char is_name_start is_name_base is_letter is_digit
dot_percent = refl

pub local_backslash : alive (all_after 92 local) ≡ later_within (one is_local_escape)
unfolding is_name_char is_name_start is_name_base is_letter is_digit
local_backslash = refl

pub dot_backslash : alive (all_after 92 local_dot) ≡ later_within (one is_local_escape)
unfolding is_name_char is_name_start is_name_base is_letter is_digit
dot_backslash = refl

local_other : (c : ℕ) → is_name_char c ≡ false → (c == 58) ≡ false → (c == 46) ≡ false → (c == 37) ≡ false → (c == 92) ≡ false → alive (all_after c local) ≡ []
local_other c h g f k l = rw (h, f, g, k, l) refl

dot_other : (c : ℕ) → is_name_char c ≡ false → (c == 58) ≡ false → (c == 46) ≡ false → (c == 37) ≡ false → (c == 92) ≡ false → alive (all_after c local_dot) ≡ []
dot_other c h g f k l = rw (h, f, g, k, l) refl

neither : (x y : Bool) → x || y ≡ false → (x ≡ false) × (y ≡ false)
neither true y e = cc
neither false y e = (refl, e)

pub part_more : (text : List ℕ) (at c next : ℕ) → IsPlace text at → Reads text at c next → is_local_char c ≡ true → GoesOnLocally text at (Some next)
part_more text at c next place r h = (
  r.place,
  r.further,
  λ x k. pick_or text at c next local local (Some x) (Some x) PrefixedName place r (local_more c h) refl k refl,
  λ x k. pick_through text at c next local_dot local (Some x) place r (dot_more c h) refl k,
)

pub part_within : (rest : Pattern) (text : List ℕ) (at c d next : ℕ) (found : Option ℕ) → IsPlace text at → Reads text at c next → c ≡ d → alive (all_after d local) ≡ later_within rest → alive (all_after d local_dot) ≡ later_within rest
    → GoesWithin rest text next found → GoesOnLocally text at found
part_within rest text at c d next (Some upto) place r is e f k =
    let g : alive (all_after c local) ≡ later_within rest = ap (λ x. alive (all_after x local)) is ∙ e in
    let h : alive (all_after c local_dot) ≡ later_within rest = ap (λ x. alive (all_after x local_dot)) is ∙ f in (
      k.0,
      omega (arith, k.1, r.further),
      λ x m. pick_or text at c next local (later_within rest) (Some x) (Some x) PrefixedName place r g refl (k.3 x m) refl,
      λ x m. pick_through text at c next local_dot (later_within rest) (Some x) place r h refl (k.3 x m),
    )
part_within rest text at c d next None place r is e f k =
    let g : alive (all_after c local) ≡ later_within rest = ap (λ x. alive (all_after x local)) is ∙ e in
    let h : alive (all_after c local_dot) ≡ later_within rest = ap (λ x. alive (all_after x local_dot)) is ∙ f in (
      pick_or text at c next local (later_within rest) None (Some (PrefixedName, at)) PrefixedName place r g refl k.1 refl,
      pick_through text at c next local_dot (later_within rest) None place r h refl k.1,
    )

pub part_not : (text : List ℕ) (at c next : ℕ) → IsPlace text at → Reads text at c next → c ≢ 46 → is_local_char c ≡ false → c ≢ 37 → c ≢ 92 → GoesOnLocally text at None
part_not text at c next place r d h p b =
    let k = neither (is_name_char c) (c == 58) h in (
      pick_only text at c next local PrefixedName place r (local_other c k.0 k.1 (ne_eqb c 46 d) (ne_eqb c 37 p) (ne_eqb c 92 b)) refl,
      pick_none text at c next local_dot place r (dot_other c k.0 k.1 (ne_eqb c 46 d) (ne_eqb c 37 p) (ne_eqb c 92 b)) refl,
    )

-- the whole of it
pub local_begins : (text : List ℕ) (from : ℕ) → IsPlace text from → HasLocal text from from from
local_begins text from place = record { place = place; last_place = place; further = omega arith; carries = λ x k. k; dots = inl refl }

over_part : (text : List ℕ) (last at upto : ℕ) (x : TokenKind × ℕ) → GoesOnLocally text at (Some upto) → (last ≡ at) ⊎ HasLocalDots text last at → PicksAt local text upto (Some x) → PicksAt local text last (Some x)
over_part text last at upto x g (inl e) k = let P : ℕ → Type 0 = λ y. PicksAt local text y (Some x) in subst P (sym e) (g.2 x k)
over_part text last at upto x g (inr d) k = d.carries x (g.3 x k)

pub local_part_more : (text : List ℕ) (from last at upto : ℕ) → HasLocal text from last at → last ≤ at → GoesOnLocally text at (Some upto) → HasLocal text from upto upto
local_part_more text from last at upto n le g = record {
  place = g.0;
  last_place = g.0;
  further = omega (arith, n.further, g.1);
  carries = λ x k. n.carries x (over_part text last at upto x g n.dots k);
  dots = inl refl;
}

local_dots_more : (text : List ℕ) (last at next : ℕ) → IsPlace text at → Reads text at 46 next → (last ≡ at) ⊎ HasLocalDots text last at → HasLocalDots text last next
local_dots_more text last at next place r (inl e) =
    let P : ℕ → Type 0 = λ y. HasLocalDots text y next in
    let there : HasLocalDots text at next = record {
      ends = λ k. pick_or text at 46 next local local_dot None (Some (PrefixedName, at)) PrefixedName place r local_first_dot refl k refl;
      carries = λ x k. pick_or text at 46 next local local_dot (Some x) (Some x) PrefixedName place r local_first_dot refl k refl;
    } in
    subst P (sym e) there
local_dots_more text last at next place r (inr d) = record {
  ends = λ k. d.ends (pick_through text at 46 next local_dot local_dot None place r local_next_dot refl k);
  carries = λ x k. d.carries x (pick_through text at 46 next local_dot local_dot (Some x) place r local_next_dot refl k);
}

pub local_dot_more : (text : List ℕ) (from last at c next : ℕ) → HasLocal text from last at → Reads text at c next → c ≡ 46 → HasLocal text from last next
local_dot_more text from last at c next n r e =
    let P : ℕ → Type 0 = λ x. Reads text at x next in
    record { place = r.place; last_place = n.last_place; further = n.further; carries = n.carries; dots = inr (local_dots_more text last at next n.place (subst P e r) n.dots) }

local_here : (text : List ℕ) (last at : ℕ) → GoesOnLocally text at None → (last ≡ at) ⊎ HasLocalDots text last at → PicksAt local text last (Some (PrefixedName, last))
local_here text last at g (inl e) = let P : ℕ → Type 0 = λ x. PicksAt local text x (Some (PrefixedName, x)) in subst P (sym e) g.0
local_here text last at g (inr d) = d.ends g.1

pub local_stops : (text : List ℕ) (from last at : ℕ) → HasLocal text from last at → GoesOnLocally text at None → PicksAt local text from (Some (PrefixedName, last))
local_stops text from last at n g = n.carries (PrefixedName, last) (local_here text last at g n.dots)

pub local_ends : (text : List ℕ) (from last at : ℕ) → HasLocal text from last at → chars_from text at ≡ [] → PicksAt local text from (Some (PrefixedName, last))
local_ends text from last at n e = local_stops text from last at n (pick_only_last text at local PrefixedName n.place e refl, pick_none_last text at local_dot n.place e refl)

-- the first part
colon_by_start : (c : ℕ) → is_name_start c ≡ true → is_digit c ≡ false → (c == 58) ≡ false → (c == 37) ≡ false → (c == 92) ≡ false → alive (all_after c colon) ≡ local
colon_by_start c h d f k l = rw (h, d, f, k, l) refl

colon_by_digit : (c : ℕ) → is_name_start c ≡ false → is_digit c ≡ true → (c == 58) ≡ false → (c == 37) ≡ false → (c == 92) ≡ false → alive (all_after c colon) ≡ local
colon_by_digit c h d f k l = rw (h, d, f, k, l) refl

colon_by_colon : alive (all_after 58 colon) ≡ local
unfolding is_name_start is_name_base is_letter is_digit
colon_by_colon = refl

pub colon_percent : alive (all_after 37 colon) ≡ first_within (times 2 hex)
unfolding is_name_start is_name_base is_letter is_digit
colon_percent = refl

pub colon_backslash : alive (all_after 92 colon) ≡ first_within (one is_local_escape)
unfolding is_name_start is_name_base is_letter is_digit
colon_backslash = refl

colon_other : (c : ℕ) → is_name_start c ≡ false → is_digit c ≡ false → (c == 58) ≡ false → (c == 37) ≡ false → (c == 92) ≡ false → alive (all_after c colon) ≡ []
colon_other c h d f k l = rw (h, d, f, k, l) refl

start_fact : (c k : ℕ) → is_name_start k ≡ false → is_name_start c ≡ true → (c == k) ≡ false
start_fact c k e h = plain_only is_name_start c k e h

digit_fact : (c k : ℕ) → is_digit k ≡ false → is_digit c ≡ true → (c == k) ≡ false
digit_fact c k e h = plain_only is_digit c k e h

by_start : (c : ℕ) → is_name_start c ≡ true → alive (all_after c colon) ≡ local
unfolding is_name_start is_name_base is_letter
by_start c h = colon_by_start c h (start_no_digit c h) (start_fact c 58 refl h) (start_fact c 37 refl h) (start_fact c 92 refl h)

by_digit : (c : ℕ) → is_digit c ≡ true → alive (all_after c colon) ≡ local
unfolding is_digit
by_digit c h = colon_by_digit c (digit_no_start c h) h (digit_fact c 58 refl h) (digit_fact c 37 refl h) (digit_fact c 92 refl h)

pub colon_first : (c : ℕ) → is_local_start c ≡ true → alive (all_after c colon) ≡ local
colon_first c h =
    ⊎_elim (λ s. by_start c s)
    (λ k. ⊎_elim (λ e. ap (λ x. alive (all_after x colon)) (eqb-true c 58 e) ∙ colon_by_colon) (λ d. by_digit c d) (either_true (c == 58) (is_digit c) k))
    (either_true (is_name_start c) (c == 58 || is_digit c) h)

pub colon_not : (c : ℕ) → is_local_start c ≡ false → c ≢ 37 → c ≢ 92 → alive (all_after c colon) ≡ []
colon_not c h p b =
    let k = neither (is_name_start c) (c == 58 || is_digit c) h in
    let l = neither (c == 58) (is_digit c) k.1 in
    colon_other c k.0 l.1 l.0 (ne_eqb c 37 p) (ne_eqb c 92 b)

pub at_char : (rs then_rs : List Candidate) (c d : ℕ) → c ≡ d → alive (all_after d rs) ≡ then_rs → alive (all_after c rs) ≡ then_rs
at_char rs then_rs c d is e = ap (λ x. alive (all_after x rs)) is ∙ e
