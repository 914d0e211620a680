-- How what is seen of a text follows from what is seen after its first character.
use Rattle.std.proofs.Common.{◌≡◌, ℕ, suc, ◌≤◌, false, ◌&&◌, cond, List, [], ◌∷◌, ◌++◌, length, refl, sym, ap, subst, Result, Ok, Err, arith}
use Rattle.turtle_grammar.specs.Pattern.{Pattern, fails, nothing, one, ◌then◌, ◌or◌, many, Matches, is_empty, after, in_row, either}
use Rattle.turtle_grammar.specs.Tokens.{Begins}
use Rattle.turtle_grammar.proofs.Derivatives.{from_after, to_after, to_empty}
use Rattle.turtle_lex.specs.Places.{IsPlace, chars_from, Reads}
use Rattle.turtle_lex.specs.Scans.{Seen, NoFront, Closes, IsCutOff, GoesWrong, Scans, Goes, Stops, Leads}
use Rattle.turtle_lex.specs.Scans.Seen.{closes, cut_off, goes_wrong}
use Rattle.turtle_lex.specs.declared.stop.Stop.{Stop}
use Rattle.turtle_lex.specs.declared.stop.Stop.TheVariants.{Unclosed, Bad}

pub moved : (p : Pattern) (a b : List ℕ) → a ≡ b → Matches p a → Matches p b
moved p a b e h = let P : List ℕ → Type 0 = λ x. Matches p x in subst P e h

pub by_pattern : (p q : Pattern) (a : List ℕ) → p ≡ q → Matches p a → Matches q a
by_pattern p q a e h = let P : Pattern → Type 0 = λ x. Matches x a in subst P e h

-- a text of q is one of p after c
pub behind : (c : ℕ) (p q : Pattern) (a : List ℕ) → after c p ≡ q → Matches q a → Matches p (c ∷ a)
behind c p q a e h = from_after c p a (by_pattern q (after c p) a (sym e) h)

pub ahead : (c : ℕ) (p q : Pattern) (a : List ℕ) → after c p ≡ q → Matches p (c ∷ a) → Matches q a
ahead c p q a e h = by_pattern (after c p) q a e (to_after c p a h)

not_empty : (p : Pattern) → is_empty p ≡ false → Matches p [] → ⊥
not_empty p e h = let k = to_empty p h in cc

none_go : (c : ℕ) (p q : Pattern) (text : List ℕ) → after c p ≡ q → is_empty p ≡ false → NoFront q text → (front back : List ℕ) → c ∷ text ≡ front ++ back → Matches p front → ⊥
none_go c p q text e full h [] back w m = not_empty p full m
none_go c p q text e full h (d ∷ front) back w m =
    let same : d ∷ front ≡ c ∷ front = cc in let rest : text ≡ front ++ back = cc in
    h.none front back rest (ahead c p q front e (moved p (d ∷ front) (c ∷ front) same m))

pub none_behind : (c : ℕ) (p q : Pattern) (text : List ℕ) → after c p ≡ q → is_empty p ≡ false → NoFront q text → NoFront p (c ∷ text)
none_behind c p q text e full h = record { none = none_go c p q text e full h }

longest_go : (c : ℕ) (p q : Pattern) (text back : List ℕ) → after c p ≡ q → (h : Closes q text back) → (a b : List ℕ) → c ∷ text ≡ a ++ b → Matches p a → length a ≤ suc (length h.front)
longest_go c p q text back e h [] b w m = omega arith
longest_go c p q text back e h (d ∷ a) b w m =
    let same : d ∷ a ≡ c ∷ a = cc in let rest : text ≡ a ++ b = cc in
    omega (arith, h.longest a b rest (ahead c p q a e (moved p (d ∷ a) (c ∷ a) same m)))

begins_ahead : (c : ℕ) (p q : Pattern) (a : List ℕ) → after c p ≡ q → Begins p (c ∷ a) → Begins q a
begins_ahead c p q a e h = (h.0, ahead c p q (a ++ h.0) e h.1)

begins_behind : (c : ℕ) (p q : Pattern) (a : List ℕ) → after c p ≡ q → Begins q a → Begins p (c ∷ a)
begins_behind c p q a e h = (h.0, behind c p q (a ++ h.0) e h.1)

-- one character on
pub scans_behind : (c : ℕ) (p q : Pattern) (text : List ℕ) (seen : Seen) → after c p ≡ q → is_empty p ≡ false → Scans q text seen → Scans p (c ∷ text) seen
scans_behind c p q text (closes back) e full h = record {
  front = c ∷ h.front;
  whole = ap (λ x. c ∷ x) h.whole;
  fits = behind c p q h.front e h.fits;
  longest = longest_go c p q text back e h;
}
scans_behind c p q text cut_off e full h = record { none = none_behind c p q text e full h.none; begins = begins_behind c p q text e h.begins }
scans_behind c p q text (goes_wrong back) e full h = record {
  none = none_behind c p q text e full h.none;
  front = c ∷ h.front;
  c = h.c;
  rest = h.rest;
  whole = ap (λ x. c ∷ x) h.whole;
  wrong = h.wrong;
  begins = begins_behind c p q h.front e h.begins;
  ends = λ k. h.ends (begins_ahead c p q (h.front ++ h.c ∷ []) e k);
}

nothing_longest : (text a b : List ℕ) → text ≡ a ++ b → Matches nothing a → length a ≤ 0
nothing_longest text a b w m = omega (arith, ap length m)

-- where nothing is wanted any more
pub scans_done : (text : List ℕ) → Closes nothing text text
scans_done text = record { front = []; whole = refl; fits = refl; longest = nothing_longest text }

no_text : (text : List ℕ) → NoFront fails text
no_text text = record { none = λ _ _ _ m. m }

-- a character with which the pattern can't go on
pub scans_wrong : (c : ℕ) (p : Pattern) (text : List ℕ) → after c p ≡ fails → is_empty p ≡ false → Begins p [] → GoesWrong p (c ∷ text) (c ∷ text)
scans_wrong c p text e full live = record {
  none = none_behind c p fails text e full (no_text text);
  front = [];
  c = c;
  rest = text;
  whole = refl;
  wrong = refl;
  begins = live;
  ends = λ k. (begins_ahead c p fails [] e k).1;
}

none_at_end : (p : Pattern) → is_empty p ≡ false → (front back : List ℕ) → [] ≡ front ++ back → Matches p front → ⊥
none_at_end p full [] back w m = not_empty p full m
none_at_end p full (d ∷ front) back w m = cc

pub scans_end : (p : Pattern) → is_empty p ≡ false → Begins p [] → IsCutOff p []
scans_end p full live = record { none = record { none = none_at_end p full }; begins = live }

at_text : (p : Pattern) (seen : Seen) (a b : List ℕ) → a ≡ b → Scans p b seen → Scans p a seen
at_text p seen a b e h = let P : List ℕ → Type 0 = λ x. Scans p x seen in subst P (sym e) h

-- The same in places of a text.
pub goes_one : (text : List ℕ) (at c upto : ℕ) (p q : Pattern) → Reads text at c upto → after c p ≡ q → is_empty p ≡ false → Goes p q text at upto
goes_one text at c upto p q r e full = record {
  carries = λ seen h. at_text p seen (chars_from text at) (c ∷ chars_from text upto) r.reads (scans_behind c p q (chars_from text upto) seen e full h);
  further = omega (arith, r.further);
  place = r.place;
}

pub goes_on : (text : List ℕ) (at mid upto : ℕ) (p q r : Pattern) → Goes p q text at mid → Goes q r text mid upto → Goes p r text at upto
goes_on text at mid upto p q r g h = record {
  carries = λ seen s. g.carries seen (h.carries seen s);
  further = omega (arith, g.further, h.further);
  place = h.place;
}

pub goes_nowhere : (text : List ℕ) (at : ℕ) (p : Pattern) → IsPlace text at → Goes p p text at at
goes_nowhere text at p place = record { carries = λ seen s. s; further = omega arith; place = place }

pub stops_after : (text : List ℕ) (at mid : ℕ) (p q : Pattern) (stop : Stop) → Goes p q text at mid → Stops q text mid stop → Stops p text at stop
stops_after text at mid p q Unclosed g h = g.carries cut_off h
stops_after text at mid p q (Bad place) g h = (g.carries (goes_wrong (chars_from text place)) h.0, h.1)

pub leads_after : (text : List ℕ) (at mid : ℕ) (p q r : Pattern) (result : Result ℕ Stop) → Goes p q text at mid → Leads q r text mid result → Leads p r text at result
leads_after text at mid p q r (Ok upto) g h = goes_on text at mid upto p q r g h
leads_after text at mid p q r (Err stop) g h = stops_after text at mid p q stop g h

pub stops_wrong : (text : List ℕ) (at c upto : ℕ) (p : Pattern) → IsPlace text at → Reads text at c upto → after c p ≡ fails → is_empty p ≡ false → Begins p [] → Stops p text at (Bad at)
stops_wrong text at c upto p place r e full live =
    let P : List ℕ → Type 0 = λ x. GoesWrong p x x in
    (subst P (sym r.reads) (scans_wrong c p (chars_from text upto) e full live), place)

pub stops_end : (text : List ℕ) (at : ℕ) (p : Pattern) → chars_from text at ≡ [] → is_empty p ≡ false → Begins p [] → Stops p text at Unclosed
stops_end text at p e full live = let P : List ℕ → Type 0 = λ x. IsCutOff p x in subst P (sym e) (scans_end p full live)

pub either_fails : (p : Pattern) → either p fails ≡ p
either_fails fails = refl
either_fails nothing = refl
either_fails (one f) = refl
either_fails (a then b) = refl
either_fails (a or b) = refl
either_fails (many a) = refl

-- a pattern in a row of three, of which the first has begun and the last isn't empty
abbrev pub inside : Pattern → Pattern → Pattern → Pattern
inside m c p = in_row (in_row p m) c

pub inside_row : (c : ℕ) (p m e : Pattern) → is_empty p ≡ false → after c ((p then m) then e) ≡ in_row (in_row (after c p) m) e
inside_row c p m e full =
    let first : cond (is_empty p && is_empty m) (after c e) fails ≡ fails = rw full refl in
    let second : cond (is_empty p) (after c m) fails ≡ fails = rw full refl in
    rw (first, second, either_fails, either_fails) refl
