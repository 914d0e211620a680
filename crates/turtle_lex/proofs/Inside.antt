-- A part of a pattern that is read within what surrounds it, as an escape in a string.
use Rattle.std.proofs.Common.{◌≡◌, ℕ, Bool, true, false, ◌&&◌, cond, List, [], ◌++◌, refl, ap, ◌∙◌, Result, Ok, Err}
use Rattle.turtle_grammar.specs.Pattern.{Pattern, fails, nothing, one, ◌then◌, ◌or◌, many, is_empty, after, in_row}
use Rattle.turtle_grammar.specs.Tokens.{Begins}
use Rattle.turtle_grammar.proofs.Derivatives.{to_in_row}
use Rattle.turtle_lex.specs.Places.{IsPlace, chars_from, Reads}
use Rattle.turtle_lex.specs.Scans.{LeadsInside, IsFrame}
use Rattle.turtle_lex.specs.declared.stop.Stop.{Stop}
use Rattle.turtle_lex.specs.declared.stop.Stop.TheVariants.{Unclosed, Bad}
use Rattle.turtle_lex.proofs.Opened.{goes_one, goes_nowhere, leads_after, stops_wrong, stops_end, inside, inside_row, either_fails}

and_false : (x y : Bool) → y ≡ false → x && y ≡ false
and_false true y e = e
and_false false y e = refl

-- what follows a character in `p then q`, where p isn't empty
pub row_step : (c : ℕ) (p q : Pattern) → is_empty p ≡ false → after c (p then q) ≡ in_row (after c p) q
row_step c p q full =
    let first : cond (is_empty p) (after c q) fails ≡ fails = rw full refl in
    rw (first, either_fails) refl

pub in_row_step : (c : ℕ) (p q : Pattern) → is_empty p ≡ false → after c (in_row p q) ≡ in_row (after c p) q
in_row_step c fails q full = refl
in_row_step c nothing q full = cc
in_row_step c (one f) q full = row_step c (one f) q full
in_row_step c (a then b) q full = row_step c (a then b) q full
in_row_step c (a or b) q full = row_step c (a or b) q full
in_row_step c (many a) q full = cc

and_first : (x y : Bool) → x ≡ false → x && y ≡ false
and_first true y e = cc
and_first false y e = refl

pub in_row_full : (p q : Pattern) → is_empty p ≡ false → is_empty (in_row p q) ≡ false
in_row_full fails q full = refl
in_row_full nothing q full = cc
in_row_full (one f) q full = refl
in_row_full (a then b) q full = and_first (is_empty (a then b)) (is_empty q) full
in_row_full (a or b) q full = and_first (is_empty (a or b)) (is_empty q) full
in_row_full (many a) q full = cc

pub in_row_live : (p q : Pattern) → Begins p [] → Begins q [] → Begins (in_row p q) []
in_row_live p q h k = (h.0 ++ k.0, to_in_row p q (h.0 ++ k.0) (h.0, k.0, h.1, k.1, refl))

-- the surroundings of p in `p then q`
pub frame_then : (frame : Pattern → Pattern) (q : Pattern) → IsFrame frame → Begins q [] → IsFrame (λ p. frame (in_row p q))
frame_then frame q f live = record {
  steps = λ c p full. f.steps c (in_row p q) (in_row_full p q full) ∙ ap frame (in_row_step c p q full);
  stuck = f.stuck;
  full = λ p. f.full (in_row p q);
  live = λ p h. f.live (in_row p q) (in_row_live p q h live);
}

inside_full : (a c p : Pattern) → is_empty c ≡ false → is_empty (inside (many a) c p) ≡ false
inside_full a c fails e = refl
inside_full a c nothing e = e
inside_full a c (one f) e = refl
inside_full a c (x then y) e = and_false (is_empty (x then y) && true) (is_empty c) e
inside_full a c (x or y) e = and_false (is_empty (x or y) && true) (is_empty c) e
inside_full a c (many x) e = e

inside_steps : (a c : Pattern) (d : ℕ) (p : Pattern) → is_empty p ≡ false → after d (inside (many a) c p) ≡ inside (many a) c (after d p)
inside_steps a c d fails full = refl
inside_steps a c d nothing full = cc
inside_steps a c d (one f) full = inside_row d (one f) (many a) c full
inside_steps a c d (x then y) full = inside_row d (x then y) (many a) c full
inside_steps a c d (x or y) full = inside_row d (x or y) (many a) c full
inside_steps a c d (many x) full = cc

-- the surroundings of a part of a body: more parts, and the close
pub body_frame : (a c : Pattern) → is_empty c ≡ false → Begins c [] → IsFrame (inside (many a) c)
body_frame a c full live = record {
  steps = inside_steps a c;
  stuck = refl;
  full = λ p. inside_full a c p full;
  live = λ p h. in_row_live (in_row p (many a)) c (in_row_live p (many a) h ([], ([], tt, refl))) live;
}

-- Reading inside: one character on, a character that can't stand there, the end, and one part after another.
pub inside_step : (text : List ℕ) (at c mid : ℕ) (p q : Pattern) (result : Result ℕ Stop)
    → Reads text at c mid → after c p ≡ q → is_empty p ≡ false → LeadsInside q text mid result → LeadsInside p text at result
inside_step text at c mid p q result r e full h frame f =
    leads_after text at mid (frame p) (frame q) (frame nothing) result (goes_one text at c mid (frame p) (frame q) r (f.steps c p full ∙ ap frame e) (f.full p)) (h frame f)

pub inside_done : (text : List ℕ) (at : ℕ) → IsPlace text at → LeadsInside nothing text at (Ok at)
inside_done text at place frame f = goes_nowhere text at (frame nothing) place

pub inside_last : (text : List ℕ) (at c mid : ℕ) (p : Pattern) → Reads text at c mid → after c p ≡ nothing → is_empty p ≡ false → LeadsInside p text at (Ok mid)
inside_last text at c mid p r e full = inside_step text at c mid p nothing (Ok mid) r e full (inside_done text mid r.place)

pub inside_wrong : (text : List ℕ) (at c mid : ℕ) (p : Pattern) → IsPlace text at → Reads text at c mid → after c p ≡ fails → is_empty p ≡ false → Begins p []
    → LeadsInside p text at (Err (Bad at))
inside_wrong text at c mid p place r e full live frame f =
    stops_wrong text at c mid (frame p) place r (f.steps c p full ∙ (ap frame e ∙ f.stuck)) (f.full p) (f.live p live)

pub inside_end : (text : List ℕ) (at : ℕ) (p : Pattern) → chars_from text at ≡ [] → Begins p [] → LeadsInside p text at (Err Unclosed)
inside_end text at p e live frame f = stops_end text at (frame p) e (f.full p) (f.live p live)

pub inside_then : (text : List ℕ) (at mid : ℕ) (p q : Pattern) (result : Result ℕ Stop)
    → LeadsInside p text at (Ok mid) → LeadsInside q text mid result → Begins q [] → LeadsInside (in_row p q) text at result
inside_then text at mid p q result h k live frame f =
    leads_after text at mid (frame (in_row p q)) (frame q) (frame nothing) result (h (λ x. frame (in_row x q)) (frame_then frame q f live)) (k frame f)

pub inside_stop : (text : List ℕ) (at : ℕ) (p q : Pattern) (stop : Stop) → LeadsInside p text at (Err stop) → Begins q [] → LeadsInside (in_row p q) text at (Err stop)
inside_stop text at p q stop h live frame f = h (λ x. frame (in_row x q)) (frame_then frame q f live)
