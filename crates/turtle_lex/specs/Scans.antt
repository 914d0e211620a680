-- What the characters from inside a quoted token on come to.
use Rattle.std.specs.Prelude.{◌≡◌, ◌≤◌, ℕ, false, Result, Ok, Err, List, [], ◌∷◌, ◌++◌, length}
use Rattle.turtle_grammar.specs.Pattern.{Pattern, fails, nothing, Matches, is_empty, after}
use Rattle.turtle_grammar.specs.Tokens.{Begins}
use Rattle.turtle_lex.specs.Places.{IsPlace, chars_from}
use Rattle.turtle_lex.specs.declared.stop.Stop.{Stop}
use Rattle.turtle_lex.specs.declared.stop.Stop.TheVariants.{Unclosed, Bad}

-- The token closes before these characters, or the text's end cuts it off, or it goes wrong at these characters.
pub data Seen : Type 0 where
  closes : List ℕ → Seen
  cut_off : Seen
  goes_wrong : List ℕ → Seen

-- no front is of the pattern
pub record NoFront (p : Pattern) (text : List ℕ) : Type 0 where
  pub none : (front back : List ℕ) → text ≡ front ++ back → Matches p front → ⊥

pub record Closes (p : Pattern) (text back : List ℕ) : Type 0 where
  pub front : List ℕ
  pub whole : text ≡ front ++ back
  pub fits : Matches p front
  pub longest : (a b : List ℕ) → text ≡ a ++ b → Matches p a → length a ≤ length front

pub record IsCutOff (p : Pattern) (text : List ℕ) : Type 0 where
  pub none : NoFront p text
  pub begins : Begins p text

pub record GoesWrong (p : Pattern) (text back : List ℕ) : Type 0 where
  pub none : NoFront p text
  pub front : List ℕ
  pub c : ℕ
  pub rest : List ℕ
  pub whole : text ≡ front ++ back
  pub wrong : back ≡ c ∷ rest
  pub begins : Begins p front
  pub ends : Begins p (front ++ c ∷ []) → ⊥

abbrev pub Scans : Pattern → List ℕ → Seen → Type 0
Scans p text (closes back) = Closes p text back
Scans p text cut_off = IsCutOff p text
Scans p text (goes_wrong back) = GoesWrong p text back

-- From one place to another a text goes from the pattern p to the pattern q: what is seen there by q is seen here by p.
pub record Goes (p q : Pattern) (text : List ℕ) (at upto : ℕ) : Type 0 where
  pub carries : (seen : Seen) → Scans q (chars_from text upto) seen → Scans p (chars_from text at) seen
  pub further : at ≤ upto
  pub place : IsPlace text upto

-- where and how a scan stops
abbrev pub Stops : Pattern → List ℕ → ℕ → Stop → Type 0
Stops p text at Unclosed = IsCutOff p (chars_from text at)
Stops p text at (Bad place) = GoesWrong p (chars_from text at) (chars_from text place) × IsPlace text place

-- A scan goes on from q at the place that it gives, or stops.
abbrev pub Leads : Pattern → Pattern → List ℕ → ℕ → Result ℕ Stop → Type 0
Leads p q text at (Ok upto) = Goes p q text at upto
Leads p q text at (Err stop) = Stops p text at stop

-- A pattern with a part still open, as what surrounds an escape.
pub record IsFrame (frame : Pattern → Pattern) : Type 0 where
  pub steps : (c : ℕ) (p : Pattern) → is_empty p ≡ false → after c (frame p) ≡ frame (after c p)
  pub stuck : frame fails ≡ fails
  pub full : (p : Pattern) → is_empty (frame p) ≡ false
  pub live : (p : Pattern) → Begins p [] → Begins (frame p) []

abbrev pub LeadsInside : Pattern → List ℕ → ℕ → Result ℕ Stop → Type 0
LeadsInside p text at result = (frame : Pattern → Pattern) → IsFrame frame → Leads (frame p) (frame nothing) text at result
