-- Patterns of characters, as the grammar of W3C Turtle 1.1 writes its terminals, and what matches them.
use Rattle.std.specs.Prelude.{◌≡◌, ◌⊎◌, ◌↔◌, ℕ, zero, suc, Bool, true, false, ◌&&◌, ◌||◌, ◌==◌, if◌then◌else◌, List, [], ◌∷◌, ◌++◌}
use Rattle.std.specs.List.{AllByRecursion}

infixl 8 ◌then◌
infixl 7 ◌or◌
pub data Pattern : Type 0 where
  fails : Pattern  -- no text
  nothing : Pattern  -- the empty text
  one : (ℕ → Bool) → Pattern  -- one character of a class
  ◌then◌ : Pattern → Pattern → Pattern  -- one text after another
  ◌or◌ : Pattern → Pattern → Pattern
  many : Pattern → Pattern  -- none or more, one after another

-- the texts one after another
abbrev pub joined : List (List ℕ) → List ℕ
joined [] = []
joined (text ∷ texts) = text ++ joined texts

-- the whole text is of the pattern
abbrev pub Matches : Pattern → List ℕ → Type 0
Matches fails text = ⊥
Matches nothing text = text ≡ []
Matches (one class) text = (c : ℕ) × (class c ≡ true) × (text ≡ c ∷ [])
Matches (p then q) text = (front : List ℕ) × (back : List ℕ) × Matches p front × Matches q back × (text ≡ front ++ back)
Matches (p or q) text = Matches p text ⊎ Matches q text
Matches (many p) text = (parts : List (List ℕ)) × AllByRecursion (Matches p) parts × (text ≡ joined parts)

-- whether the empty text is of the pattern
abbrev pub is_empty : Pattern → Bool
is_empty fails = false
is_empty nothing = true
is_empty (one class) = false
is_empty (p then q) = is_empty p && is_empty q
is_empty (p or q) = is_empty p || is_empty q
is_empty (many p) = true

-- `p then q`, where one side may be plain to see
abbrev pub in_row : Pattern → Pattern → Pattern
in_row fails q = fails
in_row nothing q = q
in_row p q = p then q

-- `p or q`, where one side may fail
abbrev pub either : Pattern → Pattern → Pattern
either fails q = q
either p fails = p
either p q = p or q

-- what may follow the character in a text of the pattern: its derivative
abbrev pub after : ℕ → Pattern → Pattern
after c fails = fails
after c nothing = fails
after c (one class) = if class c then nothing else fails
after c (p then q) = either (in_row (after c p) q) (if is_empty p then after c q else fails)
after c (p or q) = either (after c p) (after c q)
after c (many p) = in_row (after c p) (many p)

-- The test that computes: it takes a text character by character.
abbrev pub matches : Pattern → List ℕ → Bool
matches p [] = is_empty p
matches p (c ∷ text) = matches (after c p) text

-- the pattern or nothing
abbrev pub maybe : Pattern → Pattern
maybe p = p or nothing

-- once or more
abbrev pub some : Pattern → Pattern
some p = p then many p

abbrev pub times : ℕ → Pattern → Pattern
times zero p = nothing
times (suc zero) p = p
times (suc (suc n)) p = p then times (suc n) p

-- one character
abbrev pub char : ℕ → Pattern
char code = one (λ c. c == code)

-- these characters
abbrev pub word : List ℕ → Pattern
word [] = nothing
word (c ∷ cs) = char c then word cs

-- The test is true of the texts of a pattern, and of no others.
abbrev pub TestAgrees : Type 0
TestAgrees = (p : Pattern) (text : List ℕ) → (matches p text ≡ true) ↔ Matches p text
