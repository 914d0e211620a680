-- The values of LV2 atoms ("Atom Types" of the atom extension). Atom:Fixed, an atom of this host alone, has 2^-24 parts.
use Rattle.std.specs.Prelude.{ℕ, ℤ, List}

-- an atom that holds no atoms, a case for each type
pub data Plain : Type 0 where
  int : ℤ → Plain
  long : ℤ → Plain
  boolean : ℤ → Plain
  urid : ℕ → Plain
  string : List ℕ → Plain
  -- a datatype, a language and a text
  literal : ℕ → ℕ → List ℕ → Plain
  -- the size of an element, the type of an element, and the elements
  vector : ℕ → ℕ → List ℕ → Plain
  -- Float and Double are carried as bytes
  float : List ℕ → Plain
  double : List ℕ → Plain
  fixed : ℤ → Plain
  uri : List ℕ → Plain
  path : List ℕ → Plain
  -- a Chunk, or an atom of a type that isn't known
  other : ℕ → List ℕ → Plain

-- what a container says of itself: an object has an id and a type
pub data Container : Type 0 where
  tuple : Container
  object : ℕ → ℕ → Container
  sequence : Container

-- what stands before the atom of a part: nothing in a tuple, a key and a context in an object, a time in a sequence
pub data Lead : Type 0 where
  bare : Lead
  keyed : ℕ → ℕ → Lead
  timed : ℤ → Lead

mutual
  pub data Value : Type 0 where
    plain : Plain → Value
    holding : Container → Parts → Value

  pub data Parts : Type 0 where
    none : Parts
    part : Lead → Value → Parts → Parts
