-- What may follow in a prefixed name and in a blank node's label.
use Rattle.std.specs.Prelude.{◌≡◌, ◌≢◌, ◌<◌, ◌≤◌, ◌⊎◌, ◌==◌, ◌||◌, ℕ, Bool, Option, Some, None, List, [], ◌∷◌}
use Rattle.turtle_grammar.specs.Pattern.{Pattern, nothing, one, ◌then◌, ◌or◌, many, maybe, char}
use Rattle.turtle_grammar.specs.Characters.{is_name_start, is_name_char, is_digit}
use Rattle.turtle_grammar.specs.Terminals.{plx, name_rest, pn_local}
use Rattle.turtle_grammar.specs.declared.token.TokenKind.{TokenKind}
use Rattle.turtle_grammar.specs.declared.token.TokenKind.TheVariants.{Namespace, PrefixedName, BlankLabel}
use Rattle.turtle_lex.specs.Places.{IsPlace, Reads}
use Rattle.turtle_lex.specs.Picks.{Candidate, PicksAt}

-- the rest of a name after a dot
abbrev pub dotted : Pattern
dotted = many (one is_name_char or char 46) then one is_name_char

-- a label after `_:`, after a character that may end it, and after a dot
abbrev pub label_start : List Candidate
label_start = record { kind = BlankLabel; wanted = (one is_name_start or one is_digit) then name_rest } ∷ []

abbrev pub label : List Candidate
label = record { kind = BlankLabel; wanted = name_rest } ∷ []

abbrev pub label_dot : List Candidate
label_dot = record { kind = BlankLabel; wanted = dotted } ∷ []

-- a prefix after a character that may end it, and after a dot
abbrev pub prefix : List Candidate
prefix = record { kind = Namespace; wanted = name_rest then char 58 } ∷ record { kind = PrefixedName; wanted = name_rest then char 58 then pn_local } ∷ []

abbrev pub prefix_dot : List Candidate
prefix_dot = record { kind = Namespace; wanted = dotted then char 58 } ∷ record { kind = PrefixedName; wanted = dotted then char 58 then pn_local } ∷ []

-- after the colon
abbrev pub colon : List Candidate
colon = record { kind = Namespace; wanted = nothing } ∷ record { kind = PrefixedName; wanted = pn_local } ∷ []

abbrev pub local_part : Pattern
local_part = one is_name_char or char 46 or char 58 or plx

abbrev pub local_last : Pattern
local_last = one is_name_char or char 58 or plx

abbrev pub local_dotted : Pattern
local_dotted = many local_part then local_last

-- a local name after a character that may end it, and after a dot
abbrev pub local : List Candidate
local = record { kind = PrefixedName; wanted = maybe local_dotted } ∷ []

abbrev pub local_dot : List Candidate
local_dot = record { kind = PrefixedName; wanted = local_dotted } ∷ []

-- within an escape that begins a local name, and within a later one
abbrev pub first_within : Pattern → List Candidate
first_within rest = record { kind = PrefixedName; wanted = rest then maybe local_dotted } ∷ []

abbrev pub later_within : Pattern → List Candidate
later_within rest = record { kind = PrefixedName; wanted = (rest then many local_part then local_last) or rest } ∷ []

-- A name's part goes on to where it may end, and not to a colon from further on.
pub record IsNameEnd (text : List ℕ) (at upto : ℕ) : Type 0 where
  pub place : IsPlace text upto
  pub further : at ≤ upto
  pub labels : PicksAt label text at (Some (BlankLabel, upto))
  pub carries : (found : Option (TokenKind × ℕ)) → PicksAt prefix text upto found → PicksAt prefix text at found
  pub ends : (c next : ℕ) → Reads text upto c next → c ≢ 58 → PicksAt prefix text upto None

-- what stands between the last place where a name may end and a later one: dots
pub record HasDots (text : List ℕ) (last at : ℕ) : Type 0 where
  pub first : ℕ
  pub dot : Reads text last 46 first
  pub label_ends : PicksAt label_dot text at None → PicksAt label text last (Some (BlankLabel, last))
  pub labels : (x : TokenKind × ℕ) → PicksAt label_dot text at (Some x) → PicksAt label text last (Some x)
  pub carries : (found : Option (TokenKind × ℕ)) → PicksAt prefix_dot text at found → PicksAt prefix text last found

-- a name so far: it may end at `last`, and only dots stand after that
pub record HasName (text : List ℕ) (from last at : ℕ) : Type 0 where
  pub place : IsPlace text at
  pub last_place : IsPlace text last
  pub further : from ≤ last
  pub labels : (x : TokenKind × ℕ) → PicksAt label text last (Some x) → PicksAt label text from (Some x)
  pub carries : (found : Option (TokenKind × ℕ)) → PicksAt prefix text last found → PicksAt prefix text from found
  pub dots : (last ≡ at) ⊎ HasDots text last at

-- what begins a local name, and what goes on with it and isn't a dot
abbrev pub is_local_start : ℕ → Bool
is_local_start c = is_name_start c || (c == 58 || is_digit c)

abbrev pub is_local_char : ℕ → Bool
is_local_char c = is_name_char c || c == 58

-- over the rest of an escape in a local name, or where it breaks off
abbrev pub GoesWithin : Pattern → List ℕ → ℕ → Option ℕ → Type 0
GoesWithin rest text at (Some upto) =
    IsPlace text upto × (at < upto)
    × ((x : TokenKind × ℕ) → PicksAt local text upto (Some x) → PicksAt (first_within rest) text at (Some x))
    × ((x : TokenKind × ℕ) → PicksAt local text upto (Some x) → PicksAt (later_within rest) text at (Some x))
GoesWithin rest text at None = PicksAt (first_within rest) text at None × PicksAt (later_within rest) text at None

-- over a part of a local name that isn't a dot, or where there is none
abbrev pub GoesOnLocally : List ℕ → ℕ → Option ℕ → Type 0
GoesOnLocally text at (Some upto) =
    IsPlace text upto × (at < upto)
    × ((x : TokenKind × ℕ) → PicksAt local text upto (Some x) → PicksAt local text at (Some x))
    × ((x : TokenKind × ℕ) → PicksAt local text upto (Some x) → PicksAt local_dot text at (Some x))
GoesOnLocally text at None = PicksAt local text at (Some (PrefixedName, at)) × PicksAt local_dot text at None

-- dots between the last place where a local name may end and a later one
pub record HasLocalDots (text : List ℕ) (last at : ℕ) : Type 0 where
  pub ends : PicksAt local_dot text at None → PicksAt local text last (Some (PrefixedName, last))
  pub carries : (x : TokenKind × ℕ) → PicksAt local_dot text at (Some x) → PicksAt local text last (Some x)

-- a local name so far
pub record HasLocal (text : List ℕ) (from last at : ℕ) : Type 0 where
  pub place : IsPlace text at
  pub last_place : IsPlace text last
  pub further : from ≤ last
  pub carries : (x : TokenKind × ℕ) → PicksAt local text last (Some x) → PicksAt local text from (Some x)
  pub dots : (last ≡ at) ⊎ HasLocalDots text last at
