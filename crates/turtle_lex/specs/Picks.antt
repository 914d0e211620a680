-- The longest of several tokens.
use Rattle.std.specs.Prelude.{◌≡◌, ◌⊎◌, ◌<◌, ◌≤◌, ℕ, Bool, true, false, Option, Some, None, List, [], ◌∷◌, ◌++◌, length}
use Rattle.std.specs.List.{AllByRecursion}
use Rattle.turtle_grammar.specs.Pattern.{Pattern, fails, nothing, one, ◌then◌, ◌or◌, many, Matches, is_empty, after}
use Rattle.turtle_grammar.specs.declared.token.TokenKind.{TokenKind}
use Rattle.turtle_lex.specs.Places.{IsPlace, chars_from, Reads}
use Rattle.turtle_lex.specs.Scans.{NoFront}

-- a kind of token, with what is still wanted for it
pub record Candidate : Type 0 where
  pub kind : TokenKind
  pub wanted : Pattern

-- a token of the kind with this front
abbrev pub IsOne : List Candidate → TokenKind → List ℕ → Type 0
IsOne [] kind front = ⊥
IsOne (r ∷ rs) kind front = ((r.kind ≡ kind) × Matches r.wanted front) ⊎ IsOne rs kind front

-- the candidate has no other front so long
pub record IsNoLonger (text front : List ℕ) (kind : TokenKind) (r : Candidate) : Type 0 where
  pub shorter : (a b : List ℕ) → text ≡ a ++ b → Matches r.wanted a → (length a < length front) ⊎ ((length a ≡ length front) × (r.kind ≡ kind))

-- the longest token, of one kind alone, before these characters
pub record IsPicked (rs : List Candidate) (text : List ℕ) (kind : TokenKind) (back : List ℕ) : Type 0 where
  pub front : List ℕ
  pub whole : text ≡ front ++ back
  pub fits : IsOne rs kind front
  pub longest : AllByRecursion (IsNoLonger text front kind) rs

-- the longest token and the characters after it, if there is one
abbrev pub Picks : List Candidate → List ℕ → Option (TokenKind × List ℕ) → Type 0
Picks rs text None = AllByRecursion (λ (r : Candidate). NoFront r.wanted text) rs
Picks rs text (Some (kind, back)) = IsPicked rs text kind back

-- what is wanted after a character
abbrev pub all_after : ℕ → List Candidate → List Candidate
all_after c [] = []
all_after c (r ∷ rs) = record { kind = r.kind; wanted = after c r.wanted } ∷ all_after c rs

abbrev pub is_failure : Pattern → Bool
is_failure fails = true
is_failure nothing = false
is_failure (one f) = false
is_failure (p then q) = false
is_failure (p or q) = false
is_failure (many p) = false

abbrev pub kept : Bool → Candidate → List Candidate → List Candidate
kept true r rs = rs
kept false r rs = r ∷ rs

-- without those that can't come any more
abbrev pub alive : List Candidate → List Candidate
alive [] = []
alive (r ∷ rs) = kept (is_failure r.wanted) r (alive rs)

abbrev pub listed : Bool → TokenKind → List TokenKind → List TokenKind
listed true kind kinds = kind ∷ kinds
listed false kind kinds = kinds

-- the kinds for which nothing more is wanted
abbrev pub accepting : List Candidate → List TokenKind
accepting [] = []
accepting (r ∷ rs) = listed (is_empty r.wanted) r.kind (accepting rs)

-- at most one
abbrev pub IsSole : List TokenKind → Type 0
IsSole [] = Unit {0}
IsSole (kind ∷ []) = Unit {0}
IsSole (kind ∷ other ∷ kinds) = ⊥

-- what is found further on, or else the kind that ends here
abbrev pub better : Option (TokenKind × List ℕ) → List TokenKind → List ℕ → Option (TokenKind × List ℕ)
better (Some x) kinds text = Some x
better None [] text = None
better None (kind ∷ kinds) text = Some (kind, text)

-- the same with places in a text
abbrev pub PicksAt : List Candidate → List ℕ → ℕ → Option (TokenKind × ℕ) → Type 0
PicksAt rs text at None = Picks rs (chars_from text at) None
PicksAt rs text at (Some (kind, upto)) = IsPicked rs (chars_from text at) kind (chars_from text upto) × IsPlace text upto × (at ≤ upto)

abbrev pub or_here : Option (TokenKind × ℕ) → List TokenKind → ℕ → Option (TokenKind × ℕ)
or_here (Some x) kinds at = Some x
or_here None [] at = None
or_here None (kind ∷ kinds) at = Some (kind, at)

-- a character of the class leaves all as it is
pub record Loops (class : ℕ → Bool) (rs : List Candidate) : Type 0 where
  pub stays : (c : ℕ) → class c ≡ true → alive (all_after c rs) ≡ rs
  pub sole : IsSole (accepting rs)

-- what is picked after a run of the class is picked before it
abbrev pub Carries : (ℕ → Bool) → List ℕ → ℕ → ℕ → Type 0
Carries class text at upto = (rs : List Candidate) → Loops class rs → (found : Option (TokenKind × ℕ)) → PicksAt rs text upto found → PicksAt rs text at found

-- a longest run of characters of a class, from one place to another
pub record IsRun (class : ℕ → Bool) (text : List ℕ) (at upto : ℕ) : Type 0 where
  pub place : IsPlace text upto
  pub further : at ≤ upto
  pub stops : (c next : ℕ) → Reads text upto c next → class c ≡ false
  pub ending : (chars_from text upto ≡ []) ⊎ ((c : ℕ) × (next : ℕ) × Reads text upto c next)
  pub carries : Carries class text at upto
