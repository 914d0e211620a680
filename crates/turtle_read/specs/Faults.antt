-- What a reader's answers say in the words of documents' meaning.
use Rattle.std.specs.Prelude.{◌≡◌, ℕ, None, Result, Ok, Err}
use Rattle.turtle_document.specs.Meaning.{Fault, State}
use Rattle.turtle_document.specs.Meaning.Fault.{no_prefix, bad_iri, too_deep, full_store}
use Rattle.turtle_document.specs.Machine.{Config, Move}
use Rattle.turtle_document.specs.Machine.Move.{to, stuck, fails}
use Rattle.turtle_grammar.specs.Tree.{Leaf}
use Rattle.turtle_grammar.specs.declared.token.TokenKind.{TokenKind}
use Rattle.turtle_read.specs.Moves.{named}
use Rattle.turtle_read.specs.declared.fault.TurtleFault.{TurtleFault}
use Rattle.turtle_read.specs.declared.fault.TurtleFault.TheVariants as whole
use Rattle.turtle_read.specs.declared.lexeme.Lexeme.{Lexeme}
use Rattle.turtle_read.specs.declared.token_fault.TokenFault.{TokenFault}
use Rattle.turtle_read.specs.declared.token_fault.TokenFault.TheVariants.{Syntax, NoPrefix, BadIri, Depth, StoreFull, NoMemory}

-- A token's place and text.
abbrev pub leaf_of : Lexeme → Leaf
leaf_of token = record { at = token.at; text = token.text.now }

-- A token's fault is one of the document.
abbrev pub whole_of : TokenFault → TurtleFault
whole_of (Syntax at) = whole.Syntax at
whole_of (NoPrefix at) = whole.NoPrefix at
whole_of (BadIri at) = whole.BadIri at
whole_of (Depth at) = whole.Depth at
whole_of (StoreFull at) = whole.StoreFull at
whole_of NoMemory = whole.NoMemory

-- The fault of a meaning is one of these. Want of memory says nothing.
abbrev pub Refuses : TokenFault → (Fault → Type 0) → Type 0
Refuses (Syntax at) IsOne = ⊥
Refuses (NoPrefix at) IsOne = IsOne (no_prefix at)
Refuses (BadIri at) IsOne = IsOne (bad_iri at)
Refuses (Depth at) IsOne = IsOne (too_deep at)
Refuses (StoreFull at) IsOne = IsOne (full_store at)
Refuses NoMemory IsOne = Unit {0}

-- An answer is what the meaning gives, where an `Ok` stands for a value.
abbrev pub Gives : {T A : Type 0} → (T → A) → Result T TokenFault → Result A Fault → Type 0
Gives value (Ok x) meant = meant ≡ Ok (value x)
Gives value (Err fault) meant = Refuses fault (λ f. meant ≡ Err f)

-- No document goes on with the token at this place, or the move has a fault.
abbrev pub Stops : ℕ → TokenFault → Move → Type 0
Stops at (Syntax place) m = (place ≡ at) × (m ≡ stuck)
Stops at (NoPrefix place) m = m ≡ fails (no_prefix place)
Stops at (BadIri place) m = m ≡ fails (bad_iri place)
Stops at (Depth place) m = m ≡ fails (too_deep place)
Stops at (StoreFull place) m = m ≡ fails (full_store place)
Stops at NoMemory m = Unit {0}

-- An answer at a token is the move, where an `Ok` leaves this behind.
abbrev pub Follows : {T : Type 0} → ℕ → Result T TokenFault → Config → State → Move → Type 0
Follows at (Ok _) after st m = m ≡ to after st
Follows at (Err fault) after st m = Stops at fault m

-- The same of what no token can't follow: it is so wherever the token stands.
abbrev pub Leads : {T : Type 0} → Result T TokenFault → Config → State → Move → Type 0
Leads result after st m = (at : ℕ) → Follows at result after st m

-- A token that has to name something and doesn't: it is no name, or its name has a fault. Want of memory says nothing.
abbrev pub NamesNone : ℕ → TokenKind → Leaf → State → TokenFault → Type 0
NamesNone at kind leaf st (Syntax place) = (place ≡ at) × (named kind leaf st ≡ Ok None)
NamesNone at kind leaf st (NoPrefix place) = named kind leaf st ≡ Err (no_prefix place)
NamesNone at kind leaf st (BadIri place) = named kind leaf st ≡ Err (bad_iri place)
NamesNone at kind leaf st (Depth place) = named kind leaf st ≡ Err (too_deep place)
NamesNone at kind leaf st (StoreFull place) = named kind leaf st ≡ Err (full_store place)
NamesNone at kind leaf st NoMemory = Unit {0}
