-- What is kept of names that were read.
use Rattle.std.specs.Prelude.{◌≡◌, ℕ, List, Option, None, Some, Result, Ok, Err, All, Contains}
use Rattle.turtle_document.specs.Meaning.{State, Fault}
use Rattle.turtle_read.specs.Moves.{named}
use Rattle.turtle_read.specs.declared.recent.Known.{Known}

abbrev pub HoldNothing : List (Option Known) → Type 0
HoldNothing slots = All (λ slot. slot ≡ None) slots

-- the IRI of a name that has one
abbrev pub iri_of : Result (Option (List ℕ)) Fault → Option (List ℕ)
iri_of (Ok iri) = iri
iri_of (Err fault) = None

-- under a base and prefixes the name stands for its IRI, wherever its token stands
abbrev pub IsKnown : List ℕ → (List ℕ → Option (List ℕ)) → Known → Type 0
IsKnown base prefixes k = (st : State) (at : ℕ) → st.base ≡ base → st.prefixes ≡ prefixes → iri_of (named k.kind (record { at = at; text = k.text }) st) ≡ Some k.iri

abbrev pub AreKnown : List ℕ → (List ℕ → Option (List ℕ)) → List (Option Known) → Type 0
AreKnown base prefixes slots = (k : Known) → Contains slots (Some k) → IsKnown base prefixes k
