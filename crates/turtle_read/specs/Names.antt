-- What a token names.
use Rattle.std.specs.Prelude.{ℕ, List, [], Option, None, Some, Result, Ok}
use Rattle.turtle_document.specs.Meaning.{Fault, State, ◌>>=◌, name_of}
use Rattle.turtle_document.specs.Vocabulary.{datatype_of}
use Rattle.turtle_grammar.specs.Tree.{Name, Shorthand}
use Rattle.triple_store.specs.declared.term.Term.{Term}
use Rattle.triple_store.specs.declared.term.Term.TheVariants.{Literal}

-- the IRI of a name, if there is a name
abbrev pub iri_of : Option Name → State → Result (Option (List ℕ)) Fault
iri_of None st = Ok None
iri_of (Some name) st = name_of name st >>= (λ iri. Ok (Some iri))

-- the literal of a number or of a truth value
abbrev pub short_of : List ℕ → Shorthand → Term
short_of text shorthand = Literal text (datatype_of shorthand) []
