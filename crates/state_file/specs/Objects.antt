-- What the triples say of a subject: the objects of its rows, in order (RDF 1.1, section 3).
use Rattle.std.specs.Prelude.{ℕ, Bool, true, false, List, [], ◌∷◌, map, filter, Option, None, Some, is_some}
use Rattle.triple_store.specs.Triples.{same_term, agrees}
use Rattle.triple_store.specs.declared.term.Term.{Term}
use Rattle.triple_store.specs.declared.term.Term.TheVariants.{Iri, Blank, Literal}
use Rattle.triple_store.specs.declared.term.Triple.{Triple}
use Rattle.vocabulary.specs.Words.{iri_of}
use Rattle.vocabulary.specs.declared.word.Word.{Word}
use Rattle.state_file.specs.declared.objects.Kind.{Kind}
use Rattle.state_file.specs.declared.objects.Kind.TheVariants.{Whichever, OneIri, OneLiteral, OneNode}

-- a term is the IRI of this word
abbrev pub names : Word → Term → Bool
names word term = same_term (Iri (iri_of word)) term

-- the objects of the rows with this subject and this predicate
unfoldable pub objects_of : List Triple → Term → Word → List Term
objects_of rows subject predicate = map (λ (row : Triple). row.o) (filter (agrees (Some subject) (Some (Iri (iri_of predicate))) None) rows)

-- the text of a literal
abbrev pub text_in : Term → Option (List ℕ)
text_in (Literal text datatype lang) = Some text
text_in (Iri iri) = None
text_in (Blank number) = None

-- the IRI that a term is
abbrev pub iri_in : Term → Option (List ℕ)
iri_in (Iri iri) = Some iri
iri_in (Blank number) = None
iri_in (Literal text datatype lang) = None

-- an IRI or a blank node, which can be a subject
abbrev pub is_node : Term → Bool
is_node (Iri iri) = true
is_node (Blank number) = true
is_node (Literal text datatype lang) = false

abbrev pub is_of_kind : Kind → Term → Bool
is_of_kind Whichever term = true
is_of_kind OneIri term = is_some (iri_in term)
is_of_kind OneLiteral term = is_some (text_in term)
is_of_kind OneNode term = is_node term

-- the only one of a list, if it has one alone
abbrev pub only : {X : Type 0} → List X → Option X
only [] = None
only (x ∷ []) = Some x
only (x ∷ y ∷ xs) = None

-- the object of a kind, if there is exactly one; objects of other kinds are passed over
unfoldable pub one_of : Kind → List Triple → Term → Word → Option Term
one_of kind rows subject predicate = only (filter (is_of_kind kind) (objects_of rows subject predicate))
