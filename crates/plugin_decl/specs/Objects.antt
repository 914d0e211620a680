-- What the triples say of a subject: the objects of its rows, in order.
use Rattle.std.specs.Prelude.{Bool, List, [], ◌∷◌, map, filter, Option, None, Some}
use Rattle.std.specs.List.{list_any}
use Rattle.triple_store.specs.declared.term.Term.{Term}
use Rattle.triple_store.specs.declared.term.Term.TheVariants.{Iri}
use Rattle.triple_store.specs.declared.term.Triple.{Triple}
use Rattle.triple_store.specs.Triples.{agrees}
use Rattle.vocabulary.specs.declared.word.Word.{Word}
use Rattle.vocabulary.specs.declared.word.Word.TheVariants.{RdfType}
use Rattle.vocabulary.specs.Words.{iri_of}
use Rattle.plugin_decl.specs.Naming.{names}

-- the object of a row
abbrev pub object : Triple → Term
object row = row.o

-- the objects of the rows with this subject and this predicate
unfoldable pub objects_of : List Triple → Term → Word → List Term
objects_of rows subject predicate = map object (filter (agrees (Some subject) (Some (Iri (iri_of predicate))) None) rows)

-- one of these objects is this IRI
unfoldable pub has : List Triple → Term → Word → Word → Bool
has rows subject predicate word = list_any (names word) (objects_of rows subject predicate)

-- the subject is of this class
abbrev pub is_a : List Triple → Term → Word → Bool
is_a rows subject class = has rows subject RdfType class

-- the first of a list, if it has one
abbrev pub first : {X : Type 0} → List X → Option X
first [] = None
first (x ∷ xs) = Some x

-- the only one of a list, if it has one alone
abbrev pub only : {X : Type 0} → List X → Option X
only [] = None
only (x ∷ []) = Some x
only (x ∷ y ∷ xs) = None
