-- Terms that are words of the vocabularies of RDF, DOAP and LV2.
use Rattle.std.specs.Prelude.{Bool}
use Rattle.triple_store.specs.declared.term.Term.{Term}
use Rattle.triple_store.specs.declared.term.Term.TheVariants.{Iri}
use Rattle.triple_store.specs.Triples.{same_term}
use Rattle.vocabulary.specs.Words.{iri_of}
use Rattle.vocabulary.specs.declared.word.Word.{Word}

-- a term is the IRI of this word
abbrev pub names : Word → Term → Bool
names word term = same_term (Iri (iri_of word)) term
