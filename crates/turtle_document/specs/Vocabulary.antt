-- The IRIs that Turtle's short forms stand for: W3C Turtle 1.1, sections 2.4, 2.5 and 2.8.
use Rattle.std.specs.Prelude.{ℕ, List}
use Rattle.turtle_grammar.specs.Tree.{Shorthand}
use Rattle.turtle_grammar.specs.Tree.Shorthand.{integer, decimal, double_number, true_word, false_word}
use Rattle.vocabulary.specs.Words.{iri_of}
use Rattle.vocabulary.specs.declared.word.Word.TheVariants.{RdfType, RdfFirst, RdfRest, RdfNil, RdfLangString, XsdString, XsdBoolean, XsdInteger, XsdDecimal, XsdDouble}

abbrev pub rdf_type : List ℕ
rdf_type = iri_of RdfType

abbrev pub rdf_first : List ℕ
rdf_first = iri_of RdfFirst

abbrev pub rdf_rest : List ℕ
rdf_rest = iri_of RdfRest

abbrev pub rdf_nil : List ℕ
rdf_nil = iri_of RdfNil

-- the datatype of a string with a language tag, and of one with nothing after it
abbrev pub rdf_lang_string : List ℕ
rdf_lang_string = iri_of RdfLangString

abbrev pub xsd_string : List ℕ
xsd_string = iri_of XsdString

-- the datatype of a number or of a truth value
abbrev pub datatype_of : Shorthand → List ℕ
datatype_of integer = iri_of XsdInteger
datatype_of decimal = iri_of XsdDecimal
datatype_of double_number = iri_of XsdDouble
datatype_of true_word = iri_of XsdBoolean
datatype_of false_word = iri_of XsdBoolean
