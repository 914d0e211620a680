-- Triples as lines of text.
use Rattle.std.specs.Prelude.{ℕ, List, [], ◌++◌, flat_map, length, codes, decimal, if◌then◌else◌}
use Rattle.std.specs.Str.{bytes_eq}
use Rattle.triple_store.specs.declared.term.Term.{Term}
use Rattle.triple_store.specs.declared.term.Term.TheVariants.{Iri, Blank, Literal}
use Rattle.triple_store.specs.declared.term.Triple.{Triple}
use Rattle.vocabulary.specs.Words.{iri_of}
use Rattle.vocabulary.specs.declared.word.Word.TheVariants.{XsdString}
use Rattle.triple_list.specs.Escapes.{escaped}

-- an IRI in angle brackets
abbrev pub iri_text : List ℕ → List ℕ
iri_text iri = codes "<" ++ (iri ++ codes ">")

-- a blank node, by its number
abbrev pub blank_text : ℕ → List ℕ
blank_text number = codes "_:" ++ decimal number

-- a literal without a tag has its datatype after it, unless that is xsd:string
abbrev pub datatype_text : List ℕ → List ℕ
datatype_text datatype = if bytes_eq datatype (iri_of XsdString) then [] else codes "^^" ++ iri_text datatype

-- a literal with a tag has that alone
abbrev pub kind_text : List ℕ → List ℕ → List ℕ
kind_text datatype [] = datatype_text datatype
kind_text datatype lang = codes "@" ++ lang

-- a literal in quotes, and its tag or datatype
abbrev pub literal_text : List ℕ → List ℕ → List ℕ → List ℕ
literal_text text datatype lang = codes "\"" ++ (escaped text ++ (codes "\"" ++ kind_text datatype lang))

abbrev pub term_text : Term → List ℕ
term_text (Iri iri) = iri_text iri
term_text (Blank number) = blank_text number
term_text (Literal text datatype lang) = literal_text text datatype lang

-- the three terms of a triple, with a space between
abbrev pub triple_line : Triple → List ℕ
triple_line t = term_text t.s ++ (codes " " ++ (term_text t.p ++ (codes " " ++ (term_text t.o ++ codes "\n"))))

-- how many triples there are
abbrev pub count_line : ℕ → List ℕ
count_line count = codes "triples " ++ (decimal count ++ codes "\n")

-- a line for each triple, and their count
abbrev pub listing_of : List Triple → List ℕ
listing_of rows = flat_map triple_line rows ++ count_line (length rows)
