-- Documents as trees, and their triples.
use Rattle.std.proofs.Common.{◌≡◌, ℕ, Bool, true, List, [], ◌∷◌, ◌++◌, length, take, drop, Result, Ok, Err, codes, refl}
use Rattle.std.specs.Prelude.{◌&&◌}
use Rattle.std.specs.Str.{bytes_eq, chars}
use Rattle.triple_store.specs.declared.term.Term.{Term}
use Rattle.triple_store.specs.declared.term.Term.TheVariants as terms
use Rattle.triple_store.specs.declared.term.Triple.{Triple}
use Rattle.turtle_grammar.specs.Characters.{is_excluded, is_hex, is_digit}
use Rattle.turtle_grammar.specs.Tree.{Lexeme, Leaf, Name, Verb, Object, Subject, Document, document_tokens}
use Rattle.turtle_grammar.specs.Tree.Name.{full, prefixed}
use Rattle.turtle_grammar.specs.Tree.Quoting.{double}
use Rattle.turtle_grammar.specs.Tree.Shorthand.{integer, decimal}
use Rattle.turtle_grammar.specs.Tree.Suffix.{language}
use Rattle.turtle_grammar.specs.Tree.Verb.{predicate}
use Rattle.turtle_grammar.specs.Tree.Object.{quoted, short, properties}
use Rattle.turtle_grammar.specs.Tree.Items.{none, item}
use Rattle.turtle_grammar.specs.Tree.Predicates.{predicates}
use Rattle.turtle_grammar.specs.Tree.Objects.{one, several}
use Rattle.turtle_grammar.specs.Tree.More.{done, empty}
use Rattle.turtle_grammar.specs.Tree.Triples.{about, with_more}
use Rattle.turtle_grammar.specs.Tree.Statement.{at_prefix, at_base, triples}
use Rattle.turtle_document.specs.Meaning.{Fault, ◌>>=◌, document_of, beginning}
use Rattle.turtle_document.specs.Meaning.Fault.{no_prefix}
use Rattle.turtle_document.specs.Vocabulary.{rdf_first, rdf_rest, rdf_nil, rdf_lang_string}
use Rattle.vocabulary.specs.Words.{iri_of}
use Rattle.vocabulary.specs.declared.word.Word.TheVariants.{XsdInteger, XsdDecimal}
use lib.Utf8.{encode}

abbrev leaf : ℕ → List ℕ → Leaf
leaf at text = record { at = at; text = text }

abbrev row : Term → Term → Term → Triple
row s p o = record { s = s; p = p; o = o }

abbrev named : List ℕ → Term
named text = terms.Iri text

-- the rows that a document leaves in an empty graph
abbrev rows_of : Document → Result (List Triple) Fault
rows_of d = document_of d (beginning (codes "http://e.x/d/f") []) >>= (λ st. Ok st.rows)

-- `@base <http://e.x/d/> .`, `@prefix p: <q#> .`, `<a\u0041> p:b%20c\,d "x"@en ;; .`, `[] p:l ( 1 2.5 ) .`, a line each
abbrev four_lines : Document
four_lines =
    at_base 0 (leaf 6 (codes "<http://e.x/d/>")) (leaf 22 (codes "."))
    ∷ at_prefix 24 (leaf 32 (codes "p:")) (leaf 35 (codes "<q#>")) (leaf 40 (codes "."))
    ∷ triples (about (Subject.named (full (leaf 42 (codes "<a\\u0041>"))))
    (predicates (predicate (prefixed (leaf 52 (codes "p:b%20c\\,d"))))
    (one (quoted double (leaf 63 (codes "\"x\"")) (language (leaf 66 (codes "@en")))))
    (empty (leaf 70 (codes ";")) (empty (leaf 71 (codes ";")) done)))) (leaf 73 (codes "."))
    ∷ triples (about (Subject.anonymous (leaf 75 (codes "[")) (leaf 76 (codes "]")))
    (predicates (predicate (prefixed (leaf 78 (codes "p:l"))))
    (one (Object.collection (leaf 82 (codes "(")) (item (short integer (leaf 84 (codes "1"))) (item (short decimal (leaf 86 (codes "2.5"))) none)) (leaf 90 (codes ")"))))
    done)) (leaf 92 (codes "."))
    ∷ []

-- An IRI is seen from the base, an escape is its character, and a collection's own triples come before the one whose object it is.
six_triples : rows_of four_lines ≡ Ok (
    row (named (codes "http://e.x/d/aA")) (named (codes "http://e.x/d/q#b%20c,d")) (terms.Literal (codes "x") rdf_lang_string (codes "en"))
    ∷ row (terms.Blank 1) (named rdf_first) (terms.Literal (codes "1") (iri_of XsdInteger) [])
    ∷ row (terms.Blank 1) (named rdf_rest) (terms.Blank 2)
    ∷ row (terms.Blank 2) (named rdf_first) (terms.Literal (codes "2.5") (iri_of XsdDecimal) [])
    ∷ row (terms.Blank 2) (named rdf_rest) (named rdf_nil)
    ∷ row (terms.Blank 0) (named (codes "http://e.x/d/q#l")) (terms.Blank 1)
    ∷ [])
unfolding iri_of is_excluded is_hex is_digit chars encode
six_triples = refl

-- whether each token stands in a text at its place
abbrev stand : List ℕ → List Lexeme → Bool
stand bytes [] = true
stand bytes (t ∷ ts) = bytes_eq (take (length t.text) (drop t.at bytes)) t.text && stand bytes ts

four_lines_stand : stand (codes "@base <http://e.x/d/> .\n@prefix p: <q#> .\n<a\\u0041> p:b%20c\\,d \"x\"@en ;; .\n[] p:l ( 1 2.5 ) .\n") (document_tokens four_lines) ≡ true
unfolding chars encode
four_lines_stand = refl

abbrev iri : ℕ → List ℕ → Name
iri at text = full (leaf at text)

abbrev verb : ℕ → List ℕ → Verb
verb at text = predicate (iri at text)

abbrev number : ℕ → List ℕ → Object
number at text = short integer (leaf at text)

abbrev an_integer : List ℕ → Term
an_integer text = terms.Literal text (iri_of XsdInteger) []

-- `_:a <urn:p> _:b , _:a .`: a label is one node wherever it stands
labels : rows_of (
    triples (about (Subject.label (leaf 0 (codes "_:a")))
    (predicates (verb 4 (codes "<urn:p>")) (several (Object.label (leaf 12 (codes "_:b"))) (leaf 16 (codes ",")) (one (Object.label (leaf 18 (codes "_:a"))))) done)) (leaf 22 (codes "."))
    ∷ [])
    ≡ Ok (row (terms.Blank 0) (named (codes "urn:p")) (terms.Blank 1) ∷ row (terms.Blank 0) (named (codes "urn:p")) (terms.Blank 0) ∷ [])
unfolding iri_of is_excluded is_hex is_digit chars encode
labels = refl

-- `<urn:s> <urn:p> 1 , q:o .`: a prefix that no directive names
prefix_missing : rows_of (
    triples (about (Subject.named (iri 0 (codes "<urn:s>")))
    (predicates (verb 8 (codes "<urn:p>")) (several (number 16 (codes "1")) (leaf 18 (codes ",")) (one (Object.named (prefixed (leaf 20 (codes "q:o")))))) done)) (leaf 24 (codes "."))
    ∷ [])
    ≡ Err (no_prefix 20)
unfolding iri_of is_excluded is_hex is_digit chars encode
prefix_missing = refl

-- `[ <urn:p> 1 ] <urn:q> 2 .`: a subject in brackets, with properties there and after them
listed_subject : rows_of (
    triples (with_more (leaf 0 (codes "[")) (predicates (verb 2 (codes "<urn:p>")) (one (number 10 (codes "1"))) done) (leaf 12 (codes "]"))
    (predicates (verb 14 (codes "<urn:q>")) (one (number 22 (codes "2"))) done)) (leaf 24 (codes "."))
    ∷ [])
    ≡ Ok (row (terms.Blank 0) (named (codes "urn:p")) (an_integer (codes "1")) ∷ row (terms.Blank 0) (named (codes "urn:q")) (an_integer (codes "2")) ∷ [])
unfolding iri_of is_excluded is_hex is_digit chars encode
listed_subject = refl

-- `<urn:s> <urn:p> [ <urn:q> [ <urn:r> 1 ] ] , 2 .`: inner triples come first
nested_brackets : rows_of (
    triples (about (Subject.named (iri 0 (codes "<urn:s>")))
    (predicates (verb 8 (codes "<urn:p>"))
    (several
    (properties (leaf 16 (codes "["))
    (predicates (verb 18 (codes "<urn:q>"))
    (one (properties (leaf 26 (codes "[")) (predicates (verb 28 (codes "<urn:r>")) (one (number 36 (codes "1"))) done) (leaf 38 (codes "]")))) done)
    (leaf 40 (codes "]")))
    (leaf 42 (codes ","))
    (one (number 44 (codes "2"))))
    done)) (leaf 46 (codes "."))
    ∷ [])
    ≡ Ok (
    row (terms.Blank 1) (named (codes "urn:r")) (an_integer (codes "1"))
    ∷ row (terms.Blank 0) (named (codes "urn:q")) (terms.Blank 1)
    ∷ row (named (codes "urn:s")) (named (codes "urn:p")) (terms.Blank 0)
    ∷ row (named (codes "urn:s")) (named (codes "urn:p")) (an_integer (codes "2"))
    ∷ [])
unfolding iri_of is_excluded is_hex is_digit chars encode
nested_brackets = refl
