-- The first rule that a declaration breaks, as text.
use Rattle.std.specs.Prelude.{ℕ, List, [], ◌++◌, codes, decimal}
use Rattle.triple_store.specs.declared.term.Term.{Term}
use Rattle.triple_store.specs.declared.term.Term.TheVariants.{Iri, Blank, Literal}
use Rattle.triple_list.specs.Listing.{blank_text, literal_text}
use Rattle.plugin_decl.specs.declared.declaration.DeclFault.{DeclFault}
use Rattle.plugin_decl.specs.declared.declaration.DeclFault.TheVariants.{NoPlugin, BadIndex, SameIndex, Gap, BadSymbol, SameSymbol, NoName, NoDirection, TwoDirections, PortClass, Feature, RequiredOption, BadValue, NoMemory}

-- a rule's word, and a port's place or index
abbrev pub with_number : List ℕ → ℕ → List ℕ
with_number word number = word ++ (codes " " ++ decimal number)

-- an IRI as it is, without brackets, and any other term as in a list of triples
abbrev pub named_term : Term → List ℕ
named_term (Iri iri) = iri
named_term (Blank number) = blank_text number
named_term (Literal text datatype lang) = literal_text text datatype lang

-- a rule's word, and the term that is asked for
abbrev pub with_term : List ℕ → Term → List ℕ
with_term word term = word ++ (codes " " ++ named_term term)

-- want of memory is no rule
abbrev pub rule_text : DeclFault → List ℕ
rule_text NoPlugin = codes "no-plugin"
rule_text (BadIndex place) = with_number (codes "bad-index") place
rule_text (SameIndex i) = with_number (codes "same-index") i
rule_text (Gap i) = with_number (codes "gap") i
rule_text (BadSymbol i) = with_number (codes "bad-symbol") i
rule_text (SameSymbol i) = with_number (codes "same-symbol") i
rule_text (NoName i) = with_number (codes "no-name") i
rule_text (NoDirection i) = with_number (codes "no-direction") i
rule_text (TwoDirections i) = with_number (codes "two-directions") i
rule_text (PortClass i) = with_number (codes "port-class") i
rule_text (Feature term) = with_term (codes "feature") term
rule_text (RequiredOption term) = with_term (codes "option") term
rule_text (BadValue i) = with_number (codes "bad-value") i
rule_text NoMemory = []
