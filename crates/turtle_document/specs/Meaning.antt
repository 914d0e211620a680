-- The triples of a parse tree: W3C Turtle 1.1, section 7, or the first fault in the order of places. Blank nodes are numbered in the
-- order in which they appear, and a triple is added once its object has been read, so that inner triples come first.
use Rattle.std.specs.Prelude.{ℕ, suc, nat_lt, nat_le, Bool, List, [], ◌∷◌, ◌++◌, length, Option, None, Some, Result, Ok, Err, if◌then◌else◌}
use Rattle.std.specs.List.{list_any}
use Rattle.std.specs.Str.{bytes_eq}
use Rattle.iri_resolve.specs.Excluded.{is_excluded}
use Rattle.iri_resolve.specs.Target.{resolved}
use Rattle.triple_store.specs.Triples.{agrees, blanks_of}
use Rattle.triple_store.specs.declared.fault.TheConstants.{MOST_ROWS}
use Rattle.triple_store.specs.declared.term.Term.{Term}
use Rattle.triple_store.specs.declared.term.Term.TheVariants.{Iri, Blank, Literal}
use Rattle.triple_store.specs.declared.term.Triple.{Triple}
use Rattle.turtle_grammar.specs.Tree.{Leaf, Name, Suffix, Verb, Object, Items, Predicates, Objects, More, Triples, Statement, Document, as_object}
use Rattle.turtle_grammar.specs.Tree.Name.{full, prefixed, bare}
use Rattle.turtle_grammar.specs.Tree.Suffix.{nothing, language, datatype}
use Rattle.turtle_grammar.specs.Tree.Verb.{predicate, is_a}
use Rattle.turtle_grammar.specs.Tree.Object.{named, label, anonymous, quoted, short, collection, properties}
use Rattle.turtle_grammar.specs.Tree.Items.{none, item}
use Rattle.turtle_grammar.specs.Tree.Predicates.{predicates}
use Rattle.turtle_grammar.specs.Tree.Objects.{one, several}
use Rattle.turtle_grammar.specs.Tree.More.{done, empty, next}
use Rattle.turtle_grammar.specs.Tree.Triples.{about, alone, with_more}
use Rattle.turtle_grammar.specs.Tree.Statement.{at_prefix, at_base, sparql_prefix, sparql_base, triples}
use Rattle.turtle_grammar.specs.Value.{reference_of, string_of, prefix_of, local_of, tag_of}
use Rattle.turtle_document.specs.Vocabulary.{rdf_type, rdf_first, rdf_rest, rdf_nil, rdf_lang_string, xsd_string, datatype_of}

-- why a tree has no triples, and the token
pub data Fault : Type 0 where
  no_prefix : ℕ → Fault
  bad_iri : ℕ → Fault
  too_deep : ℕ → Fault
  full_store : ℕ → Fault

-- The environment: the base IRI, the namespace of each prefix and the number of each label that stand for one, the next number of a
-- blank node, and the graph's rows.
pub record State : Type 0 where
  pub base : List ℕ
  pub prefixes : List ℕ → Option (List ℕ)
  pub labels : List ℕ → Option ℕ
  pub blanks : ℕ
  pub rows : List Triple

-- a term, and the environment after it
pub record Read : Type 0 where
  pub term : Term
  pub state : State

infixl 10 ◌>>=◌
abbrev pub ◌>>=◌ : {A B : Type 0} → Result A Fault → (A → Result B Fault) → Result B Fault
Ok x >>= f = f x
Err fault >>= f = Err fault

abbrev pub read : Term → State → Read
read term st = record { term = term; state = st }

-- the most brackets that may be open at a place
abbrev pub most_open : ℕ
most_open = 256

-- one name has this value, and each other the value that it had
abbrev pub bound : {A : Type 0} → List ℕ → A → (List ℕ → Option A) → List ℕ → Option A
bound name value old other = if bytes_eq name other then Some value else old other

-- the next blank node, and the environment in which it has been numbered
abbrev pub numbered : State → State
numbered st = record st { blanks = suc st.blanks }

abbrev pub fresh : State → Read
fresh st = read (Blank st.blanks) (numbered st)

-- the blank node of a label, numbered at its first use: section 2.6
abbrev pub labelled_as : Option ℕ → List ℕ → State → Read
labelled_as (Some number) name st = read (Blank number) st
labelled_as None name st = read (Blank st.blanks) (record st { labels = bound name st.blanks st.labels; blanks = suc st.blanks })

abbrev pub labelled : List ℕ → State → Read
labelled name st = labelled_as (st.labels name) name st

-- a bracket that opens at a place where so many are open
abbrev pub may_open : ℕ → ℕ → State → Result State Fault
may_open at open_brackets st = if nat_lt open_brackets most_open then Ok st else Err (too_deep at)

abbrev pub is_row : Term → Term → Term → List Triple → Bool
is_row s p o rows = list_any (agrees (Some s) (Some p) (Some o)) rows

-- a triple is in the graph once, in the order of first additions; it is added at a token
abbrev pub add : ℕ → Term → Term → Term → State → Result State Fault
add at s p o st =
    if is_row s p o st.rows then Ok st else
    if nat_le MOST_ROWS (length st.rows) then Err (full_store at) else
    Ok (record st { rows = st.rows ++ record { s = s; p = p; o = o } ∷ [] })

-- a prefixed name is its namespace and its local name: section 2.4
abbrev pub expanded : Option (List ℕ) → Leaf → Result (List ℕ) Fault
expanded None leaf = Err (no_prefix leaf.at)
expanded (Some namespace) leaf = Ok (namespace ++ local_of leaf.text)

-- an IRI reference is seen from the base: section 6.3
abbrev pub absolute : List ℕ → Leaf → Result (List ℕ) Fault
absolute base leaf =
    if list_any is_excluded (reference_of leaf.text) then Err (bad_iri leaf.at) else Ok (resolved base (reference_of leaf.text))

abbrev pub name_of : Name → State → Result (List ℕ) Fault
name_of (full leaf) st = absolute st.base leaf
name_of (prefixed leaf) st = expanded (st.prefixes (prefix_of leaf.text)) leaf
name_of (bare leaf) st = expanded (st.prefixes (prefix_of leaf.text)) leaf

-- RDFLiteral [128s] of a string
abbrev pub literal_of : List ℕ → Suffix → State → Result Term Fault
literal_of text nothing st = Ok (Literal text xsd_string [])
literal_of text (language tag) st = Ok (Literal text rdf_lang_string (tag_of tag.text))
literal_of text (datatype carets name) st = name_of name st >>= (λ iri. Ok (Literal text iri []))

abbrev pub verb_of : Verb → State → Result Term Fault
verb_of (predicate name) st = name_of name st >>= (λ iri. Ok (Iri iri))
verb_of (is_a leaf) st = Ok (Iri rdf_type)

abbrev pub name_at : Name → ℕ
name_at (full leaf) = leaf.at
name_at (prefixed leaf) = leaf.at
name_at (bare leaf) = leaf.at

-- the last token of an object of one string
abbrev pub suffix_at : Leaf → Suffix → ℕ
suffix_at string nothing = string.at
suffix_at string (language tag) = tag.at
suffix_at string (datatype carets name) = name_at name

-- the places of an object's first token and of its last one
abbrev pub object_start : Object → ℕ
object_start (named name) = name_at name
object_start (label leaf) = leaf.at
object_start (anonymous start end) = start.at
object_start (quoted quoting leaf suffix) = leaf.at
object_start (short shorthand leaf) = leaf.at
object_start (collection start items end) = start.at
object_start (properties start list end) = start.at

abbrev pub object_end : Object → ℕ
object_end (named name) = name_at name
object_end (label leaf) = leaf.at
object_end (anonymous start end) = end.at
object_end (quoted quoting leaf suffix) = suffix_at leaf suffix
object_end (short shorthand leaf) = leaf.at
object_end (collection start items end) = end.at
object_end (properties start list end) = end.at

-- the fault of an object's first token, if it has one
abbrev pub started : Object → ℕ → State → Result State Fault
started (named name) n st = name_of name st >>= (λ iri. Ok st)
started (label leaf) n st = Ok st
started (anonymous start end) n st = may_open start.at n st
started (quoted quoting leaf suffix) n st = Ok st
started (short shorthand leaf) n st = Ok st
started (collection start items end) n st = may_open start.at n st
started (properties start list end) n st = may_open start.at n st

-- the node before, if there is one, has this one as its rest
abbrev pub linked : Option ℕ → ℕ → ℕ → State → Result State Fault
linked None at node st = Ok st
linked (Some last) at node st = add at (Blank last) (Iri rdf_rest) (Blank node) st

-- the last node, if there is one, has nothing as its rest
abbrev pub ended : Option ℕ → ℕ → State → Result State Fault
ended None at st = Ok st
ended (Some last) at st = add at (Blank last) (Iri rdf_rest) (Iri rdf_nil) st

-- Each of the following reads a part of a tree where `n` brackets are open.
abbrev mutual
  -- sections 2.7 and 2.8: a bracket's node is numbered before what stands in it
  pub object_of : Object → ℕ → State → Result Read Fault
  object_of (named name) n st = name_of name st >>= (λ iri. Ok (read (Iri iri) st))
  object_of (label leaf) n st = Ok (labelled leaf.text st)
  object_of (anonymous start end) n st = may_open start.at n st >>= (λ here. Ok (fresh here))
  object_of (quoted quoting leaf suffix) n st = literal_of (string_of quoting leaf.text) suffix st >>= (λ term. Ok (read term st))
  object_of (short shorthand leaf) n st = Ok (read (Literal leaf.text (datatype_of shorthand) []) st)
  object_of (collection start items end) n st = may_open start.at n st >>= items_of items (suc n) None end.at
  object_of (properties start list end) n st =
      may_open start.at n st >>= (λ here. predicates_of list (suc n) (fresh here).term (fresh here).state >>= (λ after. Ok (read (fresh here).term after)))

  -- The rest of a collection after the node before: each item has a node, numbered before it, with the item as its first.
  pub items_of : Items → ℕ → Option ℕ → ℕ → State → Result Read Fault
  items_of none n before close st = ended before close st >>= (λ after. Ok (read (Iri rdf_nil) after))
  items_of (item object items) n before close st =
      started object n st >>= (λ here.
      linked before (object_start object) here.blanks (numbered here) >>= (λ inside.
      object_of object n inside >>= (λ value.
      add (object_end object) (Blank here.blanks) (Iri rdf_first) value.term value.state >>= (λ after.
      items_of items n (Some here.blanks) close after >>= (λ rest. Ok (read (Blank here.blanks) rest.state))))))

  pub predicates_of : Predicates → ℕ → Term → State → Result State Fault
  predicates_of (predicates verb objects more) n s st =
      verb_of verb st >>= (λ p. objects_of objects n s p st >>= more_of more n s)

  pub objects_of : Objects → ℕ → Term → Term → State → Result State Fault
  objects_of (one object) n s p st = object_of object n st >>= (λ value. add (object_end object) s p value.term value.state)
  objects_of (several object comma objects) n s p st =
      object_of object n st >>= (λ value. add (object_end object) s p value.term value.state) >>= objects_of objects n s p

  pub more_of : More → ℕ → Term → State → Result State Fault
  more_of done n s st = Ok st
  more_of (empty semicolon more) n s st = more_of more n s st
  more_of (next semicolon list) n s st = predicates_of list n s st

abbrev pub triples_of : Triples → State → Result State Fault
triples_of (about subject list) st = object_of (as_object subject) 0 st >>= (λ s. predicates_of list 0 s.term s.state)
triples_of (alone start inner end) st = object_of (properties start inner end) 0 st >>= (λ s. Ok s.state)
triples_of (with_more start inner end list) st = object_of (properties start inner end) 0 st >>= (λ s. predicates_of list 0 s.term s.state)

-- a prefix stands for an IRI from here on, or the base is another: sections 2.4 and 6.3
abbrev pub prefixed_by : Leaf → Leaf → State → Result State Fault
prefixed_by namespace iri st =
    absolute st.base iri >>= (λ value. Ok (record st { prefixes = bound (prefix_of namespace.text) value st.prefixes }))

abbrev pub based_on : Leaf → State → Result State Fault
based_on iri st = absolute st.base iri >>= (λ value. Ok (record st { base = value }))

abbrev pub statement_of : Statement → State → Result State Fault
statement_of (at_prefix at namespace iri dot) st = prefixed_by namespace iri st
statement_of (at_base at iri dot) st = based_on iri st
statement_of (sparql_prefix word namespace iri) st = prefixed_by namespace iri st
statement_of (sparql_base word iri) st = based_on iri st
statement_of (triples list dot) st = triples_of list st

abbrev pub document_of : Document → State → Result State Fault
document_of [] st = Ok st
document_of (statement ∷ statements) st = statement_of statement st >>= document_of statements

-- the environment of a document's beginning: no prefix and no label, and blank nodes numbered on from those of the graph
abbrev pub beginning : List ℕ → List Triple → State
beginning base rows = record { base = base; prefixes = λ name. None; labels = λ name. None; blanks = blanks_of rows; rows = rows }
