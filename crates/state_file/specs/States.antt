-- The states that the triples of a file say, over the vocabulary of LV2's state extension and this host's own.
use Rattle.std.specs.Prelude.{ℕ, Bool, ◌&&◌, List, [], map, filter, Option, None, Some, option_and_then}
use Rattle.triple_store.specs.Triples.{agrees}
use Rattle.triple_store.specs.declared.term.Term.{Term}
use Rattle.triple_store.specs.declared.term.Triple.{Triple}
use Rattle.vocabulary.specs.declared.word.Word.TheVariants.{RdfType, StateState, FxSaved, FxName, FxPlugin, FxType, FxFlags, FxBytes}
use Rattle.state_file.specs.declared.objects.Kind.TheVariants.{Whichever, OneIri, OneLiteral, OneNode}
use Rattle.state_file.specs.Objects.{names, text_in, iri_in, one_of}
use Rattle.state_file.specs.Values.{in_full, flags_of, bytes_of}

-- a triple says that its subject is of class fx:Saved
abbrev pub is_saved : Triple → Bool
is_saved row = names RdfType row.p && names FxSaved row.o

-- the states: the subjects of that class, in order
abbrev pub states_in : List Triple → List Term
states_in rows = map (λ (row : Triple). row.s) (filter is_saved rows)

-- the name of the instance: the one literal among the objects of fx:name
unfoldable pub name_in : List Triple → Term → Option (List ℕ)
name_in rows state = option_and_then text_in (one_of OneLiteral rows state FxName)

-- the URI of the plug-in: the one IRI among the objects of fx:plugin
unfoldable pub uri_in : List Triple → Term → Option (List ℕ)
uri_in rows state = option_and_then iri_in (one_of OneIri rows state FxPlugin)

-- the node of the properties: the one IRI or blank node among the objects of state:state
unfoldable pub node_in : List Triple → Term → Option Term
node_in rows state = one_of OneNode rows state StateState

-- every triple of a node, none of no node
abbrev pub about : List Triple → Option Term → List Triple
about rows None = []
about rows (Some node) = filter (agrees (Some node) None None) rows

-- the properties of a state: every triple of its node
unfoldable pub properties_in : List Triple → Term → List Triple
properties_in rows state = about rows (node_in rows state)

-- the key of a property: its predicate, where it is an IRI in full
unfoldable pub key_in : Triple → Option (List ℕ)
key_in property = option_and_then in_full (iri_in property.p)

-- its type: the one IRI among the objects of fx:type, where it is an IRI in full
unfoldable pub kind_in : List Triple → Triple → Option (List ℕ)
kind_in rows property = option_and_then in_full (option_and_then iri_in (one_of OneIri rows property.o FxType))

-- the one object of fx:flags, and that of fx:bytes
unfoldable pub flags_term : List Triple → Triple → Option Term
flags_term rows property = one_of Whichever rows property.o FxFlags

unfoldable pub bytes_term : List Triple → Triple → Option Term
bytes_term rows property = one_of Whichever rows property.o FxBytes

-- the flags: 3 or 7, as a literal of any datatype says them
unfoldable pub flags_in : List Triple → Triple → Option ℕ
flags_in rows property = option_and_then flags_of (option_and_then text_in (flags_term rows property))

-- the bytes, whose canonical base64 the literal is
unfoldable pub bytes_in : List Triple → Triple → Option (List ℕ)
bytes_in rows property = option_and_then bytes_of (option_and_then text_in (bytes_term rows property))
