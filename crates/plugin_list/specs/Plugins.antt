-- The plug-ins of a store.
use Rattle.std.specs.Prelude.{ℕ, List, filter, Option, None, Some}
use Rattle.std.specs.List.{filter_map}
use Rattle.triple_store.specs.declared.term.Term.TheVariants.{Iri}
use Rattle.triple_store.specs.declared.term.Triple.{Triple}
use Rattle.triple_store.specs.Triples.{agrees}
use Rattle.vocabulary.specs.declared.word.Word.TheVariants.{RdfType, Lv2Plugin}
use Rattle.vocabulary.specs.Words.{iri_of}
use Rattle.plugin_decl.specs.Values.{iri_in}

-- the rows that say that their subject is a plug-in
abbrev pub plugin_rows : List Triple → List Triple
plugin_rows rows = filter (agrees None (Some (Iri (iri_of RdfType))) (Some (Iri (iri_of Lv2Plugin)))) rows

-- the IRI of a row's subject. A blank node has none
abbrev pub subject_iri : Triple → Option (List ℕ)
subject_iri row = iri_in row.s

-- the IRIs of the plug-ins, in order of these rows
abbrev pub plugins_of : List Triple → List (List ℕ)
plugins_of rows = filter_map subject_iri (plugin_rows rows)
