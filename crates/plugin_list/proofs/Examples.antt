-- Worked examples of the definitions.
use Rattle.std.proofs.Common.{◌≡◌, false, pos, [], ◌∷◌, ◌++◌, None, refl, codes, decimal}
use Rattle.triple_store.specs.declared.term.Term.TheVariants.{Iri, Blank}
use Rattle.plugin_decl.specs.declared.declaration.PortKind.TheVariants.{Audio}
use Rattle.plugin_decl.specs.declared.declaration.DeclFault.TheVariants.{BadIndex, Feature, RequiredOption}
use Rattle.vocabulary.specs.Words.{iri_of}
use Rattle.plugin_list.specs.Listing.{port_line}
use Rattle.plugin_list.specs.Rules.{rule_text}
use Rattle.plugin_list.specs.Plugins.{plugins_of}

a_port : port_line (record { index = 1; symbol = codes "out"; name = codes "Out"; input = false; kind = Audio; optional = false; first = record { 0 = pos 0 }; least = None; most = None; room = 0; control = false; patch = false })
    ≡ codes "port " ++ (decimal 1 ++ codes " out output audio\n")
a_port = refl

an_index : rule_text (BadIndex 2) ≡ codes "bad-index " ++ decimal 2
an_index = refl

a_feature : rule_text (Feature (Iri (codes "urn:no"))) ≡ codes "feature urn:no"
a_feature = refl

a_blank_option : rule_text (RequiredOption (Blank 3)) ≡ codes "option _:" ++ decimal 3
a_blank_option = refl

-- a blank node that is a plug-in isn't listed
two_plugins : plugins_of (
    record { s = Iri (codes "urn:b"); p = Iri (codes "http://www.w3.org/1999/02/22-rdf-syntax-ns#type"); o = Iri (codes "http://lv2plug.in/ns/lv2core#Plugin") }
    ∷ record { s = Blank 0; p = Iri (codes "http://www.w3.org/1999/02/22-rdf-syntax-ns#type"); o = Iri (codes "http://lv2plug.in/ns/lv2core#Plugin") }
    ∷ record { s = Iri (codes "urn:a"); p = Iri (codes "http://www.w3.org/1999/02/22-rdf-syntax-ns#type"); o = Iri (codes "http://lv2plug.in/ns/lv2core#Plugin") }
    ∷ [])
    ≡ codes "urn:b" ∷ codes "urn:a" ∷ []
unfolding iri_of
two_plugins = refl
