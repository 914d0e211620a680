-- Worked examples of the definitions.
use Rattle.std.proofs.Common.{◌≡◌, [], ◌∷◌, ◌++◌, refl, codes}
use Rattle.triple_store.specs.declared.term.Term.TheVariants.{Iri, Literal}
use Rattle.vocabulary.specs.Words.{iri_of}
use Rattle.triple_list.specs.Listing.{term_text, count_line, listing_of}

an_iri : term_text (Iri (codes "http://e.x/d/aA")) ≡ codes "<http://e.x/d/aA>"
an_iri = refl

a_string : term_text (Literal (codes "say \"\\\" now\n\r\t") (codes "http://www.w3.org/2001/XMLSchema#string") []) ≡ codes "\"say \\\"\\\\\\\" now\\n\\r\\t\""
unfolding iri_of
a_string = refl

a_decimal : term_text (Literal (codes "2.5") (codes "http://www.w3.org/2001/XMLSchema#decimal") []) ≡ codes "\"2.5\"^^<http://www.w3.org/2001/XMLSchema#decimal>"
unfolding iri_of
a_decimal = refl

a_tag : term_text (Literal (codes "x") (codes "http://www.w3.org/1999/02/22-rdf-syntax-ns#langString") (codes "en")) ≡ codes "\"x\"@en"
a_tag = refl

a_listing : listing_of (record { s = Iri (codes "urn:a"); p = Iri (codes "urn:p"); o = Iri (codes "urn:b") } ∷ [])
    ≡ codes "<urn:a> <urn:p> <urn:b>\n" ++ count_line 1
a_listing = refl
