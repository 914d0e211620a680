-- Which texts are IRIs in full.
use Rattle.std.specs.Prelude.{ℕ, Bool, ◌&&◌, not, List, is_some}
use Rattle.std.specs.List.{list_all}
use Rattle.iri_resolve.specs.Components.{scheme_of}
use Rattle.iri_resolve.specs.Excluded.{is_excluded}

-- a text with a scheme (RFC 3986, appendix B) and no character that an IRI may not hold (Turtle 1.1, IRIREF)
abbrev pub is_iri_text : List ℕ → Bool
is_iri_text text = is_some (scheme_of text) && list_all (λ c. not (is_excluded c)) text
