-- The IRIs of short forms.
use Rattle.std.specs.Prelude.{◌≡◌, ℕ, List, []}
use Rattle.turtle_document.specs.Vocabulary.{rdf_type, rdf_first, rdf_rest, rdf_nil, rdf_lang_string, xsd_string, datatype_of}
use Rattle.turtle_grammar.specs.Tree.Shorthand.{integer as integers, decimal as decimals, double_number, true_word}

pub record AreShortForms (kind first rest nil tagged string integer decimal double boolean no_tag : List ℕ) : Type 0 where
  pub is_kind : kind ≡ rdf_type
  pub is_first : first ≡ rdf_first
  pub is_rest : rest ≡ rdf_rest
  pub is_nil : nil ≡ rdf_nil
  pub is_tagged : tagged ≡ rdf_lang_string
  pub is_string : string ≡ xsd_string
  pub is_integer : integer ≡ datatype_of integers
  pub is_decimal : decimal ≡ datatype_of decimals
  pub is_double : double ≡ datatype_of double_number
  pub is_boolean : boolean ≡ datatype_of true_word
  pub is_no_tag : no_tag ≡ []
