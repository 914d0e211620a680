-- The words that a state file is written in.
use Rattle.std.proofs.Common.{ℕ, ◌+◌, List, [], ◌∷◌, ◌++◌, codes}
use Rattle.std.specs.Prelude.{decimal, fold, insert}
use Rattle.std.specs.List.{position_or_len}
use Rattle.base64.specs.Engines.{standard}
use Rattle.base64.specs.GeneralPurpose.{encode_of}
use Rattle.state_file.specs.Order.{uri_text, comes_before}
use Rattle.state_file.specs.declared.saved.Saved.{Saved}
use Rattle.state_store.specs.declared.prop.Prop.{Prop}
use Rattle.turtle_grammar.specs.declared.token.TokenKind.{TokenKind}
use Rattle.turtle_grammar.specs.declared.token.TokenKind.TheVariants.{Iri, Namespace, PrefixedName, LanguageTag, Integer, String, Dot, Semicolon, OpenSquare, CloseSquare, A}
use Rattle.turtle_words.specs.Words.{Word}

abbrev pub word : List ℕ → TokenKind → List ℕ → Word
word space kind text = record { space = space; kind = kind; text = text }

-- between angle brackets, and between quotes
abbrev pub angle : List ℕ → List ℕ
angle text = 60 ∷ (text ++ 62 ∷ [])

abbrev pub quote : List ℕ → List ℕ
quote text = 34 ∷ (text ++ 34 ∷ [])

abbrev pub row_uri : List (List ℕ) → ℕ × Prop → List ℕ
row_uri urids row = uri_text urids row.0

abbrev pub kind_uri : List (List ℕ) → ℕ × Prop → List ℕ
kind_uri urids row = uri_text urids row.1.kind

abbrev pub semicolon : Word
semicolon = word (codes " ") Semicolon (codes ";")

-- a property
abbrev pub property_words : List (List ℕ) → ℕ × Prop → List Word
property_words urids row =
    word (codes "\n\t\t") Iri (angle (row_uri urids row)) ∷ word (codes " ") OpenSquare (codes "[")
    ∷ word (codes " ") PrefixedName (codes "fx:type") ∷ word (codes " ") Iri (angle (kind_uri urids row)) ∷ semicolon
    ∷ word (codes " ") PrefixedName (codes "fx:flags") ∷ word (codes " ") Integer (decimal row.1.flags) ∷ semicolon
    ∷ word (codes " ") PrefixedName (codes "fx:bytes") ∷ word (codes " ") String (quote (encode_of standard row.1.bytes)) ∷ word (codes " ") CloseSquare (codes "]") ∷ []

-- properties that follow another, and all
abbrev pub more_words : List (List ℕ) → List (ℕ × Prop) → List Word
more_words urids [] = []
more_words urids (row ∷ rows) = (semicolon ∷ property_words urids row) ++ more_words urids rows

abbrev pub properties_words : List (List ℕ) → List (ℕ × Prop) → List Word
properties_words urids [] = []
properties_words urids (row ∷ rows) = property_words urids row ++ more_words urids rows

-- a state up to its properties, and what stands after them
abbrev pub subject_text : ℕ → List ℕ
subject_text number = codes "#save" ++ decimal number

abbrev pub subject_words : ℕ → Saved → List Word
subject_words number saved =
    word (codes "\n\n") Iri (angle (subject_text number)) ∷ word (codes " ") A (codes "a") ∷ word (codes " ") PrefixedName (codes "fx:Saved") ∷ semicolon
    ∷ word (codes "\n\t") PrefixedName (codes "fx:name") ∷ word (codes " ") String (quote saved.name) ∷ semicolon
    ∷ word (codes "\n\t") PrefixedName (codes "fx:plugin") ∷ word (codes " ") Iri (angle saved.uri) ∷ semicolon
    ∷ word (codes "\n\t") PrefixedName (codes "state:state") ∷ []

abbrev pub opening : Word
opening = word (codes " ") OpenSquare (codes "[")

abbrev pub closing : Word
closing = word (codes "\n\t") CloseSquare (codes "]")

abbrev pub full_stop : Word
full_stop = word (codes " ") Dot (codes ".")

abbrev pub head_words : ℕ → Saved → List Word
head_words number saved = subject_words number saved ++ opening ∷ []

abbrev pub foot_words : List Word
foot_words = closing ∷ full_stop ∷ []

-- the properties of a state in the order of a file
abbrev pub placed_row : List (List ℕ) → List (ℕ × Prop) → ℕ × Prop → List (ℕ × Prop)
placed_row urids rows row = insert rows (position_or_len (λ (other : ℕ × Prop). comes_before urids row.0 other.0) rows) row

abbrev pub in_file : List (List ℕ) → List (ℕ × Prop) → List (ℕ × Prop)
in_file urids rows = fold (placed_row urids) [] rows

abbrev pub saved_words : List (List ℕ) → ℕ → Saved → List Word
saved_words urids number saved = head_words number saved ++ (properties_words urids (in_file urids saved.props) ++ foot_words)

abbrev pub states_words : List (List ℕ) → ℕ → List Saved → List Word
states_words urids number [] = []
states_words urids number (saved ∷ saves) = saved_words urids number saved ++ states_words urids (number + 1) saves

-- the two prefixes
abbrev pub state_namespace : List ℕ
state_namespace = codes "http://lv2plug.in/ns/ext/state#"

abbrev pub fx_namespace : List ℕ
fx_namespace = codes "urn:lv2fx:"

abbrev pub first_words : List Word
first_words =
    word [] LanguageTag (codes "@prefix") ∷ word (codes " ") Namespace (codes "state:") ∷ word (codes " ") Iri (angle state_namespace) ∷ word (codes " ") Dot (codes ".")
    ∷ word (codes "\n") LanguageTag (codes "@prefix") ∷ word (codes " ") Namespace (codes "fx:") ∷ word (codes " ") Iri (angle fx_namespace) ∷ word (codes " ") Dot (codes ".") ∷ []

abbrev pub file_words : List (List ℕ) → List Saved → List Word
file_words urids saves = first_words ++ states_words urids 0 saves
