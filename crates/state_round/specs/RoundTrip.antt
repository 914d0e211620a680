-- Reading back what was written: the text of a state file means triples that say the same names, URIs and properties.
use Rattle.std.specs.Prelude.{◌≡◌, ℕ, ◌+◌, ◌*◌, ◌≤◌, ◌==◌, ◌||◌, Bool, true, false, List, [], ◌∷◌, length, IsUtf8, None, Some, IsTrue}
use Rattle.std.specs.List.{list_all, list_any, AllByRecursion}
use Rattle.base64.specs.GeneralPurpose.{IsBytes}
use Rattle.iri_resolve.specs.Components.{components}
use Rattle.iri_resolve.specs.Dots.{without_dots}
use Rattle.iri_resolve.specs.Iri.{is_iri_text}
use Rattle.state_file.specs.Reading.{saves_of}
use Rattle.state_file.specs.Rules.{first_broken, uris_in}
use Rattle.state_file.specs.StateText.{state_text}
use Rattle.state_file.specs.declared.saved.Saved.{Saved}
use Rattle.state_store.specs.Properties.{AreStorable}
use Rattle.state_store.specs.declared.prop.Prop.{Prop}
use Rattle.triple_store.specs.declared.fault.TheConstants.{MOST_ROWS}
use Rattle.triple_store.specs.declared.term.Triple.{Triple}
use Rattle.turtle_document.specs.Answer.{Outcome, IsReadAs}
use Rattle.turtle_document.specs.Answer.Outcome.{document, not_utf8, unclosed, bad_byte, syntax, fault}
use Rattle.turtle_document.specs.Meaning.{beginning}
use Rattle.turtle_grammar.specs.Characters.{is_letter_or_digit}
use Rattle.turtle_words.specs.Words.{ends_string}
use Rattle.urid_map.specs.Numbers.{uri_of, with_uris, AreNumbered}

-- a text that stands between quotes as it is: without a quote, a backslash and a line's end
pub record IsPlain (text : List ℕ) : Type 0 where
  pub utf8 : IsUtf8 text
  pub plain : list_any ends_string text ≡ false

-- an IRI that stands for itself, whatever the base: in full, with a path that stays as it is without dot segments (RFC 3986, section 5.2.4)
pub record IsSelf (iri : List ℕ) : Type 0 where
  pub utf8 : IsUtf8 iri
  pub full : IsTrue (is_iri_text iri)
  pub undotted : without_dots (components iri).path ≡ (components iri).path

-- the number of such an IRI
abbrev pub IsNumber : List (List ℕ) → ℕ → Type 0
IsNumber urids number = (uri : List ℕ) × (uri_of urids number ≡ Some uri) × IsSelf uri

-- a property by the numbers of its key and of its type, and its bytes
pub record IsWritable (urids : List (List ℕ)) (row : ℕ × Prop) : Type 0 where
  pub key : IsNumber urids row.0
  pub kind : IsNumber urids row.1.kind
  pub bytes : IsBytes row.1.bytes

-- a state that can be written; its properties keep the limits of a shelf
pub record IsSaved (urids : List (List ℕ)) (saved : Saved) : Type 0 where
  pub name : IsPlain saved.name
  pub uri : IsSelf saved.uri
  pub rows : AllByRecursion (IsWritable urids) saved.props
  pub storable : AreStorable (length urids) saved.props

-- the triples of states: four for each, and four for each property
abbrev pub triples_for : List Saved → ℕ
triples_for [] = 0
triples_for (saved ∷ saves) = (4 + 4 * length saved.props) + triples_for saves

-- states that can be written, by URIDs of which each has one number, and whose triples a store has room for
pub record AreSaved (urids : List (List ℕ)) (saves : List Saved) : Type 0 where
  pub numbered : AreNumbered urids
  pub each : AllByRecursion (IsSaved urids) saves
  pub room : triples_for saves ≤ MOST_ROWS

-- these triples keep all rules of a state file, no URI gets a new number, and the states are these
pub record SaysAgain (urids : List (List ℕ)) (saves : List Saved) (rows : List Triple) : Type 0 where
  pub kept : first_broken rows ≡ None
  pub held : with_uris urids (uris_in rows) ≡ urids
  pub same : saves_of rows urids ≡ saves

-- an answer to the text: it is a document, and its triples say the states again
abbrev pub ReadsAgain : List (List ℕ) → List Saved → Outcome → Type 0
ReadsAgain urids saves (document rows) = SaysAgain urids saves rows
ReadsAgain urids saves (not_utf8 at) = ⊥
ReadsAgain urids saves (unclosed at) = ⊥
ReadsAgain urids saves (bad_byte at) = ⊥
ReadsAgain urids saves (syntax at) = ⊥
ReadsAgain urids saves (fault f) = ⊥

-- From whatever base IRI, the text of states has an answer that says the states again.
abbrev pub WrittenIsRead : Type 0
WrittenIsRead = (base : List ℕ) (urids : List (List ℕ)) (saves : List Saved) → AreSaved urids saves
    → (o : Outcome) × IsReadAs (beginning base []) (state_text urids saves) o × ReadsAgain urids saves o

-- Whichever answer it has, that says the states again.
abbrev pub ReadIsWritten : Type 0
ReadIsWritten = (base : List ℕ) (urids : List (List ℕ)) (saves : List Saved) (o : Outcome) → AreSaved urids saves
    → IsReadAs (beginning base []) (state_text urids saves) o → ReadsAgain urids saves o

-- a character of an instance's name, [A-Za-z0-9_]
abbrev pub is_name_character : ℕ → Bool
is_name_character c = is_letter_or_digit c || c == 95

-- The name of an instance stands between quotes as it is.
abbrev pub NamesArePlain : Type 0
NamesArePlain = (name : List ℕ) → list_all is_name_character name ≡ true → IsPlain name
