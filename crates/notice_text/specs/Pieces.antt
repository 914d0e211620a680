-- The pieces of a notice's text. No public clause rests on them.
use Rattle.std.specs.Prelude.{ℕ, List, ◌++◌, codes}
use Rattle.base64.specs.Engines.{standard}
use Rattle.base64.specs.GeneralPurpose.{encode_of}
use Rattle.atom_core.specs.Place.{number_at}
use Rattle.play_outcome.specs.Messages.{uri_text, keyed_text, named_text, valued_text, all_text}
use Rattle.session_play.specs.Patch.{property_key, value_key, body_key, Property}

-- a URI whose number is a body, and a body whose type has no text of its own
abbrev pub urid_text : List (List ℕ) → List ℕ → List ℕ
urid_text urids body = codes "urid " ++ uri_text urids (number_at body 0)

abbrev pub bytes_text : List (List ℕ) → Property → List ℕ
bytes_text urids it = codes "bytes " ++ (uri_text urids it.kind ++ (codes " " ++ encode_of standard it.body))

-- what a Set says, and what a Put says
abbrev pub set_text : List (List ℕ) → List Property → List ℕ
set_text urids properties =
    codes " set" ++ (keyed_text property_key (named_text urids) properties ++ keyed_text value_key (valued_text urids) properties)

abbrev pub put_text : List (List ℕ) → List Property → List ℕ
put_text urids properties = codes " put" ++ keyed_text body_key (all_text urids) properties
