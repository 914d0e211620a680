-- What the terms of a property say: IRIs in full, flags and bytes.
use Rattle.std.specs.Prelude.{ℕ, if◌then◌else◌, ℤ, pos, negsuc, List, Option, None, Some, Result, Ok, Err}
use Rattle.std.specs.Str.{bytes_eq}
use Rattle.base64.specs.Engines.{standard}
use Rattle.base64.specs.GeneralPurpose.{encode_of, decode_of}
use Rattle.base64.specs.declared.decode.DecodeError.{DecodeError}
use Rattle.iri_resolve.specs.Iri.{is_iri_text}
use Rattle.lv_base.specs.Decimal.{after_sign, are_some_digits, signed_of}
use Rattle.state_store.specs.Properties.{are_flags}

-- an IRI that can have a number
abbrev pub in_full : List ℕ → Option (List ℕ)
in_full iri = if is_iri_text iri then Some iri else None

-- the integer that a text says: [+-]?[0-9]+, by its value
abbrev pub integer_of : List ℕ → Option ℤ
integer_of text = if are_some_digits (after_sign text) then Some (signed_of text) else None

-- an integer that is the flags of a value that may be kept in a file: 3 or 7 (LV2_State_Flags)
abbrev pub as_flags : Option ℤ → Option ℕ
as_flags (Some (pos number)) = if are_flags number then Some number else None
as_flags (Some (negsuc number)) = None
as_flags None = None

-- the flags that a text says
abbrev pub flags_of : List ℕ → Option ℕ
flags_of text = as_flags (integer_of text)

-- the bytes that a text was decoded to, if it is their encoding
abbrev pub encoded_as : List ℕ → Result (List ℕ) DecodeError → Option (List ℕ)
encoded_as text (Ok bytes) = if bytes_eq (encode_of standard bytes) text then Some bytes else None
encoded_as text (Err fault) = None

-- the bytes whose canonical base64 a text is (RFC 4648, sections 3.5 and 4): it decodes to them, and they are encoded as it
unfoldable pub bytes_of : List ℕ → Option (List ℕ)
bytes_of text = encoded_as text (decode_of standard text)
