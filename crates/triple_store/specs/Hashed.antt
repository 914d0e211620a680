-- What a hasher is fed of a term: no two unequal terms are fed alike, nor does one begin with what is fed of another.
use Rattle.std.specs.Prelude.{◌==◌, ◌++◌, if◌then◌else◌, length}
use Rattle.std.specs.Hash as fed
use Rattle.std.specs.Hash.{HashWrites}
use Rattle.triple_store.specs.declared.term.Term.{Term}
use Rattle.triple_store.specs.declared.term.Term.TheVariants.{Iri, Blank, Literal}

-- An IRI comes most, and is fed as its text alone. A byte 0xFF ends each text, as no byte of UTF-8 is above 0xF4. So a byte 0xFC to
-- 0xFE at the head begins no text, and tells the other kinds apart: a literal with a language tag, one without, and a blank node.
abbrev pub fed_of : Term → HashWrites
fed_of (Iri iri) = fed.str iri
fed_of (Blank number) = fed.u8 0xFE ++ fed.u32 number
fed_of (Literal text datatype lang) =
    if length lang == 0 then fed.u8 0xFD ++ fed.str text ++ fed.str datatype else fed.u8 0xFC ++ fed.str text ++ fed.str datatype ++ fed.str lang
