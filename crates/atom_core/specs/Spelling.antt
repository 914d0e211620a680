-- The bytes of a value (LV2 atom; `LV2_Atom` has the size of the body, the type, and the body). Numbers have their low byte first.
use Rattle.std.specs.Prelude.{ℕ, ◌-◌, List, [], ◌∷◌, ◌++◌, length, replicate, ℤ}
use Rattle.std.specs.Int.{w32, w64, to_le_bytes, cast_unsigned}
use Rattle.atom_core.specs.Place.{padded}
use Rattle.atom_core.specs.Value.{Plain, int, long, boolean, urid, string, literal, vector, float, double, fixed, uri, path, other, Container, tuple, object, sequence, Lead, bare, keyed, timed, Value, plain, holding, Parts, none, part}

-- a number of four bytes, and signed ones of four and eight
unfoldable pub u32 : ℕ → List ℕ
u32 n = to_le_bytes w32 n

unfoldable pub i32 : ℤ → List ℕ
i32 z = to_le_bytes w32 (cast_unsigned w32 z)

unfoldable pub i64 : ℤ → List ℕ
i64 z = to_le_bytes w64 (cast_unsigned w64 z)

-- a text and its zero
abbrev pub ended : List ℕ → List ℕ
ended text = text ++ 0 ∷ []

abbrev pub plain_kind : Plain → ℕ
plain_kind (int z) = 1
plain_kind (long z) = 2
plain_kind (boolean z) = 3
plain_kind (urid n) = 4
plain_kind (string text) = 5
plain_kind (literal datatype lang text) = 6
plain_kind (vector size kind elements) = 7
plain_kind (float bytes) = 12
plain_kind (double bytes) = 13
plain_kind (fixed z) = 14
plain_kind (uri text) = 24
plain_kind (path text) = 25
plain_kind (other kind bytes) = kind

abbrev pub plain_body : Plain → List ℕ
plain_body (int z) = i32 z
plain_body (long z) = i64 z
plain_body (boolean z) = i32 z
plain_body (urid n) = u32 n
plain_body (string text) = ended text
plain_body (literal datatype lang text) = u32 datatype ++ (u32 lang ++ ended text)
plain_body (vector size kind elements) = u32 size ++ (u32 kind ++ elements)
plain_body (float bytes) = bytes
plain_body (double bytes) = bytes
plain_body (fixed z) = i64 z
plain_body (uri text) = ended text
plain_body (path text) = ended text
plain_body (other kind bytes) = bytes

abbrev pub container_kind : Container → ℕ
container_kind tuple = 8
container_kind (object id kind) = 9
container_kind sequence = 10

-- a sequence's unit and pad are zero, which means frames
abbrev pub container_head : Container → List ℕ
container_head tuple = []
container_head (object id kind) = u32 id ++ u32 kind
container_head sequence = replicate 8 0

abbrev pub lead_bytes : Lead → List ℕ
lead_bytes bare = []
lead_bytes (keyed key context) = u32 key ++ u32 context
lead_bytes (timed time) = i64 time

-- a body of a type with its header
abbrev pub framed : ℕ → List ℕ → List ℕ
framed kind body = u32 (length body) ++ (u32 kind ++ body)

-- bytes with zeros after them, up to a multiple of 8
abbrev pub with_padding : List ℕ → List ℕ
with_padding bytes = bytes ++ replicate (padded (length bytes) - length bytes) 0

abbrev pub kind_of : Value → ℕ
kind_of (plain p) = plain_kind p
kind_of (holding container parts) = container_kind container

-- the body of a value; each part of a container is padded, and the padding counts in the container's size
abbrev mutual
  pub body_of : Value → List ℕ
  body_of (plain p) = plain_body p
  body_of (holding container parts) = container_head container ++ parts_of parts

  pub parts_of : Parts → List ℕ
  parts_of none = []
  parts_of (part lead value parts) = (lead_bytes lead ++ with_padding (framed (kind_of value) (body_of value))) ++ parts_of parts

-- the bytes of an atom
abbrev pub atom_of : Value → List ℕ
atom_of value = framed (kind_of value) (body_of value)

-- the bytes of a part
abbrev pub part_of : Lead → Value → List ℕ
part_of lead value = lead_bytes lead ++ with_padding (atom_of value)
