-- A literal's text between its quotes.
use Rattle.std.specs.Prelude.{ℕ, ◌==◌, if◌then◌else◌, List, [], ◌∷◌, flat_map, Option, None, Some, unwrap_or, codes}

-- how a byte is written where it doesn't stand for itself: ECHAR of Turtle 1.1, section 6.4
abbrev pub escape_of : ℕ → Option (List ℕ)
escape_of byte =
    if byte == 92 then Some (codes "\\\\")
    else (if byte == 34 then Some (codes "\\\"")
    else (if byte == 10 then Some (codes "\\n")
    else (if byte == 13 then Some (codes "\\r")
    else (if byte == 9 then Some (codes "\\t")
    else None))))

-- a byte as it is written
abbrev pub written : ℕ → List ℕ
written byte = unwrap_or (escape_of byte) (byte ∷ [])

-- a text as it is written
abbrev pub escaped : List ℕ → List ℕ
escaped text = flat_map written text
