-- RFC 3986, section 5.2.4: a path without its dot segments, by turns over an input and an output buffer.
use Rattle.std.specs.Prelude.{ℕ, zero, suc, Bool, ◌==◌, nat_eq, List, [], ◌∷◌, ◌++◌, length, take, drop, codes, if◌then◌else◌}
use Rattle.std.specs.List.{position_or_len, starts_with, before_last}
use Rattle.std.specs.Str.{bytes_eq}

-- `/`
abbrev pub is_slash : ℕ → Bool
is_slash c = c == 47

-- a path begins with these characters
abbrev pub begins : List ℕ → List ℕ → Bool
begins path front = starts_with nat_eq path front

-- a path is these characters and no more
abbrev pub is_whole : List ℕ → List ℕ → Bool
is_whole path whole = bytes_eq path whole

-- the length of the first segment: with its leading `/`, if any, up to the next `/` or the end
abbrev pub segment_len : List ℕ → ℕ
segment_len [] = 0
segment_len (c ∷ rest) = suc (position_or_len is_slash rest)

-- an output without its last segment and the `/` before it, if any
abbrev pub without_last : List ℕ → List ℕ
without_last output = before_last is_slash output

-- one turn: the input and the output after it
abbrev pub turn : List ℕ → List ℕ → List ℕ × List ℕ
turn input output =
    -- A
    if begins input (codes "../") then (drop 3 input, output) else
    if begins input (codes "./") then (drop 2 input, output) else
    -- B
    if begins input (codes "/./") then (47 ∷ drop 3 input, output) else
    if is_whole input (codes "/.") then (47 ∷ [], output) else
    -- C
    if begins input (codes "/../") then (47 ∷ drop 4 input, without_last output) else
    if is_whole input (codes "/..") then (47 ∷ [], without_last output) else
    -- D
    if is_whole input (codes ".") then ([], output) else
    if is_whole input (codes "..") then ([], output) else
    -- E
    (drop (segment_len input) input, output ++ take (segment_len input) input)

-- the output once the input is empty; a turn takes something from the input, so as many turns as it has bytes will do
abbrev pub turns : ℕ → List ℕ → List ℕ → List ℕ
turns zero input output = output
turns (suc n) [] output = output
turns (suc n) (c ∷ rest) output = turns n (turn (c ∷ rest) output).0 (turn (c ∷ rest) output).1

-- a path without its dot segments
abbrev pub without_dots : List ℕ → List ℕ
without_dots path = turns (length path) path []
