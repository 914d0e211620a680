-- The text of a state file, without states so far.
use Rattle.std.specs.Prelude.{ℕ, List, ◌++◌, codes}

-- the prefixes that the states use
abbrev pub state_text : List ℕ
state_text =
    codes "@prefix state: <http://lv2plug.in/ns/ext/state#> .\n" ++ codes "@prefix fx: <urn:lv2fx:> .\n"
