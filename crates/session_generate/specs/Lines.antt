-- The lines of a generated session. A line that draws numbers leaves the generator's state for the next line.
use Rattle.std.specs.Prelude.{ℕ, ◌+◌, ◌*◌, ◌/◌, ◌%◌, ◌==◌, ◌||◌, if◌then◌else◌, List, [], ◌∷◌, ◌++◌, fold, codes, decimal, slice_index_or}
use Rattle.session_generate.specs.Draws.{next, drawn}

-- the state of the generator, and the text so far
pub record Written : Type 0 where
  pub state : ℕ
  pub text : List ℕ

abbrev pub write : List ℕ → Written → Written
write more it = record { state = it.state; text = it.text ++ more }

-- a draw
abbrev pub after_draw : Written → Written
after_draw it = record { state = next it.state; text = it.text }

-- ---- instances

-- the stock codes, by kind
abbrev pub code_names : List (List ℕ)
code_names =
    codes "const" ∷ codes "amp" ∷ codes "mix" ∷ codes "echo" ∷ codes "fetch" ∷ codes "burst" ∷ codes "keep" ∷ codes "tank" ∷ []

abbrev pub code_of : ℕ → List ℕ
code_of kind = slice_index_or code_names kind []

-- instance i is of kind i modulo 8
abbrev pub inst_line : Written → ℕ → Written
inst_line it inst = write (codes "inst n" ++ decimal inst ++ codes " urn:lv2fx:" ++ code_of (inst % 8) ++ codes "\n") it

-- ---- numbers below one

-- a digit's character
abbrev pub digit : ℕ → ℕ
digit n = 48 + n

-- a number below one in three decimals, for a drawn number modulo 1000
abbrev pub fraction : ℕ → List ℕ
fraction n = codes "0." ++ digit (n / 100 % 10) ∷ digit (n / 10 % 10) ∷ digit (n % 10) ∷ []

-- the end of a line with such a number, which is drawn for it
abbrev pub drawn_value : List ℕ → Written → Written
drawn_value before it = let later = after_draw it in write (before ++ fraction (drawn later.state) ++ codes "\n") later

-- ---- first values

abbrev pub value_line : ℕ → Written → Written
value_line inst it = drawn_value (codes " value ") (write (codes "set n" ++ decimal inst) it)

-- ---- cables

-- the audio inputs of a kind
abbrev pub inputs_of : ℕ → List (List ℕ)
inputs_of kind =
    if kind == 1 || kind == 3 then codes "in" ∷ []
    else if kind == 2 then codes "a" ∷ codes "b" ∷ []
    else []

-- a cable to an input comes from an instance before
abbrev pub cable_from : ℕ → List ℕ → Written → Written
cable_from inst symbol it =
    write (codes "cable n" ++ decimal (drawn it.state % inst) ++ codes " out n" ++ decimal inst ++ codes " " ++ symbol ++ codes "\n") it

abbrev pub cable_line : ℕ → Written → List ℕ → Written
cable_line inst it symbol = cable_from inst symbol (after_draw it)

abbrev pub cable_lines : Written → ℕ → Written
cable_lines it inst = fold (cable_line inst) it (inputs_of (inst % 8))

-- ---- actions

-- one of four, by the number drawn
abbrev pub action_by : ℕ → Written → Written
action_by choice it =
    if choice == 0 then drawn_value (codes " set n0 value ") it
    else if choice == 1 then drawn_value (codes " patch-set n7 urn:lv2fx:level fixed ") it
    else if choice == 2 then write (codes " save n15\n") it
    else write (codes " patch-get n7\n") it

abbrev pub action_at : ℕ → Written → Written
action_at block it = action_by (drawn it.state % 4) (write (codes "at " ++ decimal block) it)

-- one every eight blocks
abbrev pub action_line : Written → ℕ → Written
action_line it number = action_at (8 * number) (after_draw it)
