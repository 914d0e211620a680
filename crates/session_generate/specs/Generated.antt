-- The session of a number.
use Rattle.std.specs.Prelude.{◌≡◌, ℕ, List, [], fold, codes}
use Rattle.std.specs.List.{range_with_len}
use Rattle.session_generate.specs.Lines.{Written, write, inst_line, value_line, cable_lines, action_line}

-- lines are written for each number below a count, in order
pub record WritesEach (lines : Written → ℕ → Written) (count : ℕ) (old new : Written) : Type 0 where
  pub each : new ≡ fold lines old (range_with_len 0 count)

abbrev pub settings : Written → Written
settings it = write (codes "lv2fx 1\nblock 64\nblocks 512\nworkers 2\ncells 4\n") it

-- the first values of the two constants
abbrev pub first_values : Written → Written
first_values it = value_line 8 (value_line 0 it)

abbrev pub outs : Written → Written
outs it = write (codes "out n14 out\nout n15 out\n") it

-- Settings, sixteen instances, first values, the cables to the audio inputs of each instance (the first, a constant, has none), outs, and 64
-- actions.
pub record WritesAll (old new : Written) : Type 0 where
  pub with_insts : Written
  pub with_cables : Written
  pub insts : WritesEach inst_line 16 (settings old) with_insts
  pub cables : WritesEach cable_lines 16 (first_values with_insts) with_cables
  pub actions : WritesEach action_line 64 (outs with_cables) new

-- the text of a number's session
pub record IsGenerated (seed : ℕ) (text : List ℕ) : Type 0 where
  pub last : Written
  pub lines : WritesAll (record { state = seed; text = [] }) last
  pub is : text ≡ last.text
