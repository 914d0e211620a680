-- The levels that are set in a block, and what is heard of them.
use Rattle.std.specs.Prelude.{ℕ, ◌-◌, List, [], ◌∷◌, ◌++◌, replicate, map, ℤ, pos, negsuc}
use Rattle.lv_base.specs.declared.number.Fixed.{Fixed}
use Rattle.lv_base.specs.declared.number.Sample.{Sample}
use Rattle.lv_base.specs.Number.{sample_of}
use Rattle.stock_state.specs.Levels.{level_bytes}
use Rattle.stock_tank.specs.declared.ask.Ask.TheVariants.{Set, Get, Nothing}
use Rattle.stock_tank.specs.Requests.{Request}

-- a time, and the level that is set then
abbrev pub SetAt : Type 0
SetAt = ℤ × Fixed

-- the levels that are set, in order
abbrev pub sets_in : List Request → List SetAt
sets_in [] = []
sets_in ((time, Set level) ∷ requests) = (time, level) ∷ sets_in requests
sets_in ((time, Get wanted) ∷ requests) = sets_in requests
sets_in ((time, Nothing) ∷ requests) = sets_in requests

-- the level after all of them
abbrev pub level_after : Fixed → List SetAt → Fixed
level_after level [] = level
level_after level ((time, new) ∷ sets) = level_after new sets

-- the back is told of each by a job of its eight bytes
abbrev pub jobs_for : List SetAt → List (List ℕ)
jobs_for sets = map (λ (it : SetAt). level_bytes it.1) sets

-- the frame of a time
abbrev pub frame_of : ℤ → ℕ
frame_of (pos frame) = frame
frame_of (negsuc n) = 0

-- from a frame on up to the last one the level is heard, and each one that is set from its time on
abbrev pub heard_from : ℕ → ℕ → Fixed → List SetAt → List Sample
heard_from frames from level [] = replicate (frames - from) (sample_of level)
heard_from frames from level ((time, new) ∷ sets) =
    replicate (frame_of time - from) (sample_of level) ++ heard_from frames (frame_of time) new sets
