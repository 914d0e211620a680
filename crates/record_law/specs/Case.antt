-- Altered copies of a record, and what is expected of each.
use Rattle.std.specs.Prelude.{◌≡◌, ℕ, ◌+◌, ◌-◌, Bool, List, ◌∷◌, ◌++◌, take, drop, map, Option, Some, None}
use Rattle.step_law.specs.declared.entry.Entry.{Entry}
use Rattle.record_law.specs.declared.shape.ActionKind.{ActionKind}
use Rattle.record_law.specs.declared.shape.Broken.{Broken}
use Rattle.record_law.specs.declared.shape.Shape.{Shape}
use Rattle.record_law.specs.declared.shape.ShapeAction.{ShapeAction}
use Rattle.record_law.specs.declared.shape.ShapeInst.{ShapeInst}
use Rattle.record_law.specs.Verdict.{verdict}

-- ---- sessions

abbrev pub inst_of : (worker : ℕ) (works replies : Bool) → ShapeInst
inst_of worker works replies = record { worker = worker; works = works; replies = replies }

abbrev pub action_of : (block : ℕ) → ActionKind → (inst : ℕ) → ShapeAction
action_of block kind inst = record { block = block; kind = kind; inst = inst }

abbrev pub shape_of : (blocks cells workers : ℕ) → List ℕ → List ShapeInst → List ShapeAction → Shape
shape_of blocks cells workers plan insts actions =
    record { blocks = blocks; cells = cells; workers = workers; plan = plan; insts = insts; actions = actions }

-- ---- altered copies

-- A line is left out, stands twice, or is swapped with the next; another stands in its place; or lines from one to another are moved after
-- a later one. The first entry is on line 2.
pub data Edit : Type 0 where
  drop_line : (line : ℕ) → Edit
  double_line : (line : ℕ) → Edit
  swap_lines : (line : ℕ) → Edit
  put_line : (line : ℕ) → Entry → Edit
  move_lines : (first last behind : ℕ) → Edit

-- the entries before a line, on it, and after it
abbrev pub before : ℕ → List Entry → List Entry
before line steps = take (line - 2) steps

abbrev pub on : ℕ → List Entry → List Entry
on line steps = take 1 (drop (line - 2) steps)

abbrev pub behind : ℕ → List Entry → List Entry
behind line steps = drop (line - 1) steps

abbrev pub edited : Edit → List Entry → List Entry
edited (drop_line line) steps = before line steps ++ behind line steps
edited (double_line line) steps = before line steps ++ on line steps ++ on line steps ++ behind line steps
edited (swap_lines line) steps = before line steps ++ on (line + 1) steps ++ on line steps ++ behind (line + 1) steps
edited (put_line line e) steps = before line steps ++ e ∷ behind line steps
edited (move_lines first last later) steps =
    before first steps ++ behind last (before (later + 1) steps) ++ behind (first - 1) (before (last + 1) steps) ++ behind later steps

-- ---- what is expected

pub record Case : Type 0 where
  pub edit : Edit
  pub expected : Option (ℕ × Broken)

abbrev pub breaks : Edit → ℕ → Broken → Case
breaks edit line rule = record { edit = edit; expected = Some (line, rule) }

abbrev pub keeps : Edit → Case
keeps edit = record { edit = edit; expected = None }

-- each copy of a record has the verdict that is expected
abbrev pub Gives : Shape → List Entry → List Case → Type 0
Gives s steps cases = map (λ (it : Case). verdict s (edited it.edit steps)) cases ≡ map (λ (it : Case). it.expected) cases
