-- The rows of one subject that are left to go through.
use Rattle.std.specs.Prelude.{◌≡◌, ℕ, ◌<◌, ◌≤◌, true, List, [], ◌∷◌, length, filter, drop, Option, None, Some}
use Rattle.triple_store.specs.Index.{is_about, is_about_at, IsLast, LeadsOn}
use Rattle.triple_store.specs.declared.subjects.Ends.{Ends}
use Rattle.triple_store.specs.declared.term.Term.{Term}
use Rattle.triple_store.specs.declared.term.Triple.{Triple}

-- the first of some rows, and those after it with its subject
abbrev pub about_first : List Triple → List Triple
about_first [] = []
about_first (t ∷ rows) = t ∷ filter (is_about t.s) rows

-- the rows from the first end on
abbrev pub rows_left : List Triple → Option Ends → List Triple
rows_left rows None = []
rows_left rows (Some ends) = about_first (drop ends.first rows)

-- the chain leads from the first end to the last, beyond which the subject has no row
pub record IsChain (rows : List Triple) (next : List ℕ) (left : Option Ends) : Type 0 where
  pub as_long : length next ≡ length rows
  pub on : (q : Term) → LeadsOn next (is_about_at q rows)
  pub within : (ends : Ends) → left ≡ Some ends → (ends.first ≤ ends.last) × (ends.last < length rows)
  pub last : (ends : Ends) → left ≡ Some ends → (q : Term) → is_about_at q rows ends.first ≡ true → IsLast (is_about_at q rows) ends.last
