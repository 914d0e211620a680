-- What a store keeps fits its rows.
use Rattle.std.specs.Prelude.{◌≡◌, ℕ, ◌≤◌, List, length}
use Rattle.triple_store.specs.Index.{blanks_so_far, AreIndexed}
use Rattle.triple_store.specs.Late.{AreLate}
use Rattle.triple_store.specs.Triples.{AreDistinct}
use Rattle.triple_store.specs.declared.fault.TheConstants.{MOST_ROWS}
use Rattle.triple_store.specs.declared.late.Late.{Late}
use Rattle.triple_store.specs.declared.subjects.Subjects.{Subjects}
use Rattle.triple_store.specs.declared.term.Triple.{Triple}

pub record IsKept (rows : List Triple) (blanks : List ℕ) (subjects : Subjects) (later : Late) : Type 0 where
  pub few : length rows ≤ MOST_ROWS
  pub distinct : AreDistinct rows
  pub counted : blanks ≡ blanks_so_far 0 rows
  pub indexed : AreIndexed subjects rows
  pub late : AreLate later rows
