-- Which rows are looked up by a hash.
use Rattle.std.specs.Prelude.{◌≡◌, ℕ, suc, ◌<◌, Bool, nat_le, List, [], ◌∷◌, ◌++◌, length, take, filter, Some, slice_get, Contains, if◌then◌else◌}
use Rattle.triple_store.specs.Index.{is_about}
use Rattle.triple_store.specs.declared.late.Late.{Late}
use Rattle.triple_store.specs.declared.late.TheConstants.{COMPARED}
use Rattle.triple_store.specs.declared.term.Term.{Term}
use Rattle.triple_store.specs.declared.term.Triple.{Triple}

-- how many of some rows have a subject
abbrev pub count_about : Term → List Triple → ℕ
count_about subject rows = length (filter (is_about subject) rows)

-- after these rows a row is late: as many of them have its subject as are compared one by one
abbrev pub is_late : List Triple → Triple → Bool
is_late before t = nat_le COMPARED (count_about t.s before)

-- the late ones of some rows that stand after others
abbrev pub late_behind : List Triple → List Triple → List Triple
late_behind before [] = []
late_behind before (t ∷ rows) = if is_late before t then t ∷ late_behind (before ++ t ∷ []) rows else late_behind (before ++ t ∷ []) rows

abbrev pub late_of : List Triple → List Triple
late_of rows = late_behind [] rows

-- the late rows are kept, and at each row how many there are up to it
pub record AreLate (late : Late) (rows : List Triple) : Type 0 where
  pub kept : late.rows.keys ≡ late_of rows
  pub as_long : length late.counts.items ≡ length rows
  pub counted : (n : ℕ) → n < length rows → slice_get late.counts.items n ≡ Some (length (late_of (take (suc n) rows)))

-- the last of some rows is new among them, and it is known whether it is a late one
abbrev pub EndsInNew : List Triple → Bool → Type 0
EndsInNew rows late = (front : List Triple) (t : Triple) → rows ≡ front ++ t ∷ [] → (¬ Contains front t) × (late ≡ is_late front t)
