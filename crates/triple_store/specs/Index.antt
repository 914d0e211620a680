-- What a store keeps beside its rows, so that no call goes through them all.
use Rattle.std.specs.Prelude.{◌≡◌, ℕ, zero, suc, ◌<◌, max, Bool, true, false, List, [], ◌∷◌, length, Option, None, Some, slice_get}
use Rattle.indexmap.specs.IndexMap.{get}
use Rattle.triple_store.specs.Triples.{same_term, blanks_of_triple}
use Rattle.triple_store.specs.declared.subjects.Ends.{Ends}
use Rattle.triple_store.specs.declared.subjects.Subjects.{Subjects}
use Rattle.triple_store.specs.declared.term.Term.{Term}
use Rattle.triple_store.specs.declared.term.Triple.{Triple}

-- `blanks_of` each front of the rows, from that of no row on: the greatest so far
abbrev pub blanks_so_far : ℕ → List Triple → List ℕ
blanks_so_far most [] = []
blanks_so_far most (t ∷ rows) = max most (blanks_of_triple t) ∷ blanks_so_far (max most (blanks_of_triple t)) rows

-- a triple has this subject
abbrev pub is_about : Term → Triple → Bool
is_about subject t = same_term subject t.s

-- there is a row at this place, and it has this subject
abbrev pub is_about_at : Term → List Triple → ℕ → Bool
is_about_at subject [] place = false
is_about_at subject (t ∷ rows) zero = is_about subject t
is_about_at subject (t ∷ rows) (suc place) = is_about_at subject rows place

-- the first of the places that pass a test
pub record IsFirst (test : ℕ → Bool) (first : ℕ) : Type 0 where
  pub passes : test first ≡ true
  pub none_before : (place : ℕ) → place < first → test place ≡ false

-- the last of the places that pass a test
pub record IsLast (test : ℕ → Bool) (last : ℕ) : Type 0 where
  pub passes : test last ≡ true
  pub none_after : (place : ℕ) → last < place → test place ≡ false

-- two places that pass a test, and none between them does
pub record AreNeighbours (test : ℕ → Bool) (before after : ℕ) : Type 0 where
  pub order : before < after
  pub passes_before : test before ≡ true
  pub passes_after : test after ≡ true
  pub none_between : (place : ℕ) → before < place → place < after → test place ≡ false

-- at each place that passes the test stands the next such place, where there is one
abbrev pub LeadsOn : List ℕ → (ℕ → Bool) → Type 0
LeadsOn next test = (i j : ℕ) → AreNeighbours test i j → slice_get next i ≡ Some j

-- at each place that passes the test stands the one before it that passes, where there is one
abbrev pub LeadsBack : List ℕ → (ℕ → Bool) → Type 0
LeadsBack previous test = (i j : ℕ) → AreNeighbours test i j → slice_get previous j ≡ Some i

-- the first and the last row that are kept for a subject
abbrev pub ends_of : Subjects → Term → Option Ends
ends_of subjects subject = get same_term subjects.ends subject

-- the places that pass a test are chained in both directions, from the first end to the last
pub record AreChained (next previous : List ℕ) (ends : Option Ends) (test : ℕ → Bool) : Type 0 where
  pub on : LeadsOn next test
  pub back : LeadsBack previous test
  pub none : ends ≡ None → (place : ℕ) → test place ≡ false
  pub first : (e : Ends) → ends ≡ Some e → IsFirst test e.first
  pub last : (e : Ends) → ends ≡ Some e → IsLast test e.last

-- the rows of each subject are chained
pub record AreIndexed (subjects : Subjects) (rows : List Triple) : Type 0 where
  pub next_as_long : length subjects.next.items ≡ length rows
  pub previous_as_long : length subjects.previous.items ≡ length rows
  pub each : (q : Term) → AreChained subjects.next.items subjects.previous.items (ends_of subjects q) (is_about_at q rows)
