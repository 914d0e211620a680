-- What holds of the beat in the entries of a run by ticket.
use Rattle.std.specs.Prelude.{◌≡◌, ◌⊎◌, ℕ, ◌+◌, ◌<◌, ◌≤◌, Bool, true, false, ◌==◌, if◌then◌else◌, List, [], ◌∷◌, ◌++◌, flat_map, All, AllPairs, Contains}
use Rattle.step_law.specs.declared.entry.Entry.{Entry}
use Rattle.step_law.specs.declared.entry.Kind.{Kind}
use Rattle.step_law.specs.declared.entry.Kind.TheVariants.{Done, Stop, Beat}
use Rattle.cable_trace.specs.declared.trace.Trace.{Trace}
use Rattle.cable_trace.specs.Trace.{drawn}
use Rattle.cable_trace.specs.Beat.{stores, loads}

-- an entry that says what was loaded
abbrev pub is_beat : Kind → Bool
is_beat Beat = true
is_beat kind = false

-- what an entry is worth, with its ticket: the blocks that have ended, and one more for the stop after all blocks
abbrev pub worth_of : ℕ → ℕ → Kind → ℕ → List (ℕ × ℕ)
worth_of blocks ticket Done block = (ticket, block + 1) ∷ []
worth_of blocks ticket Stop a = (ticket, blocks + 1) ∷ []
worth_of blocks ticket kind a = []

-- the worths of an actor's entries among these, in order
abbrev pub worth_at : ℕ → ℕ → ℕ × Entry → List (ℕ × ℕ)
worth_at blocks actor mark = if mark.1.actor == actor then worth_of blocks mark.0 mark.1.kind mark.1.a else []

abbrev pub worths_in : ℕ → ℕ → List (ℕ × Entry) → List (ℕ × ℕ)
worths_in blocks actor marks = flat_map (worth_at blocks actor) marks

-- A list of entries has rising tickets and agrees on the beat with the traces of its two actors. Their loads may lack an entry.
pub record IsMergedBeat {M : Type 0} (blocks source target : ℕ) (writer reader : Trace M) (marks : List (ℕ × Entry)) : Type 0 where
  pub rises : AllPairs (λ first second. first.0 < second.0) marks
  pub stored : worths_in blocks source marks ≡ stores writer
  pub loaded : All (λ mark. is_beat mark.1.kind ≡ true → Contains (loads reader) (mark.0, mark.1.a)) marks
  pub by_writer : All (λ mark. mark.1.actor ≡ source → Contains (drawn writer) mark.0) marks
  pub by_reader : All (λ mark. mark.1.actor ≡ target → Contains (drawn reader) mark.0) marks

-- The rules of the beat in a list of entries.
pub record KeepsBeat (blocks source target : ℕ) (marks : List (ℕ × Entry)) : Type 0 where
  -- it is at least each worth before an entry of the storing actor that stands before it
  pub at_least : (before between after : List (ℕ × Entry)) (mark beat : ℕ × Entry) → marks ≡ (before ++ mark ∷ between) ++ beat ∷ after
      → mark.1.actor ≡ source → is_beat beat.1.kind ≡ true → All (λ worth. worth.1 ≤ beat.1.a) (worths_in blocks source before)
  -- it is 0 or one of the worths before the next entry of the loading actor
  pub at_most : (before between after : List (ℕ × Entry)) (beat mark : ℕ × Entry) → marks ≡ (before ++ beat ∷ between) ++ mark ∷ after
      → is_beat beat.1.kind ≡ true → mark.1.actor ≡ target
      → (beat.1.a ≡ 0) ⊎ ((ticket : ℕ) × Contains (worths_in blocks source (before ++ beat ∷ between)) (ticket, beat.1.a))
  -- it is 0 or one of all worths
  pub in_all : (before after : List (ℕ × Entry)) (beat : ℕ × Entry) → marks ≡ before ++ beat ∷ after
      → is_beat beat.1.kind ≡ true → (beat.1.a ≡ 0) ⊎ ((ticket : ℕ) × Contains (worths_in blocks source marks) (ticket, beat.1.a))
