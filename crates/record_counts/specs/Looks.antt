-- What is kept of each actor's own steps, and of the progress that audio's steps made known.
use Rattle.std.specs.Prelude.{◌≡◌, ℕ, zero, suc, ◌+◌, List, [], ◌∷◌, length, ◌==◌, Bool, false, ◌&&◌, Option, Some, None}
use Rattle.step_law.specs.declared.actor.Actor.TheVariants.{Audio}
use Rattle.step_law.specs.declared.entry.Entry.{Entry}
use Rattle.step_law.specs.declared.entry.Kind.{Kind}
use Rattle.step_law.specs.Actor.{actor_at}
use Rattle.record_law.specs.declared.shape.Shape.{Shape}
use Rattle.record_law.specs.Entries.{is_kind}
use Rattle.record_law.specs.Message.{History}
use Rattle.record_law.specs.History.{own, settled, progress_in}
use Rattle.record_counts.specs.declared.looks.Looks.{Looks}
use Rattle.record_counts.specs.Table.{IsTable}

-- the newest entry, if there is one
abbrev pub newest_of : History → Option Entry
newest_of [] = None
newest_of (x ∷ h) = Some x.entry

-- it is of a kind on the ring with a number
abbrev pub is_newest_on : Kind → (ring : ℕ) → Option Entry → Bool
is_newest_on kind ring None = false
is_newest_on kind ring (Some e) = is_kind kind e && (e.a == ring)

-- that of the actor with a number
abbrev pub last_of : History → ℕ → Option Entry
last_of h actor = newest_of (own (actor_at actor) h)

-- the numbers from one on down to 1
abbrev pub countdown : ℕ → List ℕ
countdown zero = []
countdown (suc n) = suc n ∷ countdown n

-- audio ends its blocks in turn, and then stops: what its steps made known is 1, 2 and so on, the newest first
abbrev pub EndsInTurn : Shape → History → Type 0
EndsInTurn s h = progress_in s (own Audio h) ≡ countdown (length (progress_in s (own Audio h)))

pub record TellsLooks (s : Shape) (h : History) (looks : Looks) : Type 0 where
  pub each : IsTable (last_of h) looks.last
  pub all : length looks.last ≡ 2 + s.workers
  pub known : looks.known ≡ length (progress_in s (own Audio h))
  pub settled : looks.settled ≡ length (progress_in s (settled Audio h))
