-- What each actor did by itself, and all of it in one order.
use Rattle.std.specs.Prelude.{◌≡◌, true, List, [], ◌∷◌, ◌++◌, Some}
use Rattle.step_law.specs.declared.actor.Actor.{Actor}
use Rattle.step_law.specs.declared.entry.Entry.{Entry}
use Rattle.step_law.specs.declared.entry.Kind.TheVariants.{Take}
use Rattle.step_law.specs.Ring.{ring_at}
use Rattle.record_law.specs.declared.shape.Shape.{Shape}
use Rattle.record_law.specs.Entries.{is_kind}
use Rattle.record_law.specs.Message.{Step, History}
use Rattle.record_law.specs.History.{next_on, own}
use Rattle.record_law.specs.Task.{Task}
use Rattle.record_law.specs.Protocol.{follow, left_after, follow_in, history_of}

-- a step is what an actor's tasks make of its entry after the actor's own steps, given the message that it took; and what it leaves
abbrev pub Goes : Shape → History → List Task → Step → List Task → Type 0
Goes s h tasks x left = follow s h x.about tasks x.entry ≡ Some (record { about = x.about; left = left })

-- an actor's own steps fit its tasks
abbrev pub Fits : Shape → Actor → History → Type 0
Fits s actor [] = Unit {0}
Fits s actor (x ∷ h) = ((left : List Task) × Goes s h (left_after s actor h) x left) × Fits s actor h

-- each take brings the message that is next on its ring
abbrev pub TakesInTurn : History → Type 0
TakesInTurn [] = Unit {0}
TakesInTurn (x ∷ h) = (is_kind Take x.entry ≡ true → x.about ≡ next_on (ring_at x.entry.a) h) × TakesInTurn h

-- the order of work lets each step come where it stands, but for what it waits for of others
abbrev pub IsInOrder : Shape → History → Type 0
IsInOrder s [] = Unit {0}
IsInOrder s (x ∷ h) = ((left : List Task) × (follow_in s h x.entry ≡ Some (record { about = x.about; left = left }))) × IsInOrder s h

-- the record of a history
abbrev pub entries_of : History → List Entry
entries_of [] = []
entries_of (x ∷ h) = entries_of h ++ x.entry ∷ []

-- Where each actor's own steps fit its tasks, and each take brings what is next, all of them together are in order, and their entries alone
-- give the history back.
abbrev pub TogetherInOrder : Type 0
TogetherInOrder = (s : Shape) (h : History) → ((actor : Actor) → Fits s actor (own actor h)) → TakesInTurn h
    → IsInOrder s h × (history_of s (entries_of h) ≡ h)

-- ---- pieces of what an actor does

-- steps, in order, that tasks let follow an actor's own steps, and what they leave
abbrev pub Piece : Shape → History → List Task → List Step → List Task → Type 0
Piece s h tasks [] left = tasks ≡ left
Piece s h tasks (x ∷ later) left = (between : List Task) × Goes s h tasks x between × Piece s (x ∷ h) between later left

-- the history after such steps
abbrev pub behind : History → List Step → History
behind h [] = h
behind h (x ∷ later) = behind (x ∷ h) later

-- two pieces after one another are one
abbrev pub PiecesCompose : Type 0
PiecesCompose = (s : Shape) (h : History) (tasks between left : List Task) (first second : List Step)
    → Piece s h tasks first between → Piece s (behind h first) between second left → Piece s h tasks (first ++ second) left

-- a piece stays one whatever tasks come later
abbrev pub PieceHoldsBefore : Type 0
PieceHoldsBefore = (s : Shape) (h : History) (tasks left later : List Task) (steps : List Step)
    → Piece s h tasks steps left → Piece s h (tasks ++ later) steps (left ++ later)

-- own steps and a piece of what is left fit the tasks
abbrev pub PieceFits : Type 0
PieceFits = (s : Shape) (actor : Actor) (h : History) (left : List Task) (steps : List Step)
    → Fits s actor h → Piece s h (left_after s actor h) steps left → Fits s actor (behind h steps) × (left_after s actor (behind h steps) ≡ left)
