-- The entries of a run by ticket, and what holds there of a ring.
use Rattle.std.specs.Prelude.{◌≡◌, ℕ, ◌+◌, ◌<◌, ◌≤◌, Bool, true, false, ◌&&◌, ◌==◌, List, ◌∷◌, ◌++◌, map, All, AllPairs, Contains, filter, count_by}
use Rattle.step_law.specs.declared.entry.Entry.{Entry}
use Rattle.step_law.specs.declared.entry.Kind.{Kind}
use Rattle.step_law.specs.declared.entry.Kind.TheVariants.{Look, Take, Send, Full}
use Rattle.cable_trace.specs.declared.trace.Trace.{Trace}
use Rattle.cable_trace.specs.Trace.{drawn, sent, refused, looks, taken}
use Rattle.cable_trace.specs.Order.{below}
use Rattle.cable_trace.specs.Ring.{tickets}

-- kinds of entries
abbrev pub is_send : Kind → Bool
is_send Send = true
is_send kind = false

abbrev pub is_take : Kind → Bool
is_take Take = true
is_take kind = false

abbrev pub is_full : Kind → Bool
is_full Full = true
is_full kind = false

abbrev pub is_look : Kind → Bool
is_look Look = true
is_look kind = false

-- an entry with its ticket is of a kind, on a ring
abbrev pub is_on : (Kind → Bool) → ℕ → ℕ × Entry → Bool
is_on is_kind ring mark = is_kind mark.1.kind && (mark.1.a == ring)

-- how many sends and takes of a ring are among these
abbrev pub sends_in : ℕ → List (ℕ × Entry) → ℕ
sends_in ring marks = count_by (is_on is_send ring) marks

abbrev pub takes_in : ℕ → List (ℕ × Entry) → ℕ
takes_in ring marks = count_by (is_on is_take ring) marks

-- the tickets of a kind of entries on a ring, in the list's order
abbrev pub tickets_in : (Kind → Bool) → ℕ → List (ℕ × Entry) → List ℕ
tickets_in is_kind ring marks = map (λ mark. mark.0) (filter (is_on is_kind ring) marks)

-- One actor alone sends on a ring, and one alone looks at it and takes from it.
pub record HasEnds (ring source target : ℕ) (marks : List (ℕ × Entry)) : Type 0 where
  pub sends : All (λ mark. is_on is_send ring mark ≡ true → mark.1.actor ≡ source) marks
  pub looks : All (λ mark. is_on is_look ring mark ≡ true → mark.1.actor ≡ target) marks
  pub takes : All (λ mark. is_on is_take ring mark ≡ true → mark.1.actor ≡ target) marks

-- A list of entries has rising tickets and agrees on a ring with the traces of its two actors. Their refusals and looks may lack an entry.
pub record IsMerged {M : Type 0} (ring source target : ℕ) (sender taker : Trace M) (marks : List (ℕ × Entry)) : Type 0 where
  pub rises : AllPairs (λ first second. first.0 < second.0) marks
  pub sends : tickets_in is_send ring marks ≡ tickets (sent ring sender)
  pub takes : tickets_in is_take ring marks ≡ tickets (taken ring taker)
  pub fulls : All (λ mark. is_on is_full ring mark ≡ true → (seen : ℕ) × Contains (refused ring sender) (mark.0, seen)) marks
  -- an entry says how many a look showed that weren't taken yet
  pub seen : All (λ mark. is_on is_look ring mark ≡ true → Contains (looks ring taker) (mark.0, mark.1.b + below mark.0 (tickets (taken ring taker)))) marks
  pub ends : HasEnds ring source target marks
  pub by_sender : All (λ mark. mark.1.actor ≡ source → Contains (drawn sender) mark.0) marks
  pub by_taker : All (λ mark. mark.1.actor ≡ target → Contains (drawn taker) mark.0) marks

-- The rules of a ring in a list of entries, by counts of what stands before a place.
pub record KeepsRing (cells ring source target : ℕ) (marks : List (ℕ × Entry)) : Type 0 where
  -- one actor alone sends on it, and one alone looks at it and takes from it
  pub ends : HasEnds ring source target marks
  -- each take has its send before it
  pub paired : (before after : List (ℕ × Entry)) (take : ℕ × Entry) → marks ≡ before ++ take ∷ after → is_on is_take ring take ≡ true
      → takes_in ring before < sends_in ring before
  -- a send stands only where at most one message more than the ring has cells is sent and not taken
  pub roomy : (before after : List (ℕ × Entry)) (send : ℕ × Entry) → marks ≡ before ++ send ∷ after → is_on is_send ring send ≡ true
      → sends_in ring before ≤ takes_in ring before + cells + 1
  -- a refusal stands only where at least as many messages as it has cells are sent and not taken
  pub full : (before after : List (ℕ × Entry)) (refusal : ℕ × Entry) → marks ≡ before ++ refusal ∷ after → is_on is_full ring refusal ≡ true
      → takes_in ring before + cells ≤ sends_in ring before
  -- a look has shown, with what was taken before, at least the sends before an entry of the sender that stands before the look
  pub at_least : (before between after : List (ℕ × Entry)) (mark look : ℕ × Entry) → marks ≡ (before ++ mark ∷ between) ++ look ∷ after
      → mark.1.actor ≡ source → is_on is_look ring look ≡ true → sends_in ring before ≤ look.1.b + takes_in ring (before ++ mark ∷ between)
  -- and at most the sends before the next entry of the taker
  pub at_most : (before between after : List (ℕ × Entry)) (look mark : ℕ × Entry) → marks ≡ (before ++ look ∷ between) ++ mark ∷ after
      → is_on is_look ring look ≡ true → mark.1.actor ≡ target → look.1.b + takes_in ring before ≤ sends_in ring (before ++ look ∷ between)
