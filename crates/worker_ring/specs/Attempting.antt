-- One attempt to put a body into the ring of an instance (LV2 worker: LV2_Worker_Status).
use Rattle.std.specs.Prelude.{◌≡◌, ℕ, nat_lt, if◌then◌else◌, List, [], ◌∷◌, ◌++◌, length}
use Rattle.std.proofs.Common.{subst}
use Rattle.interaction.specs.Attempts.{Attempt}
use Rattle.step_law.specs.declared.entry.Entry.{Entry}
use Rattle.step_law.specs.declared.entry.Kind.{Kind}
use Rattle.step_law.specs.declared.entry.Kind.TheVariants.{Send, Full, Long}

-- an entry of an actor on a ring
abbrev pub on_ring : ℕ → ℕ → Kind → Entry
on_ring actor ring kind = record { actor = actor; kind = kind; a = ring; b = 0 }

-- a ring of so many cells, in which these bodies wait, takes a body, unless it is longer than a cell or the ring is full
abbrev pub kind_of : ℕ → List (List ℕ) → List ℕ → Kind
kind_of cells waiting body = if nat_lt 256 (length body) then Long else if nat_lt (length waiting) cells then Send else Full

-- LV2_WORKER_SUCCESS where the body was taken, else LV2_WORKER_ERR_NO_SPACE
abbrev pub status_of : ℕ → List (List ℕ) → List ℕ → ℕ
status_of cells waiting body = if nat_lt 256 (length body) then 2 else if nat_lt (length waiting) cells then 0 else 2

-- what waits then
abbrev pub waiting_after : ℕ → List (List ℕ) → List ℕ → List (List ℕ)
waiting_after cells waiting body =
    if nat_lt 256 (length body) then waiting else if nat_lt (length waiting) cells then waiting ++ body ∷ [] else waiting

-- attempts in a row: each is a step
abbrev pub InSteps : {V : Type 0} → (V → Attempt → V → Type 0) → V → List Attempt → V → Type 0
InSteps step old [] new = new ≡ old
InSteps step old (attempt ∷ attempts) new = (next : _) × step old attempt next × InSteps step next attempts new

-- steps after steps
pub InSteps-append : {V : Type 0} (step : V → Attempt → V → Type 0) (old mid new : V) (first second : List Attempt)
    → InSteps step old first mid → InSteps step mid second new → InSteps step old (first ++ second) new
InSteps-append step old mid new [] second begun goes = subst (λ v. InSteps step v second new) begun goes
InSteps-append step old mid new (attempt ∷ first) second begun goes =
    (begun.0, begun.1, InSteps-append step begun.0 mid new first second begun.2 goes)
