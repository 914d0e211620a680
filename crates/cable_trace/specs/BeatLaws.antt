-- Each step keeps what holds of the beat.
use Rattle.std.specs.Prelude.{◌≡◌, ℕ, ◌<◌, List, [], ◌∷◌, ◌++◌, All}
use Rattle.step_law.specs.declared.entry.Entry.{Entry}
use Rattle.cable_trace.specs.declared.trace.Action.{Action}
use Rattle.cable_trace.specs.declared.trace.Action.TheVariants.{Stored, Loaded}
use Rattle.cable_trace.specs.declared.trace.Pending.TheVariants.{Drew}
use Rattle.cable_trace.specs.declared.trace.Trace.{Trace}
use Rattle.cable_trace.specs.Trace.{drawn}
use Rattle.cable_trace.specs.Step.{fresh, with_event, IsAbove}
use Rattle.cable_trace.specs.Beat.{stored_by, loaded_by, stores, loads, IsLast, BeatHolds}
use Rattle.cable_trace.specs.MergedBeat.{IsMergedBeat, KeepsBeat}

-- nothing has been done yet, and the beat is 0
abbrev pub BeatBegins : Type 0 → Type 0
BeatBegins M = BeatHolds {M = M} fresh fresh × IsLast 0 (stores {M = M} fresh)

-- what is above all tickets of an actor is above those of its stores and loads
abbrev pub AboveBeat : Type 0 → Type 0
AboveBeat M = (ticket : ℕ) (trace : Trace M) → IsAbove ticket trace
    → All (λ store. store.0 < ticket) (stores trace) × All (λ load. load.0 < ticket) (loads trace)

-- an event that stores or loads nothing leaves what was stored or loaded
abbrev pub EventStoresNothing : Type 0 → Type 0
EventStoresNothing M = (ticket : ℕ) (trace : Trace M) (action : Action M) → stored_by ticket action ≡ [] → stores (with_event trace ticket action) ≡ stores trace

abbrev pub EventLoadsNothing : Type 0 → Type 0
EventLoadsNothing M = (ticket : ℕ) (trace : Trace M) (action : Action M) → loaded_by ticket action ≡ [] → loads (with_event trace ticket action) ≡ loads trace

-- a step of the storing actor besides: no ticket, or one above all loads
abbrev pub WriterGoesOn : Type 0 → Type 0
WriterGoesOn M = (writer reader new : Trace M) → BeatHolds writer reader → stores new ≡ stores writer → drawn new ≡ drawn writer → BeatHolds new reader

abbrev pub WriterDraws : Type 0 → Type 0
WriterDraws M = (ticket : ℕ) (writer reader new : Trace M) → BeatHolds writer reader → stores new ≡ stores writer
    → drawn new ≡ drawn writer ++ ticket ∷ [] → All (λ load. load.0 < ticket) (loads reader) → BeatHolds new reader

-- it has drawn a ticket and stores a higher number
abbrev pub WriterStores : Type 0 → Type 0
WriterStores M = (ticket last number : ℕ) (writer reader : Trace M) → BeatHolds writer reader → writer.pending ≡ Drew ticket → IsAbove ticket writer
    → IsLast last (stores writer) → last < number
    → BeatHolds (with_event writer ticket (Stored number)) reader × IsLast number (stores (with_event writer ticket (Stored number)))

-- a step of the loading actor besides: no ticket, or one above all stores
abbrev pub ReaderGoesOn : Type 0 → Type 0
ReaderGoesOn M = (writer reader new : Trace M) → BeatHolds writer reader → loads new ≡ loads reader → drawn new ≡ drawn reader → BeatHolds writer new

abbrev pub ReaderDraws : Type 0 → Type 0
ReaderDraws M = (ticket : ℕ) (writer reader new : Trace M) → BeatHolds writer reader → loads new ≡ loads reader
    → drawn new ≡ drawn reader ++ ticket ∷ [] → All (λ store. store.0 < ticket) (stores writer) → BeatHolds writer new

-- it has drawn a ticket and loads the last number
abbrev pub ReaderLoads : Type 0 → Type 0
ReaderLoads M = (ticket number : ℕ) (writer reader : Trace M) → BeatHolds writer reader → reader.pending ≡ Drew ticket → IsAbove ticket reader
    → IsLast number (stores writer) → BeatHolds writer (with_event reader ticket (Loaded number))

-- a list of entries that is merged by tickets from what the beat's actors did keeps the beat's rules
abbrev pub MergedKeepsBeat : Type 0 → Type 0
MergedKeepsBeat M = (blocks source target : ℕ) (writer reader : Trace M) (marks : List (ℕ × Entry)) → BeatHolds writer reader
    → IsMergedBeat blocks source target writer reader marks → KeepsBeat blocks source target marks
