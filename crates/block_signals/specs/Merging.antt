-- What comes to an input of events, as it is merged (LV2 atom, `LV2_Atom_Sequence`).
use Rattle.std.specs.Prelude.{◌≡◌, ℕ, ◌-◌, ◌<◌, ◌≤◌, if◌then◌else◌, All, List, [], ◌∷◌, length, map, Option, IfSome}
use Rattle.std.specs.Borrow.{Bor}
use Rattle.atom_forge.specs.Forged.{Forged}
use Rattle.atom_sequence.specs.Merge.{merged}
use Rattle.event_signals.specs.Merging.{sequence_of}
use Rattle.plug_api.specs.Buffers.{Given, forge_at, given_events, event_bytes}
use Rattle.plug_api.specs.Sequences.{AreEventBytes}
use Rattle.session_play.specs.EventBytes.{events_at}
use Rattle.block_signals.specs.declared.messages.Messages.{Messages}
use Rattle.block_signals.specs.declared.outlets.Outlets.{Outlets}
use Rattle.block_signals.specs.declared.source.Input.{Input}
use Rattle.block_signals.specs.declared.source.Input.TheVariants.{Sound, Events, Still}
use Rattle.block_signals.specs.declared.source.Source.{Source}
use Rattle.block_signals.specs.Messages.{messages_at, is_full_at}
use Rattle.block_signals.specs.Mixing.{outs_at}

-- the events of a source, as their bytes
abbrev pub source_forge : Outlets → Source → Forged
source_forge outlets source = forge_at (outs_at outlets source).forges source.place

abbrev pub events_heard : Outlets → Source → List ℕ
events_heard outlets source = event_bytes (source_forge outlets source)

-- the source is there, with a sequence
pub record GivesEvents (outlets : Outlets) (source : Source) : Type 0 where
  pub inst : source.inst < length outlets.each.items
  pub there : source.place < length (outs_at outlets source).forges
  pub begun : 16 ≤ length (source_forge outlets source).bytes

-- so are the messages
abbrev pub HaveBegun : Option Messages → Type 0
HaveBegun messages = IfSome messages (λ kept. 16 ≤ length kept.forge.bytes)

-- no source is heard after messages for which there is no room
abbrev pub sources_left : Option Messages → ℕ → List Source → List Source
sources_left messages port sources = if is_full_at messages port then [] else sources

-- the lists that are merged at a port: the messages, then the events of each source
abbrev pub lists_at : Outlets → Option Messages → ℕ → List Source → List (List ℕ)
lists_at outlets messages port sources = messages_at messages port ∷ map (events_heard outlets) (sources_left messages port sources)

-- the bytes that references show
abbrev pub bytes_in : Bor (List ℕ) → List ℕ
bytes_in list = list.now

-- the merge of such lists, where there is so much room
abbrev pub merge_of : ℕ → List (List ℕ) → Forged
merge_of room lists = sequence_of room (merged (room - 16) (map events_at lists))

-- an input of events has its forge, and its sources are there
pub record CanMerge (ins : Given) (messages : Option Messages) (outlets : Outlets) (port : ℕ) (sources : List Source) : Type 0 where
  pub place : port < length ins.events
  pub room : 16 ≤ (forge_at ins.events port).room
  pub few : length sources ≤ 256
  pub heard : All (GivesEvents outlets) sources
  pub kept : HaveBegun messages
  pub timed : All (AreEventBytes ins.frames) (lists_at outlets messages port sources)

abbrev pub CanTake : Given → Option Messages → Outlets → ℕ → Input → Type 0
CanTake ins messages outlets port (Events sources) = CanMerge ins messages outlets port sources
CanTake ins messages outlets port (Sound sources) = Unit {0}
CanTake ins messages outlets port Still = Unit {0}

-- what is put there
abbrev pub with_merge : Given → Option Messages → Outlets → ℕ → Input → Given
with_merge ins messages outlets port (Events sources) =
    given_events ins port (merge_of (forge_at ins.events port).room (lists_at outlets messages port sources))
with_merge ins messages outlets port (Sound sources) = ins
with_merge ins messages outlets port Still = ins

-- it stands there
abbrev pub IsTaken : Given → Option Messages → Outlets → ℕ → Input → Type 0
IsTaken ins messages outlets port (Events sources) =
    forge_at ins.events port ≡ merge_of (forge_at ins.events port).room (lists_at outlets messages port sources)
IsTaken ins messages outlets port (Sound sources) = Unit {0}
IsTaken ins messages outlets port Still = Unit {0}
