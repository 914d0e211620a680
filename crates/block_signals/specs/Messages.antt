-- The messages that were taken for an instance in the block at hand, as they are kept until its run (LV2 atom; LV2 patch).
use Rattle.std.specs.Prelude.{◌≡◌, ℕ, ◌-◌, ◌==◌, nat_lt, if◌then◌else◌, Bool, ◌&&◌, true, false, All, List, [], length, pos, Option, Some, None, IfSome, ◌≤◌}
use Rattle.plugin_decl.specs.declared.declaration.Port.{Port}
use Rattle.plugin_decl.specs.MessagePorts.{message_port}
use Rattle.atom_core.specs.Value.{Value}
use Rattle.atom_core.specs.Spelling.{atom_of}
use Rattle.atom_core.specs.Fits.{Fits}
use Rattle.atom_sequence.specs.Event.{Event}
use Rattle.atom_sequence.specs.Merge.{cut}
use Rattle.atom_sequence.specs.Views.{with_events}
use Rattle.plug_api.specs.Buffers.{begun_forge, event_bytes}
use Rattle.plug_api.specs.Ports.{room_of}
use Rattle.block_signals.specs.declared.messages.Messages.{Messages}

-- a value that may stand in a sequence, and its bytes
abbrev pub AreBytesOf : List ℕ → Value → Type 0
AreBytesOf bytes value = Fits 15 value × (bytes ≡ atom_of value)

-- a message comes at the start of the block
abbrev pub IsMessage : Event → Type 0
IsMessage e = (e.time ≡ pos 0) × Fits 15 e.value

-- the events that a room holds, up to the first that has none, and whether that leaves some out
pub record Keeps (room : ℕ) (messages : List Event) (kept : Messages) : Type 0 where
  pub events : kept.forge ≡ with_events (begun_forge room) (cut (room - 16) messages)
  pub full : kept.full ≡ nat_lt (length (cut (room - 16) messages)) (length messages)
  pub each : All IsMessage messages

-- an instance with these ports keeps the messages where one of them is for patch messages, for that port and within its room
abbrev pub KeepsFor : List Port → List Event → Option Messages → Type 0
KeepsFor ports messages None = message_port true ports ≡ None
KeepsFor ports messages (Some kept) = (message_port true ports ≡ Some kept.port) × Keeps (room_of ports kept.port) messages kept

-- there is room for a sequence
abbrev pub AreRoomy : Option Messages → Type 0
AreRoomy messages = IfSome messages (λ kept. 16 ≤ kept.forge.room)

-- none are kept where a block begins
abbrev pub begun_messages : Option Messages → Option Messages
begun_messages None = None
begun_messages (Some kept) = Some (record kept { forge = begun_forge kept.forge.room; full = false })

-- the bytes of those that come in at a port
abbrev pub messages_at : Option Messages → ℕ → List ℕ
messages_at None port = []
messages_at (Some kept) port = if kept.port == port then event_bytes kept.forge else []

-- no event comes after messages for which there is no room
abbrev pub is_full_at : Option Messages → ℕ → Bool
is_full_at None port = false
is_full_at (Some kept) port = kept.port == port && kept.full
