-- The messages that wait in all rings after a history.
use Rattle.std.specs.Prelude.{◌≡◌, ℕ, ◌<◌, ◌≤◌, List, [], length, map, drop, true, slice_get, All, Option, Some, None, unwrap_or}
use Rattle.step_law.specs.declared.entry.Entry.{Entry}
use Rattle.step_law.specs.declared.entry.Kind.{Kind}
use Rattle.step_law.specs.declared.entry.Kind.TheVariants as kind
use Rattle.step_law.specs.declared.ring.Ring.{Ring}
use Rattle.step_law.specs.Ring.{ring_at}
use Rattle.record_law.specs.declared.shape.Shape.{Shape}
use Rattle.record_law.specs.Entries.{is_kind}
use Rattle.record_law.specs.History.{count, sent_on}
use Rattle.record_law.specs.Message.{History}
use Rattle.record_terms.specs.declared.message.Message.{Message}
use Rattle.record_terms.specs.declared.message.Message.TheVariants.{Nothing}
use Rattle.record_terms.specs.Message.{meaning_of}
use Rattle.order_base.specs.There.{IsThere}
use Rattle.record_order.specs.Waiting.{Waiting, first_of}

-- the messages that wait in a ring: those that were sent, but for as many as were taken
pub record IsQueue (ring : Ring) (messages : List Message) (h : History) : Type 0 where
  pub taken : count kind.Take ring h ≤ length (sent_on ring h)
  pub waiting : map meaning_of messages ≡ drop (count kind.Take ring h) (sent_on ring h)

-- each ring has its queue, by its number
abbrev pub AreQueues : List Waiting → History → Type 0
AreQueues queues h = (ring : ℕ) (it : Waiting) → slice_get queues ring ≡ Some it → IsQueue (ring_at ring) it.messages h

-- they name what is there
abbrev pub AreThere : Shape → List Waiting → Type 0
AreThere s queues = (ring : ℕ) (it : Waiting) → slice_get queues ring ≡ Some it → All (IsThere s) it.messages

-- so many queues with so much room, in which nothing waits
pub record HasQueues (room : ℕ) (queues : List Waiting) (n : ℕ) : Type 0 where
  pub count : length queues ≡ n
  pub empty : (ring : ℕ) (it : Waiting) → slice_get queues ring ≡ Some it → it ≡ record { room = room; messages = [] }

-- each has room for so many
abbrev pub HaveRoom : ℕ → List Waiting → Type 0
HaveRoom room queues = (ring : ℕ) (it : Waiting) → slice_get queues ring ≡ Some it → it.room ≡ room

-- an entry of a kind names a ring that is there
abbrev pub NamesRing : List Waiting → Kind → Entry → Type 0
NamesRing queues it e = is_kind it e ≡ true → e.a < length queues

-- a send has room
abbrev pub HasRoom : List Waiting → Entry → Type 0
HasRoom queues e = is_kind kind.Send e ≡ true → (it : Waiting) → slice_get queues e.a ≡ Some it → length it.messages < it.room

-- a take finds a message
abbrev pub FindsMessage : List Waiting → Entry → Type 0
FindsMessage queues e = is_kind kind.Take e ≡ true → (it : Waiting) → slice_get queues e.a ≡ Some it → 0 < length it.messages

-- the message that a take of a ring brings
abbrev pub first_in : Option Waiting → Message
first_in None = Nothing
first_in (Some it) = unwrap_or (first_of it.messages) Nothing

abbrev pub first_at : List Waiting → ℕ → Message
first_at queues ring = first_in (slice_get queues ring)
