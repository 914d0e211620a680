-- The messages that wait in a ring.
use Rattle.std.specs.Prelude.{ℕ, List, [], ◌∷◌, ◌++◌, drop, Option, Some, None}
use Rattle.record_terms.specs.declared.message.Message.{Message}

-- how many there may be, and which wait, the oldest first
pub record Waiting : Type 0 where
  pub room : ℕ
  pub messages : List Message

abbrev pub first_of : List Message → Option Message
first_of [] = None
first_of (message ∷ later) = Some message

-- one message more, after all others
abbrev pub with_message : Waiting → Message → Waiting
with_message queue message = record queue { messages = queue.messages ++ message ∷ [] }

-- all but the oldest
abbrev pub without_first : Waiting → Waiting
without_first queue = record queue { messages = drop 1 queue.messages }
