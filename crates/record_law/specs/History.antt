-- What a history says of a ring, of an actor, and of audio's progress. The newest step stands first.
use Rattle.std.specs.Prelude.{ℕ, zero, suc, ◌+◌, ◌-◌, Bool, true, false, List, [], ◌∷◌, ◌++◌, drop, filter, filter_map, Option, Some, None}
use Rattle.std.specs.List.{list_any}
use Rattle.step_law.specs.declared.actor.Actor.{Actor}
use Rattle.step_law.specs.declared.entry.Entry.{Entry}
use Rattle.step_law.specs.declared.entry.Kind.{Kind}
use Rattle.step_law.specs.declared.entry.Kind.TheVariants.{Take, Send, Done, Stop}
use Rattle.step_law.specs.declared.ring.Ring.{Ring}
use Rattle.record_law.specs.declared.shape.Shape.{Shape}
use Rattle.record_law.specs.Entries.{is_by, is_on, same_entry}
use Rattle.record_law.specs.Message.{Message, Step, History}
use Rattle.record_law.specs.Message.Message.{nothing}

-- ---- rings

abbrev pub one_more : Bool → ℕ → ℕ
one_more true n = suc n
one_more false n = n

-- how many entries of a kind there are on a ring
abbrev pub count : Kind → Ring → History → ℕ
count kind ring [] = 0
count kind ring (x ∷ h) = one_more (is_on kind ring x.entry) (count kind ring h)

-- how many messages were sent and not taken
abbrev pub waiting : Ring → History → ℕ
waiting ring h = count Send ring h - count Take ring h

abbrev pub put_last : Bool → Message → List Message → List Message
put_last true message sent = sent ++ message ∷ []
put_last false message sent = sent

-- the messages that were sent on a ring, in order
abbrev pub sent_on : Ring → History → List Message
sent_on ring [] = []
sent_on ring (x ∷ h) = put_last (is_on Send ring x.entry) x.about (sent_on ring h)

abbrev pub message_at : List Message → ℕ → Message
message_at [] place = nothing
message_at (message ∷ later) zero = message
message_at (message ∷ later) (suc place) = message_at later place

-- the message of the next take: the k-th take has that of the k-th send
abbrev pub next_on : Ring → History → Message
next_on ring h = message_at (sent_on ring h) (count Take ring h)

-- ---- actors

-- an actor's own steps
abbrev pub own : Actor → History → History
own actor h = filter (λ (x : Step). is_by actor x.entry) h

-- those of its steps after which it has gone on
abbrev pub settled : Actor → History → History
settled actor h = drop 1 (own actor h)

abbrev pub has : Entry → History → Bool
has e h = list_any (λ (x : Step). same_entry e x.entry) h

-- ---- progress: how many blocks have ended, and one more once audio has stopped

abbrev pub progress_of : ℕ → Kind → ℕ → Option ℕ
progress_of blocks Done block = Some (block + 1)
progress_of blocks Stop a = Some (blocks + 1)
progress_of blocks kind a = None

-- the progress that audio's steps made known
abbrev pub progress_in : Shape → History → List ℕ
progress_in s h = filter_map (λ (x : Step). progress_of s.blocks x.entry.kind x.entry.a) h
