-- A part is one thing: it has one owner, or one message carries it.
use Rattle.std.specs.Prelude.{◌≡◌, ℕ, ◌+◌, true, false, List, [], ◌∷◌, drop, Option, Some, None}
use Rattle.step_law.specs.declared.actor.Actor.{Actor}
use Rattle.step_law.specs.declared.entry.Kind.TheVariants.{Take}
use Rattle.step_law.specs.declared.ring.Ring.{Ring}
use Rattle.step_law.specs.Entry.{join}
use Rattle.step_law.specs.Form.{is_worker}
use Rattle.record_law.specs.declared.shape.Shape.{Shape}
use Rattle.record_law.specs.Message.{Message, History}
use Rattle.record_law.specs.History.{one_more, count, sent_on, has}
use Rattle.record_law.specs.Shape.{worker_of}
use Rattle.record_law.specs.Room.{finds_message}
use Rattle.record_law.specs.Owners.{Part, inst_of, ring_away, ring_home, is_part_of, owner_of, owns_all}
use Rattle.record_law.specs.Fits.{TakesInTurn}

-- the messages on a ring that were sent and not taken, in order
abbrev pub untaken : Ring → History → List Message
untaken ring h = drop (count Take ring h) (sent_on ring h)

-- how many of some messages carry a part of an instance
abbrev pub carrying : ℕ → List Message → ℕ
carrying inst [] = 0
carrying inst (message ∷ later) = one_more (is_part_of inst message) (carrying inst later)

-- how many messages are on their way with a part
abbrev pub on_its_way : Shape → Part → History → ℕ
on_its_way s it h = carrying (inst_of it) (untaken (ring_away s it) h) + carrying (inst_of it) (untaken (ring_home s it) h)

-- each take finds a message, and each actor owns the parts that it calls and sends
abbrev pub KeepsOwners : Shape → History → Type 0
KeepsOwners s [] = Unit {0}
KeepsOwners s (x ∷ h) = (finds_message h x.entry.kind x.entry.a ≡ true) × (owns_all s h x.entry x.about ≡ true) × KeepsOwners s h

abbrev pub messages_of : Option Actor → ℕ
messages_of None = 1
messages_of (Some owner) = 0

-- until control has all parts, a part that has an owner is in no message, and one that has none is in one
abbrev pub PartsAreTokens : Type 0
PartsAreTokens = (s : Shape) (it : Part) (h : History) → is_worker (worker_of s (inst_of it)) ≡ true → TakesInTurn h → KeepsOwners s h → has join h ≡ false
    → on_its_way s it h ≡ messages_of (owner_of s it h)
