-- What a lawful record says of its rings: none gave more messages than were sent on it.
use Rattle.std.specs.Prelude.{◌≡◌, ◌≤◌, ◌∷◌, true}
use Rattle.step_law.specs.declared.entry.Kind.TheVariants.{Take, Send}
use Rattle.step_law.specs.declared.ring.Ring.{Ring}
use Rattle.record_law.specs.History.{count}
use Rattle.record_law.specs.Message.{Step, History}
use Rattle.record_law.specs.Room.{finds_message}

-- each message that was taken was sent
abbrev pub TakesAreSent : History → Type 0
TakesAreSent h = (ring : Ring) → count Take ring h ≤ count Send ring h

-- it stays so after a step that takes only what waits
abbrev pub TakesStaySent : Type 0
TakesStaySent = (h : History) (x : Step) → TakesAreSent h → finds_message h x.entry.kind x.entry.a ≡ true → TakesAreSent (x ∷ h)
