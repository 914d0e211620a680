-- What holds of histories that broke no rule.
use Rattle.record_law.specs.declared.shape.Shape.{Shape}
use Rattle.record_law.specs.Message.{History}
use Rattle.step_law.specs.declared.entry.Entry.{Entry}
use Rattle.record_law.specs.Protocol.{follow_in, about_in}
use Rattle.record_counts.specs.Kept.{IsKept}
use Rattle.record_counts.specs.Looks.{EndsInTurn}
use Rattle.record_counts.specs.Owners.{IsAboutThere}
use Rattle.record_terms.specs.Session.{IsSession}

-- audio ends its blocks in turn, and stops after the last
abbrev pub BlocksEndInTurn : Type 0
BlocksEndInTurn = (s : Shape) (h : History) → IsKept s h → EndsInTurn s h

-- each message is about an instance that is there
abbrev pub MessagesNameWhatIsThere : Type 0
MessagesNameWhatIsThere = (s : Shape) (h : History) (e : Entry) → IsSession s → IsKept s h → IsAboutThere s (about_in (follow_in s h e))
