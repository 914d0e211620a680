-- What the entries of a call are about.
use Rattle.std.specs.Prelude.{List, [], ◌∷◌, map}
use Rattle.step_law.specs.declared.entry.Entry.{Entry}
use Rattle.step_law.specs.declared.entry.Kind.{Kind}
use Rattle.step_law.specs.declared.entry.Kind.TheVariants.{End}
use Rattle.record_law.specs.Message.{Message, Step}
use Rattle.record_law.specs.Message.Message.{nothing, body}

-- after its begin: its end is about nothing, and each attempt has a body
abbrev pub message_in : Kind → Message
message_in End = nothing
message_in kind = body

abbrev pub later_step : Entry → Step
later_step e = record { entry = e; about = message_in e.kind }

-- all of them, where the call is made for a message
abbrev pub steps_for : Message → List Entry → List Step
steps_for about [] = []
steps_for about (e ∷ later) = record { entry = e; about = about } ∷ map later_step later
