-- What a tracker answers.
use Rattle.std.specs.Prelude.{List, Option, Some, None}
use Rattle.step_law.specs.declared.entry.Entry.{Entry}
use Rattle.record_law.specs.Message.{Step}
use Rattle.record_law.specs.Protocol.{Follows}
use Rattle.record_law.specs.Task.{Task}
use Rattle.record_terms.specs.declared.message.Message.{Message}
use Rattle.record_terms.specs.Message.{meaning_of}

-- what an entry is about, where tasks are left
abbrev pub follows_as : List Task → Option Message → Option Follows
follows_as left None = None
follows_as left (Some about) = Some (record { about = meaning_of about; left = left })

-- the step of an entry about a message
abbrev pub step_of : Entry → Message → Step
step_of e about = record { entry = e; about = meaning_of about }
