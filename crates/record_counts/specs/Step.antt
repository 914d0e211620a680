-- An entry with what it is about.
use Rattle.step_law.specs.declared.entry.Entry.{Entry}
use Rattle.record_law.specs.Message.{Message, Step}

abbrev pub step_of : Entry → Message → Step
step_of e about = record { entry = e; about = about }
