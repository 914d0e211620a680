-- What an entry of the record is about, and a history of such entries.
use Rattle.std.specs.Prelude.{ℕ, List}
use Rattle.step_law.specs.declared.entry.Entry.{Entry}

-- What goes through a ring, or what a call is made for. Actions and instances are counted from 0. A part is an instance's front or its
-- back: the ring tells which.
pub data Message : Type 0 where
  -- nothing of all this
  nothing : Message
  -- a job or a response
  body : Message
  -- what an instance answers on its reply port
  notice : (inst : ℕ) → Message
  -- an action's value of a control input, or its patch message
  input : (action : ℕ) → Message
  -- an instance's part is asked for, is sent to control, is given back
  lend : (inst : ℕ) → Message
  part : (inst : ℕ) → Message
  give : (inst : ℕ) → Message
  -- an action saves or restores an instance, and the worker answers
  save : (action inst : ℕ) → Message
  restore : (action inst : ℕ) → Message
  answer : (action : ℕ) → Message
  -- a worker is to stop
  close : Message

-- an entry with what it is about
pub record Step : Type 0 where
  pub entry : Entry
  pub about : Message

-- what was done so far, the newest first
abbrev pub History : Type 0
History = List Step
