-- What an actor has still to do, as a list of tasks, and what an entry makes of the first.
use Rattle.std.specs.Prelude.{ℕ, Bool, true, false, List}
use Rattle.step_law.specs.declared.actor.Actor.{Actor}
use Rattle.step_law.specs.declared.entry.Entry.{Entry}
use Rattle.step_law.specs.declared.ring.Ring.{Ring}
use Rattle.record_law.specs.Message.{Message}

-- a stage of an action, as control does it
pub data Stage : Type 0 where
  -- control sees that a block is reached, unless it has seen it
  due : (block : ℕ) → Stage
  -- it sends audio a message, or a worker
  tell : Message → Stage
  ask : (worker : ℕ) → Message → Stage
  -- it takes what a worker answers
  hear : (worker : ℕ) → Stage
  -- it takes an instance's front from audio
  front : (inst : ℕ) → Stage
  -- it restores an instance of which it has both parts
  restoring : (action inst : ℕ) → Stage

-- A stage with the first action that stays unfinished where control's actions end at this stage.
abbrev pub Due : Type 0
Due = ℕ × Stage

pub data Task : Type 0 where
  -- this entry, about this message
  one : Entry → Message → Task
  -- a take, whatever the message
  take_from : Actor → Ring → Task
  -- up to so many attempts of a call to send a job or a response
  attempts : Actor → Ring → (most : ℕ) → Task
  -- audio: a look at what control sent, and takes of all that it showed
  look_messages : Task
  -- audio: one try to send control the front of an instance, if it was asked for
  return_front : (inst : ℕ) → Task
  -- audio: all that a block does with an instance, if its front is here
  running : (inst : ℕ) → Task
  -- audio: up to so many notices of an instance
  notices : (inst most : ℕ) → Task
  -- audio: a look at an instance's responses, and a delivery of each that it showed
  look_responses : (inst : ℕ) → Task
  -- a worker: asks and jobs as they come, until it stops
  serving : (worker : ℕ) → Task
  -- a worker: all jobs that a restore scheduled
  local_jobs : (worker inst : ℕ) → Task
  -- control: the stages of its actions
  acting : List Due → Task
  -- control: a worker is told to stop
  closing : (worker : ℕ) → Task
  -- control: what is left in a ring
  leftovers : Ring → Task

-- An entry may be refused at a task, pass it and be the next task's, or carry it out about a message and leave tasks in its place.
pub data Move : Type 0 where
  refuses : Move
  passes : Move
  goes : Message → List Task → Move

-- it has to be so; it may be so
abbrev pub only_if : Bool → Message → List Task → Move
only_if true message tasks = goes message tasks
only_if false message tasks = refuses

abbrev pub may_be : Bool → Message → List Task → Move
may_be true message tasks = goes message tasks
may_be false message tasks = passes

-- a move that isn't asked for passes
abbrev pub where_due : Bool → Move → Move
where_due true move = move
where_due false move = passes
