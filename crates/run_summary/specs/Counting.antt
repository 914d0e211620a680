-- What an entry counts for, and the counts of an instance with one more.
use Rattle.std.specs.Prelude.{ℕ, ◌+◌, ◌<◌, ◌^◌, ◌==◌, if◌then◌else◌, Bool, true, not, ◌&&◌, ◌||◌, List, slice_set, Option, Some, None}
use Rattle.step_law.specs.declared.call.Call.{Call}
use Rattle.step_law.specs.declared.call.Call.TheVariants as call
use Rattle.step_law.specs.declared.entry.Entry.{Entry}
use Rattle.step_law.specs.declared.entry.Kind.{Kind}
use Rattle.step_law.specs.declared.entry.Kind.TheVariants.{Take, Send, Full, Long, End, Last}
use Rattle.step_law.specs.declared.ring.Ring.{Ring}
use Rattle.step_law.specs.declared.ring.Ring.TheVariants as ring
use Rattle.step_law.specs.Call.{call_at}
use Rattle.step_law.specs.Ring.{ring_at}
use Rattle.record_law.specs.Entries.{is_kind, is_on}
use Rattle.record_law.specs.Message.{Message}
use Rattle.record_law.specs.Message.Message.{input}
use Rattle.session_play.specs.Notices.{is_notice}
use Rattle.run_summary.specs.declared.counter.Counter.{Counter}
use Rattle.run_summary.specs.declared.counter.Counter.TheVariants.{Runs, Jobs, Refused, Worked, Responses, Dropped, Delivered, Errors}
use Rattle.run_summary.specs.declared.counter.InstTally.{InstTally}

-- ---- counts

abbrev pub none : InstTally
none = record { runs = 0; jobs = 0; refused = 0; worked = 0; responses = 0; dropped = 0; delivered = 0; errors = 0 }

abbrev pub count_in : Counter → InstTally → ℕ
count_in Runs it = it.runs
count_in Jobs it = it.jobs
count_in Refused it = it.refused
count_in Worked it = it.worked
count_in Responses it = it.responses
count_in Dropped it = it.dropped
count_in Delivered it = it.delivered
count_in Errors it = it.errors

abbrev pub one_up : Counter → InstTally → InstTally
one_up Runs it = record it { runs = it.runs + 1 }
one_up Jobs it = record it { jobs = it.jobs + 1 }
one_up Refused it = record it { refused = it.refused + 1 }
one_up Worked it = record it { worked = it.worked + 1 }
one_up Responses it = record it { responses = it.responses + 1 }
one_up Dropped it = record it { dropped = it.dropped + 1 }
one_up Delivered it = record it { delivered = it.delivered + 1 }
one_up Errors it = record it { errors = it.errors + 1 }

-- ---- entries

-- a message was sent
abbrev pub sent_on : Ring → Option (ℕ × Counter)
sent_on (ring.Jobs inst) = Some (inst, Jobs)
sent_on (ring.LocalJobs inst) = Some (inst, Jobs)
sent_on (ring.Responses inst) = Some (inst, Responses)
sent_on other = None

-- a message was refused
abbrev pub refused_on : Ring → Option (ℕ × Counter)
refused_on (ring.Jobs inst) = Some (inst, Refused)
refused_on (ring.LocalJobs inst) = Some (inst, Refused)
refused_on (ring.Responses inst) = Some (inst, Dropped)
refused_on other = None

-- a call ended
abbrev pub counter_of : Option Call → Option Counter
counter_of (Some call.Run) = Some Runs
counter_of (Some call.Work) = Some Worked
counter_of (Some call.Response) = Some Delivered
counter_of other = None

abbrev pub of_inst : ℕ → Option Counter → Option (ℕ × Counter)
of_inst inst None = None
of_inst inst (Some counter) = Some (inst, counter)

abbrev pub ended : ℕ → ℕ → Option (ℕ × Counter)
ended call inst = of_inst inst (counter_of (call_at call))

abbrev pub counted_at : Kind → ℕ → ℕ → Option (ℕ × Counter)
counted_at Send a b = sent_on (ring_at a)
counted_at Full a b = refused_on (ring_at a)
counted_at Long a b = refused_on (ring_at a)
counted_at End a b = ended a b
counted_at kind a b = None

-- an instance, and what is counted of it
abbrev pub counted_for : Entry → Option (ℕ × Counter)
counted_for e = counted_at e.kind e.a e.b

-- what that makes of the counts of an instance
abbrev pub raised_by : Option (ℕ × Counter) → ℕ → InstTally → InstTally
raised_by None inst it = it
raised_by (Some (other, counter)) inst it = if other == inst then one_up counter it else it

-- what is counted can be one more
abbrev pub HasRoom : Option (ℕ × Counter) → (ℕ → InstTally) → Type 0
HasRoom None f = Unit {0}
HasRoom (Some (inst, counter)) f = count_in counter (f inst) + 1 < 2 ^ 64

-- it is no end of a record
abbrev pub is_step : Entry → Bool
is_step e = not (is_kind Last e)

-- a message is refused
abbrev pub is_refusal : Entry → Bool
is_refusal e = is_kind Full e || is_kind Long e

-- a notice is lost
abbrev pub is_lost : Entry → Message → Bool
is_lost e about = is_refusal e && is_notice about

-- the action whose value or message audio takes
abbrev pub input_in : Message → Option ℕ
input_in (input action) = Some action
input_in message = None

abbrev pub input_taken : Entry → Message → Option ℕ
input_taken e about = if is_on Take ring.ControlToAudio e then input_in about else None

-- whether audio took what actions send, once it took that of one
abbrev pub taken_with : Option ℕ → List Bool → List Bool
taken_with None taken = taken
taken_with (Some action) taken = slice_set taken action true
