-- The summary of a run: its sizes, and what each instance did, counted in the record.
use Rattle.std.specs.Prelude.{ℕ, ◌*◌, ◌==◌, Bool, true, false, ◌&&◌, ◌||◌, List, [], ◌++◌, length, map, count_by, slice_index_or, codes, decimal}
use Rattle.session_script.specs.declared.session.Session.{Session}
use Rattle.session_script.specs.declared.session.Inst.{Inst}
use Rattle.step_law.specs.declared.call.Call.{Call}
use Rattle.step_law.specs.declared.call.Call.TheVariants.{Run, Response, Work}
use Rattle.step_law.specs.declared.entry.Entry.{Entry}
use Rattle.step_law.specs.declared.entry.Kind.{Kind}
use Rattle.step_law.specs.declared.entry.Kind.TheVariants.{Send, Full, Long, End, Last}
use Rattle.step_law.specs.declared.ring.Ring.{Ring}
use Rattle.step_law.specs.declared.ring.Ring.TheVariants.{Jobs, Responses, LocalJobs}
use Rattle.step_record.specs.Call.{call_number}
use Rattle.step_record.specs.Ring.{ring_number}
use Rattle.replay_core.specs.Each.{each}

-- the end of a call
abbrev pub is_end : Kind → Bool
is_end End = true
is_end _ = false

-- a message went on a ring
abbrev pub is_send : Kind → Bool
is_send Send = true
is_send _ = false

-- a message was refused: the ring was full, or a cell too short
abbrev pub is_refusal : Kind → Bool
is_refusal Full = true
is_refusal Long = true
is_refusal _ = false

-- something that happened, and not the end of the record
abbrev pub is_event : Kind → Bool
is_event Last = false
is_event _ = true

-- how often a call on an instance has ended
abbrev pub ended : Call → ℕ → List Entry → ℕ
ended call inst steps = count_by (λ e. is_end e.kind && ((e.a == call_number call) && (e.b == inst))) steps

-- how many messages a ring, or a second one, took; how many it refused
abbrev pub sent : Ring → Ring → List Entry → ℕ
sent ring second steps =
    count_by (λ e. is_send e.kind && ((e.a == ring_number ring) || (e.a == ring_number second))) steps

abbrev pub refused : Ring → Ring → List Entry → ℕ
refused ring second steps =
    count_by (λ e. is_refusal e.kind && ((e.a == ring_number ring) || (e.a == ring_number second))) steps

-- how many things happened
abbrev pub events : List Entry → ℕ
events steps = count_by (λ e. is_event e.kind) steps

-- a count after its name
abbrev pub counted : List ℕ → ℕ → List ℕ
counted name count = name ++ decimal count

-- what became of the jobs of an instance
abbrev pub jobs_part : ℕ → List Entry → List ℕ
jobs_part i steps =
    counted (codes " jobs ") (sent (Jobs i) (LocalJobs i) steps)
    ++ counted (codes " refused ") (refused (Jobs i) (LocalJobs i) steps)
    ++ counted (codes " worked ") (ended Work i steps)

-- what became of the responses to it
abbrev pub responses_part : ℕ → List Entry → List ℕ
responses_part i steps =
    counted (codes " responses ") (sent (Responses i) (Responses i) steps)
    ++ counted (codes " dropped ") (refused (Responses i) (Responses i) steps)
    ++ counted (codes " delivered ") (ended Response i steps)

-- the line of an instance; none of the codes so far has a `work` that could fail
abbrev pub inst_line : List ℕ → ℕ → List Entry → List ℕ
inst_line name i steps =
    codes "inst " ++ name
    ++ counted (codes " runs ") (ended Run i steps)
    ++ jobs_part i steps
    ++ responses_part i steps
    ++ codes " errors 0\n"

-- the name of instance i
abbrev pub name_at : Session → ℕ → List ℕ
name_at s i = slice_index_or (map (λ (inst : Inst). inst.name) s.insts) i []

-- the frames and channels of the sound
abbrev pub size_line : Session → List ℕ
size_line s =
    counted (codes "frames ") (s.block * s.blocks) ++ counted (codes " channels ") (length s.outs) ++ codes "\n"

-- no session so far has an action, so nothing is saved, late or lost
abbrev pub last_lines : ℕ → List ℕ
last_lines entries =
    codes "saves 0\n" ++ codes "late 0\n" ++ codes "lost 0\n" ++ counted (codes "entries ") entries ++ codes "\n"

-- the line of each instance
abbrev pub inst_lines : Session → List Entry → List ℕ
inst_lines s steps = each (length s.insts) (λ i. inst_line (name_at s i) i steps)

-- the summary of a session's run with this record
abbrev pub summary_of : Session → List Entry → List ℕ
summary_of s steps = codes "lv2fx render\n" ++ size_line s ++ inst_lines s steps ++ last_lines (events steps)
