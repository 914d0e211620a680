-- What `render SESSION NAME` does, and why it may not do it.
use Rattle.std.specs.Prelude.{◌≡◌, ◌≢◌, ℕ, ◌<◌, ◌≤◌, ◌⊎◌, IsTrue, List, [], ◌∷◌, ◌++◌, length, Some, None}
use Rattle.lv_outside.specs.Count.{Rose}
use Rattle.session_script.specs.declared.session.Session.{Session}
use Rattle.session_script.specs.Script.{IsSessionOf, IsFirstBroken, IsPast}
use Rattle.session_script.specs.Later.{first_later}
use Rattle.session_script.specs.declared.fault.ScriptRule.{ScriptRule}
use Rattle.session_script.specs.declared.fault.Limit.{Limit}
use Rattle.replay_core.specs.PlainRecord.{record_of}
use Rattle.replay_core.specs.Play.{Meaning, sound_of}
use Rattle.replay_core.specs.Summary.{summary_of}
use Rattle.replay_core.specs.Threading.{IsOneAtATime, calls_on, whole_life}
use Rattle.step_law.specs.declared.entry.Entry.{Entry}
use Rattle.lv_outside.specs.World.{VaultState, SinkState, LeavesFiles, IsSaid}
use Rattle.host_main.specs.Files.{rendering, HoldsAll, HoldsBefore}
use Rattle.host_main.specs.Status.{status_of, line_of, most_session_bytes}
use Rattle.host_main.specs.declared.files.Rendering.{Rendering}
use Rattle.host_main.specs.declared.refusal.Refusal.{Refusal}
use Rattle.host_main.specs.declared.refusal.Refusal.TheVariants.{Usage, Missing, ReadFailed, WriteFailed, Script, Past, Later, TooLong, NoMemory}
use Rattle.host_main.specs.declared.refusal.Target.{Target}
use Rattle.host_main.specs.declared.refusal.Target.TheVariants.{Summary}

-- A session's record is the plain one, and the sound is that of the play of this very record.
abbrev pub rendering_of : {F : Type 0} → Meaning F → List ℕ → Session → Rendering
rendering_of code name s =
    let steps = record_of s in rendering name steps (sound_of code s steps) (summary_of s steps)

-- each line of a session's script can be played so far
abbrev pub HasNoLater : List ℕ → Session → Type 0
HasNoLater bytes s = first_later bytes s ≡ None

-- a script says a session, and this is its first line that can't be played yet
pub record IsLater (bytes : List ℕ) (line : ℕ) : Type 0 where
  pub s : Session
  pub session : IsSessionOf bytes s
  pub first : first_later bytes s ≡ Some line

-- the session that was read: the text of a known file, if the files are known
pub record IsRead (path : List ℕ) (v : VaultState) (bytes : List ℕ) (s : Session) : Type 0 where
  pub session : IsSessionOf bytes s
  pub none_later : HasNoLater bytes s
  pub short : length bytes ≤ most_session_bytes
  pub found : IsTrue v.tells → v.file path ≡ Some bytes

-- The record keeps LV2's threading classes: no call lasts while another does, and on each instance come `make`, `activate`,
-- a `run` for each block, `deactivate` and `cleanup`, in this order.
pub record IsLawful (insts blocks : ℕ) (steps : List Entry) : Type 0 where
  pub one_at_a_time : IsOneAtATime steps
  pub in_order : (i : ℕ) → i < insts → calls_on i steps ≡ whole_life blocks

-- the files of the session's run stand, and its record is lawful
pub record IsRendered {F : Type 0} (code : Meaning F) (path name : List ℕ) (v v' : VaultState) (summary : List ℕ) : Type 0 where
  pub bytes : List ℕ
  pub s : Session
  pub read : IsRead path v bytes s
  pub files : IsTrue v.tells → HoldsAll (rendering_of code name s) v.file v'.file
  pub told : summary ≡ (rendering_of code name s).summary
  pub lawful : IsLawful (length s.insts) s.blocks (record_of s)

-- the work was done: the files stand, and the sink has taken the summary
abbrev pub IsDone : {F : Type 0} → Meaning F → List ℕ → List ℕ → VaultState → VaultState → SinkState → SinkState → Type 0
IsDone code path name v v' k k' =
    (summary : List ℕ) × IsRendered code path name v v' summary × (IsTrue k.tells → k'.taken ≡ k.taken ++ summary)

-- Why a script says no session that can be played so far. Want of memory has no cause.
abbrev pub IsNoSession : List ℕ → Refusal → Type 0
IsNoSession bytes (Script line rule) = IsFirstBroken bytes line rule
IsNoSession bytes (Past which number) = IsPast bytes which number
IsNoSession bytes (Later line) = IsLater bytes line
IsNoSession bytes NoMemory = Unit {0}
IsNoSession bytes refusal = ⊥

-- Why no session was read. Want of memory has no cause.
abbrev pub IsUnread : List ℕ → VaultState → VaultState → Refusal → Type 0
IsUnread path v v' Missing = Rose v.absences v'.absences × (IsTrue v.tells → v.file path ≡ None)
IsUnread path v v' ReadFailed = Rose v.faults v'.faults
IsUnread path v v' TooLong =
    Rose v.longs v'.longs
    × (IsTrue v.tells → (bytes : List ℕ) × (v.file path ≡ Some bytes) × (most_session_bytes < length bytes))
IsUnread path v v' (Script line rule) =
    (bytes : List ℕ) × IsFirstBroken bytes line rule × (length bytes ≤ most_session_bytes) × (IsTrue v.tells → v.file path ≡ Some bytes)
IsUnread path v v' (Past which number) =
    (bytes : List ℕ) × IsPast bytes which number × (length bytes ≤ most_session_bytes) × (IsTrue v.tells → v.file path ≡ Some bytes)
IsUnread path v v' (Later line) =
    (bytes : List ℕ) × IsLater bytes line × (length bytes ≤ most_session_bytes) × (IsTrue v.tells → v.file path ≡ Some bytes)
IsUnread path v v' NoMemory = Unit {0}
IsUnread path v v' Usage = ⊥
IsUnread path v v' (WriteFailed target) = ⊥

-- A write to the vault failed: what stands before it holds what it should, and all else is as before.
pub record IsUnwritten {F : Type 0} (code : Meaning F) (path name : List ℕ) (v v' : VaultState) (target : Target) : Type 0 where
  pub bytes : List ℕ
  pub s : Session
  pub read : IsRead path v bytes s
  pub fault : Rose v.faults v'.faults
  pub left : IsTrue v.tells → HoldsBefore target (rendering_of code name s) v.file v'.file

-- Why the files weren't written. What comes before the first write leaves every file as it was.
abbrev pub IsUnrendered : {F : Type 0} → Meaning F → List ℕ → List ℕ → VaultState → VaultState → Refusal → Type 0
IsUnrendered code path name v v' (WriteFailed Summary) = ⊥
IsUnrendered code path name v v' (WriteFailed target) = IsUnwritten code path name v v' target
IsUnrendered code path name v v' refusal = IsUnread path v v' refusal × LeavesFiles v v'

-- Why the work wasn't done: the files weren't written, or they stand and the sink failed.
abbrev pub IsCaused : {F : Type 0} → Meaning F → List ℕ → List ℕ → VaultState → VaultState → SinkState → SinkState → Refusal → Type 0
IsCaused code path name v v' k k' (WriteFailed Summary) =
    Rose k.faults k'.faults × ((summary : List ℕ) × IsRendered code path name v v' summary)
IsCaused code path name v v' k k' refusal = IsUnrendered code path name v v' refusal

-- What a refusal leaves of the sink before its line is put: only a failed summary has reached it.
abbrev pub LeavesSink : Refusal → SinkState → SinkState → Type 0
LeavesSink (WriteFailed Summary) k k' = Rose k.faults k'.faults
LeavesSink refusal k k' = k' ≡ k

-- Every answer is 0 with the work done, or the status of a refusal that has its cause and whose line was put.
abbrev pub Explains : {F : Type 0} → Meaning F → List ℕ → List ℕ → VaultState → VaultState → SinkState → SinkState → ℕ → Type 0
Explains code path name v v' k k' answer =
    ((answer ≡ 0) × IsDone code path name v v' k k')
    ⊎ ((refusal : Refusal) × (answer ≡ status_of refusal) × IsCaused code path name v v' k k' refusal × IsSaid k k' (line_of path name refusal))

-- an answer is one of these
abbrev pub IsOneOf : ℕ → List ℕ → Type 0
IsOneOf answer [] = ⊥
IsOneOf answer (one ∷ more) = (answer ≡ one) ⊎ IsOneOf answer more

-- The answer of `render SESSION NAME`, both ways: each answer has its cause, and what a known file holds leaves no answer
-- but its own, a failed read and want of memory. Where the session is accepted, a failed write may come too.
pub record AnswersRender {F : Type 0} (code : Meaning F) (path name : List ℕ) (v v' : VaultState) (k k' : SinkState) (answer : ℕ) : Type 0 where
  pub explained : Explains code path name v v' k k' answer
  pub absent : IsTrue v.tells → v.file path ≡ None → IsOneOf answer (2 ∷ 3 ∷ 14 ∷ [])
  pub long : IsTrue v.tells → (bytes : List ℕ) → v.file path ≡ Some bytes → most_session_bytes < length bytes → IsOneOf answer (9 ∷ 3 ∷ 14 ∷ [])
  pub broken : IsTrue v.tells → (bytes : List ℕ) (line : ℕ) (rule : ScriptRule) → v.file path ≡ Some bytes → length bytes ≤ most_session_bytes
      → IsFirstBroken bytes line rule → IsOneOf answer (7 ∷ 3 ∷ 14 ∷ [])
  pub past : IsTrue v.tells → (bytes : List ℕ) (which : Limit) (number : ℕ) → v.file path ≡ Some bytes → length bytes ≤ most_session_bytes
      → IsPast bytes which number → IsOneOf answer (9 ∷ 3 ∷ 14 ∷ [])
  pub later : IsTrue v.tells → (bytes : List ℕ) (line : ℕ) → v.file path ≡ Some bytes → length bytes ≤ most_session_bytes
      → IsLater bytes line → IsOneOf answer (7 ∷ 3 ∷ 14 ∷ [])
  pub accepted : IsTrue v.tells → (bytes : List ℕ) (s : Session) → v.file path ≡ Some bytes → length bytes ≤ most_session_bytes
      → IsSessionOf bytes s → HasNoLater bytes s → IsOneOf answer (0 ∷ 3 ∷ 4 ∷ 14 ∷ [])
  pub formed : answer ≢ 1
