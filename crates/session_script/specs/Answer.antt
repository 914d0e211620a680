-- What the reader's calls answer.
use Rattle.std.specs.Prelude.{◌≡◌, ◌≢◌, ◌⊎◌, ℕ, List, length, Result, Ok, Err, Some, None}
use Rattle.session_script.specs.declared.session.Session.{Session}
use Rattle.session_script.specs.declared.draft.Draft.{Draft}
use Rattle.session_script.specs.declared.keyword.Section.TheVariants.{Start}
use Rattle.session_script.specs.declared.fault.ScriptRule.TheVariants.{Head}
use Rattle.session_script.specs.declared.fault.ScriptFault.{ScriptFault}
use Rattle.session_script.specs.declared.fault.ScriptFault.TheVariants.{Bad, Limit, NoMemory}
use Rattle.session_script.specs.Line.{Line}
use Rattle.session_script.specs.Draft.{draft_of}
use Rattle.session_script.specs.Limits.{passed}
use Rattle.session_script.specs.Script.{AreWell, IsWhole, IsFirstIn, IsBlank, IsFirstBroken, IsPast, session_from, session_of}

-- why bytes are no session; want of memory has no cause in the script
abbrev pub Refuses : List ℕ → ScriptFault → Type 0
Refuses script (Bad line rule) = IsFirstBroken script line rule
Refuses script (Limit which number) = IsPast script which number
Refuses script NoMemory = Unit {0}

-- this session, unless memory was refused
abbrev pub IsSessionOrNoMemory : Session → Result Session ScriptFault → Type 0
IsSessionOrNoMemory session (Ok read) = read ≡ session
IsSessionOrNoMemory session (Err fault) = fault ≡ NoMemory

-- this fault, unless memory was refused
abbrev pub IsFaultOrNoMemory : ScriptFault → Result Session ScriptFault → Type 0
IsFaultOrNoMemory wanted (Ok read) = ⊥
IsFaultOrNoMemory wanted (Err fault) = (fault ≡ wanted) ⊎ (fault ≡ NoMemory)

-- what all lines say together, or the first that breaks a rule
abbrev pub ReadsLines : List Line → Result Draft ScriptFault → Type 0
ReadsLines ls (Ok draft) = AreWell ls (length ls) × (draft ≡ draft_of ls)
ReadsLines ls (Err (Bad n rule)) = IsFirstIn ls n rule
ReadsLines ls (Err (Limit which number)) = ⊥
ReadsLines ls (Err NoMemory) = Unit {0}

-- the session of a draft, if a line counts and no limit is passed
abbrev pub Finishes : Draft → Result Session ScriptFault → Type 0
Finishes draft (Ok session) = (draft.section ≢ Start) × (session ≡ session_from draft) × (passed session ≡ None)
Finishes draft (Err (Bad n rule)) = (draft.section ≡ Start) × (n ≡ 1) × (rule ≡ Head)
Finishes draft (Err (Limit which number)) = (draft.section ≢ Start) × (passed (session_from draft) ≡ Some (which, number))
Finishes draft (Err NoMemory) = ⊥

-- the session of the lines of a text, or why there is none
abbrev pub ReadsText : List Line → Result Session ScriptFault → Type 0
ReadsText ls (Ok session) = IsWhole ls × (session ≡ session_of ls) × (passed session ≡ None)
ReadsText ls (Err (Bad n rule)) = IsFirstIn ls n rule ⊎ IsBlank ls n rule
ReadsText ls (Err (Limit which number)) = IsWhole ls × (passed (session_of ls) ≡ Some (which, number))
ReadsText ls (Err NoMemory) = Unit {0}
