-- A session script: the session that it says, or the first rule that its first broken line breaks, or the first limit that it
-- passes.
use Rattle.std.specs.Prelude.{◌≡◌, ◌≢◌, ◌⊎◌, ℕ, ◌+◌, ◌-◌, ◌<◌, ◌≤◌, ◌==◌, List, length, take, slice_index_or, unwrap_or, count_by, IsUtf8, Option, None, Some}
use Rattle.std.specs.Str.Lossy.{utf8_valid_len}
use Rattle.session_script.specs.declared.session.Session.{Session}
use Rattle.session_script.specs.declared.draft.Draft.{Draft}
use Rattle.session_script.specs.declared.keyword.Section.TheVariants.{Start}
use Rattle.session_script.specs.declared.fault.ScriptRule.{ScriptRule}
use Rattle.session_script.specs.declared.fault.ScriptRule.TheVariants.{Utf8, Head}
use Rattle.session_script.specs.declared.fault.Limit.{Limit}
use Rattle.session_script.specs.Line.{Line, lines_of}
use Rattle.session_script.specs.Line.Line.{skipped}
use Rattle.session_script.specs.Draft.{draft_of, reached}
use Rattle.session_script.specs.Rules.{broken_rule}
use Rattle.session_script.specs.Limits.{workers_or_default, blocks_or_default, passed}

-- line k, counted from 0
abbrev pub line_at : List Line → ℕ → Line
line_at ls k = slice_index_or ls k skipped

-- the first rule that line k breaks, seen from the lines before it
abbrev pub rule_at : List Line → ℕ → Option ScriptRule
rule_at ls k = broken_rule (draft_of (take k ls)) (line_at ls k)

-- none of the first n lines breaks a rule
abbrev pub AreWell : List Line → ℕ → Type 0
AreWell ls n = (k : ℕ) → k < n → rule_at ls k ≡ None

-- no line breaks a rule, and one counts
pub record IsWhole (ls : List Line) : Type 0 where
  pub well : AreWell ls (length ls)
  pub begun : reached ls ≢ Start

-- the session of a draft: a setting that doesn't stand has its default
abbrev pub session_from : Draft → Session
session_from draft = record {
  rate = unwrap_or draft.numbers.rate 48000;
  block = unwrap_or draft.numbers.block 256;
  blocks = blocks_or_default draft.numbers;
  workers = workers_or_default draft.numbers;
  cells = unwrap_or draft.numbers.cells 8;
  reserve = draft.numbers.reserve;
  bundles = draft.bundles;
  insts = draft.insts;
  sets = draft.sets;
  cables = draft.cables;
  outs = draft.outs;
  actions = draft.actions;
}

-- the session that lines say
abbrev pub session_of : List Line → Session
session_of ls = session_from (draft_of ls)

-- the bytes are a script without a broken line, which passes no limit, and say this session
pub record IsSessionOf (script : List ℕ) (session : Session) : Type 0 where
  pub utf8 : IsUtf8 script
  pub whole : IsWhole (lines_of script)
  pub value : session ≡ session_of (lines_of script)
  pub limited : passed session ≡ None

-- the line of the first bad byte of a file that isn't UTF-8
abbrev pub bad_line : List ℕ → ℕ
bad_line script = count_by (λ byte. byte == 10) (take (utf8_valid_len script) script) + 1

-- line n is the first that breaks a rule, and this is the first rule that it breaks
pub record IsFirstIn (ls : List Line) (n : ℕ) (rule : ScriptRule) : Type 0 where
  pub counted : 1 ≤ n
  pub there : n ≤ length ls
  pub before : AreWell ls (n - 1)
  pub broken : rule_at ls (n - 1) ≡ Some rule

-- no line counts
pub record IsBlank (ls : List Line) (n : ℕ) (rule : ScriptRule) : Type 0 where
  pub well : AreWell ls (length ls)
  pub empty : reached ls ≡ Start
  pub first : n ≡ 1
  pub head : rule ≡ Head

-- the bytes aren't UTF-8, which goes before all else
pub record IsNoText (script : List ℕ) (n : ℕ) (rule : ScriptRule) : Type 0 where
  pub bad : ¬ IsUtf8 script
  pub line : n ≡ bad_line script
  pub utf8 : rule ≡ Utf8

-- n is the first line of a script that breaks a rule, and this is the first rule that it breaks
abbrev pub IsFirstBroken : List ℕ → ℕ → ScriptRule → Type 0
IsFirstBroken script n rule =
    IsNoText script n rule ⊎ (IsUtf8 script × (IsFirstIn (lines_of script) n rule ⊎ IsBlank (lines_of script) n rule))

-- no line is broken, and this is the first limit that the script passes, with the number that passes it
pub record IsPast (script : List ℕ) (which : Limit) (number : ℕ) : Type 0 where
  pub utf8 : IsUtf8 script
  pub whole : IsWhole (lines_of script)
  pub past : passed (session_of (lines_of script)) ≡ Some (which, number)

-- a script says a session, or it has a first broken line, or it passes a limit
abbrev pub HasAnswer : List ℕ → Type 0
HasAnswer script =
    ((session : Session) × IsSessionOf script session)
    ⊎ (((line : ℕ) × (rule : ScriptRule) × IsFirstBroken script line rule)
    ⊎ ((which : Limit) × (number : ℕ) × IsPast script which number))
