-- The statuses, and the lines that are put with them.
use Rattle.std.specs.Prelude.{ℕ, List, ◌++◌, codes, decimal}
use Rattle.host_main.specs.declared.refusal.Refusal.{Refusal}
use Rattle.host_main.specs.declared.refusal.Refusal.TheVariants.{Usage, Missing, ReadFailed, WriteFailed, Script, Past, Later, TooLong, NoMemory}
use Rattle.session_script.specs.declared.fault.ScriptRule.{ScriptRule}
use Rattle.session_script.specs.declared.fault.ScriptRule.TheVariants.{Utf8, Head, Word, Order, Twice, Count, Number, Range, Name, Same, Unknown, Path, Iri, Block, Form}
use Rattle.session_script.specs.declared.fault.Limit.{Limit}
use Rattle.session_script.specs.declared.fault.Limit.TheVariants.{Bundles, Instances, Cables, Outputs, Actions, Saves, Samples}
use Rattle.session_script.specs.declared.fault.ScriptFault.{ScriptFault}
use Rattle.session_script.specs.declared.fault.ScriptFault.TheVariants.{Bad, Limit as Over, NoMemory as Want}
use Rattle.host_main.specs.declared.refusal.Target.{Target}
use Rattle.host_main.specs.declared.refusal.Target.TheVariants.{Record, Sound, State, Summary}

abbrev pub status_of : Refusal → ℕ
status_of Usage = 1
status_of Missing = 2
status_of ReadFailed = 3
status_of (WriteFailed target) = 4
status_of (Script line rule) = 7
status_of (Later line) = 7
status_of (Past which number) = 9
status_of TooLong = 9
status_of NoMemory = 14

-- the most bytes of a session, 16 MiB
abbrev pub most_session_bytes : ℕ
most_session_bytes = 16777216

-- what each written thing is called: its path, or `-` for the summary
abbrev pub name_of : Target → List ℕ → List ℕ
name_of Record name = name ++ codes ".rec"
name_of Sound name = name ++ codes ".pcm"
name_of State name = name ++ codes ".ttl"
name_of Summary name = codes "-"

abbrev pub usage_line : List ℕ
usage_line = codes "lv2fx: 1 usage: check BUNDLE | render SESSION OUT | play SESSION OUT | replay SESSION RECORD OUT | gen NUMBER OUT\n"

abbrev pub no_memory_line : List ℕ
no_memory_line = codes "lv2fx: 14 no memory\n"

-- what each rule of a script is called
abbrev pub rule_text : ScriptRule → List ℕ
rule_text Utf8 = codes "utf8"
rule_text Head = codes "head"
rule_text Word = codes "word"
rule_text Order = codes "order"
rule_text Twice = codes "twice"
rule_text Count = codes "count"
rule_text Number = codes "number"
rule_text Range = codes "range"
rule_text Name = codes "name"
rule_text Same = codes "same"
rule_text Unknown = codes "unknown"
rule_text Path = codes "path"
rule_text Iri = codes "iri"
rule_text Block = codes "block"
rule_text Form = codes "form"

-- what each limit of a session is called
abbrev pub limit_text : Limit → List ℕ
limit_text Bundles = codes "bundles"
limit_text Instances = codes "instances"
limit_text Cables = codes "cables"
limit_text Outputs = codes "outputs"
limit_text Actions = codes "actions"
limit_text Saves = codes "saves"
limit_text Samples = codes "samples"

abbrev pub rule_end : ScriptRule → List ℕ
rule_end rule = codes " " ++ (rule_text rule ++ codes "\n")

abbrev pub limit_front : Limit → List ℕ
limit_front which = codes "lv2fx: 9 limit " ++ (limit_text which ++ codes " ")

-- the line of a refusal of `render SESSION NAME`
abbrev pub line_of : List ℕ → List ℕ → Refusal → List ℕ
line_of session name Usage = usage_line
line_of session name Missing = codes "lv2fx: 2 missing " ++ (session ++ codes "\n")
line_of session name ReadFailed = codes "lv2fx: 3 read failed " ++ (session ++ codes "\n")
line_of session name (WriteFailed target) = codes "lv2fx: 4 write failed " ++ (name_of target name ++ codes "\n")
line_of session name (Script line rule) = codes "lv2fx: 7 script line " ++ (decimal line ++ rule_end rule)
line_of session name (Later line) = codes "lv2fx: 7 script line " ++ (decimal line ++ codes " later\n")
line_of session name (Past which number) = limit_front which ++ (decimal number ++ codes "\n")
line_of session name TooLong = codes "lv2fx: 9 limit file 16777216\n"
line_of session name NoMemory = no_memory_line

-- the refusal of what the reader of scripts answers
abbrev pub refusal_of : ScriptFault → Refusal
refusal_of (Bad line rule) = Script line rule
refusal_of (Over which number) = Past which number
refusal_of Want = NoMemory
