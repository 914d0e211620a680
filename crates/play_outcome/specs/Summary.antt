-- The summary of a play: its sizes, what each instance did, what it answered, and how the actions went.
use Rattle.std.specs.Prelude.{ℕ, suc, ◌+◌, ◌*◌, ◌&&◌, Bool, not, if◌then◌else◌, List, [], ◌∷◌, ◌++◌, length, filter, flat_map, codes, decimal, slice_get, Option, unwrap_or}
use Rattle.std.specs.Fmt.{signed_decimal}
use Rattle.std.specs.Option.{option_map_or}
use Rattle.plugin_decl.specs.declared.declaration.Port.{Port}
use Rattle.session_script.specs.declared.session.Action.{Action}
use Rattle.session_script.specs.declared.session.Inst.{Inst}
use Rattle.session_script.specs.declared.session.Session.{Session}
use Rattle.step_law.specs.declared.actor.Actor.TheVariants.{Control}
use Rattle.step_law.specs.declared.call.Call.TheVariants as call
use Rattle.step_law.specs.declared.entry.Kind.TheVariants.{Take, Send}
use Rattle.step_law.specs.declared.ring.Ring.TheVariants.{AudioToControl, Jobs, Responses, LocalJobs}
use Rattle.graph_order.specs.Ports.{is_control}
use Rattle.plug_api.specs.Signal.{control, nought, value_in}
use Rattle.plug_api.specs.Inputs.{Outputs, signal_after}
use Rattle.record_law.specs.Entries.{is_by, is_on}
use Rattle.record_law.specs.History.{count}
use Rattle.record_law.specs.Message.{Message}
use Rattle.record_law.specs.Message.Message.{notice}
use Rattle.play_outcome.specs.Counts.{ended, refused, lost, entries, late_from, failures}
use Rattle.play_outcome.specs.Endings.{status_of}
use Rattle.session_play.specs.Looking.{steps_of, outputs_of}
use Rattle.play_outcome.specs.Messages.{notice_text}
use Rattle.session_play.specs.Run.{Run}
use Rattle.play_outcome.specs.Saves.{saves_of, numbered}
use Rattle.session_play.specs.SessionShape.{shape_of}
use Rattle.graph_order.specs.declared.setup.Setup.{Setup}
use Rattle.session_play.specs.Setup.{ports_of}
use Rattle.session_play.specs.Value.{Moment, Play, body_in}

-- a count after its name
abbrev pub counted : List ℕ → ℕ → List ℕ
counted name number = name ++ decimal number

abbrev pub count_line : List ℕ → ℕ → List ℕ
count_line name number = counted name number ++ codes "\n"

-- the name of an instance
abbrev pub name_of : Setup → ℕ → List ℕ
name_of setup inst = option_map_or (λ (it : Inst). it.name) (slice_get setup.session.insts inst) []

-- the frames and channels of the sound
abbrev pub size_line : Session → List ℕ
size_line session = counted (codes "frames ") (session.block * session.blocks) ++ count_line (codes " channels ") (length session.outs)

-- ---- instances

-- what became of the jobs of an instance
abbrev pub jobs_part : {F B : Type 0} → Play F B → ℕ → List ℕ
jobs_part p inst =
    let h = steps_of p in
    counted (codes " jobs ") (count Send (Jobs inst) h + count Send (LocalJobs inst) h)
    ++ counted (codes " refused ") (refused (Jobs inst) h + refused (LocalJobs inst) h)
    ++ counted (codes " worked ") (ended call.Work inst h)

-- what became of the responses to it
abbrev pub responses_part : {F B : Type 0} → Play F B → ℕ → List ℕ
responses_part p inst =
    let h = steps_of p in
    counted (codes " responses ") (count Send (Responses inst) h)
    ++ counted (codes " dropped ") (refused (Responses inst) h)
    ++ counted (codes " delivered ") (ended call.Response inst h)

abbrev pub inst_line : {F B : Type 0} → Setup → Play F B → ℕ → List ℕ
inst_line setup p inst =
    codes "inst " ++ name_of setup inst
    ++ counted (codes " runs ") (ended call.Run inst (steps_of p))
    ++ jobs_part p inst
    ++ responses_part p inst
    ++ count_line (codes " errors ") (failures inst p)

-- the value of a control output after the last run, 0 before any
abbrev pub value_line : Setup → ℕ → Outputs → Port → List ℕ
value_line setup inst outputs port =
    codes "value " ++ name_of setup inst ++ codes " " ++ port.symbol ++ codes " "
    ++ signed_decimal ((value_in (signal_after (control nought) outputs port.index)).0) ++ codes "\n"

abbrev pub is_shown : Port → Bool
is_shown port = not port.input && is_control port.kind

abbrev pub inst_lines : {F B : Type 0} → Setup → Play F B → ℕ → List ℕ
inst_lines setup p inst =
    inst_line setup p inst ++ flat_map (value_line setup inst (unwrap_or (outputs_of inst p) [])) (filter is_shown (ports_of setup inst))

-- the instances from one on
abbrev pub lines_from : {F B : Type 0} → Setup → Play F B → ℕ → List Inst → List ℕ
lines_from setup p inst [] = []
lines_from setup p inst (it ∷ later) = inst_lines setup p inst ++ lines_from setup p (suc inst) later

-- ---- notices, in order of control's takes

abbrev pub notice_line : Setup → List (List ℕ) → Message → List ℕ → List ℕ
notice_line setup urids (notice inst) body = codes "notice " ++ name_of setup inst ++ notice_text urids body ++ codes "\n"
notice_line setup urids message body = []

abbrev pub taken_line : {F B : Type 0} → Setup → List (List ℕ) → Moment F B → List ℕ
taken_line setup urids x = if is_by Control x.step.entry && is_on Take AudioToControl x.step.entry then notice_line setup urids x.step.about (body_in x.value) else []

abbrev pub notice_lines : {F B : Type 0} → Setup → List (List ℕ) → Play F B → List ℕ
notice_lines setup urids [] = []
notice_lines setup urids (x ∷ p) = notice_lines setup urids p ++ taken_line setup urids x

-- ---- restores, in order of the session

abbrev pub restore_line : Setup → ℕ → Option ℕ → List ℕ
restore_line setup inst status = option_map_or (λ it. codes "restore " ++ name_of setup inst ++ count_line (codes " ") it) status []

abbrev pub restore_lines : {F B : Type 0} → Setup → Play F B → ℕ → List Action → List ℕ
restore_lines setup p action [] = []
restore_lines setup p action (it ∷ later) = restore_line setup it.inst (status_of p action) ++ restore_lines setup p (suc action) later

-- ---- the whole

abbrev pub last_lines : {F B : Type 0} → Setup → Play F B → List ℕ
last_lines setup p =
    count_line (codes "saves ") (length (saves_of setup p))
    ++ count_line (codes "late ") (late_from (steps_of p) 0 (shape_of setup).actions)
    ++ count_line (codes "lost ") (lost (steps_of p))
    ++ count_line (codes "entries ") (entries (steps_of p))

-- the summary of a play, under a command's name
abbrev pub summary_of : {F B : Type 0} → Run F B → List ℕ → Play F B → List ℕ
summary_of run command p =
    codes "lv2fx " ++ command ++ codes "\n"
    ++ size_line run.setup.session
    ++ lines_from run.setup p 0 run.setup.session.insts
    ++ notice_lines run.setup (numbered run p) p
    ++ restore_lines run.setup p 0 run.setup.session.actions
    ++ last_lines run.setup p
