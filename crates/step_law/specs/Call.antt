-- The calls on an instance: their numbers and names.
use Rattle.std.specs.Prelude.{ℕ, List, [], ◌∷◌, Option, slice_get, codes}
use Rattle.step_law.specs.declared.call.Call.{Call}
use Rattle.step_law.specs.declared.call.Call.TheVariants.{Run, Response, EndRun, Work, Save, RestoreSafe, Make, Activate, Deactivate, Cleanup, Restore}

-- the number of a call in an entry
abbrev pub call_number : Call → ℕ
call_number Run = 0
call_number Response = 1
call_number EndRun = 2
call_number Work = 3
call_number Save = 4
call_number RestoreSafe = 5
call_number Make = 6
call_number Activate = 7
call_number Deactivate = 8
call_number Cleanup = 9
call_number Restore = 10

-- the call with a number, if there is one
abbrev pub call_at : ℕ → Option Call
call_at =
    slice_get
    (Run ∷ Response ∷ EndRun ∷ Work ∷ Save ∷ RestoreSafe ∷ Make ∷ Activate ∷ Deactivate ∷ Cleanup ∷ Restore ∷ [])

-- how a line names a call
abbrev pub call_name : Call → List ℕ
call_name Run = codes "run"
call_name Response = codes "response"
call_name EndRun = codes "end_run"
call_name Work = codes "work"
call_name Save = codes "save"
call_name RestoreSafe = codes "restore_safe"
call_name Make = codes "make"
call_name Activate = codes "activate"
call_name Deactivate = codes "deactivate"
call_name Cleanup = codes "cleanup"
call_name Restore = codes "restore"
