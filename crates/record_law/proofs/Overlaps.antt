-- Which calls may overlap, by their classes.
use Rattle.std.proofs.Common.{◌≡◌, Bool, true, false, ◌&&◌, refl, sym, ◌∙◌, true≢false}
use Rattle.std.proofs.lemmas.Bool.{and_left, and_right, or_from}
use Rattle.step_law.specs.declared.call.Call.{Call}
use Rattle.step_law.specs.declared.call.Call.TheVariants.{Run, Response, EndRun}
use Rattle.step_law.specs.Form.{audio_calls, worker_calls}
use Rattle.record_law.specs.Threading.{may_overlap, NoneOverlapsItsClass, InstantiationIsAlone}

-- what audio makes no worker makes
not_both : (call : Call) → audio_calls call ≡ true → worker_calls call ≡ false
not_both Run e = refl
not_both Response e = refl
not_both EndRun e = refl
not_both call e = absurd (true≢false (sym e))

pub none_overlaps : NoneOverlapsItsClass
none_overlaps call other same = by (audio_calls call) refl
  where
    by : (b : Bool) → audio_calls call ≡ b → may_overlap call other ≡ false
    by true e =
        or_from (audio_calls call && worker_calls other) (worker_calls call && audio_calls other)
        (and_right (audio_calls call) (worker_calls other) (not_both other (sym same ∙ e)))
        (and_left (worker_calls call) (audio_calls other) (not_both call e))
    by false e =
        or_from (audio_calls call && worker_calls other) (worker_calls call && audio_calls other)
        (and_left (audio_calls call) (worker_calls other) e)
        (and_right (worker_calls call) (audio_calls other) (sym same ∙ e))

pub instantiation_alone : InstantiationIsAlone
instantiation_alone call other audio worker = (
  or_from (audio_calls call && worker_calls other) (worker_calls call && audio_calls other)
      (and_left (audio_calls call) (worker_calls other) audio) (and_left (worker_calls call) (audio_calls other) worker),
  or_from (audio_calls other && worker_calls call) (worker_calls other && audio_calls call)
      (and_right (audio_calls other) (worker_calls call) worker) (and_right (worker_calls other) (audio_calls call) audio),
)
