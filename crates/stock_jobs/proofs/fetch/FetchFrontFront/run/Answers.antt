-- A run writes its level, attempts a job, and writes the count.
use Rattle.std.proofs.Common.{◌≡◌, ◌∙◌, ℕ, false, List, [], ◌∷◌, replicate, ap, refl}
use Rattle.std.proofs.lemmas.Bool.{and_parts}
use Rattle.std.proofs.lemmas.List.{length-replicate}
use Rattle.std.specs.Int.{w64, to_le_bytes}
use Rattle.lv_base.specs.declared.number.Fixed.{Fixed}
use Rattle.lv_base.specs.declared.number.Sample.{Sample}
use Rattle.interaction.specs.Attempts.{Plays}
use Rattle.plug_api.specs.Signal.{sound, control}
use Rattle.plug_api.specs.Inputs.{Inputs}
use Rattle.plug_api.specs.Buffers.{with_block}
use Rattle.plug_api.specs.Ports.{ports_of, ins_of, outs_of, place_of, inputs_of}
use Rattle.plug_api.proofs.Lent.{audio_sounds}
use Rattle.plug_api.proofs.Written.{Wrote, wrote_none, wrote_sound, wrote_control}
use Rattle.stock_jobs.specs.declared.fetch.FetchFront.{FetchFront}
use Rattle.stock_jobs.specs.Counts.{wholes}
use Rattle.stock_jobs.specs.Fetch.{fetched, fetch_run}
use Rattle.stock_jobs.proofs.fetch.FetchFrontFront.run.Goals as goal

plays : (front new : FetchFront) (given : Inputs) (body : List ℕ) (answer : ℕ) (value : Fixed) → body ≡ to_le_bytes w64 front.jobs
    → new ≡ fetched front answer → value ≡ wholes new.refused
    → Plays (fetch_run front given) (record { body = body; answer = answer } ∷ [])
    (new, (0, sound (replicate given.frames front.level)) ∷ (1, control value) ∷ [])
plays front new given body answer value said now told = (said, rw (told, now) refl)

pub returns-clause-ran : goal.returns-clause-ran
returns-clause-ran g c =
    let lent = c.args.ports.now in
    let front = c.args.self.now in
    let ports = and_parts _ _ c.requires.fits in
    let level : List Sample = replicate (ins_of lent).frames front.level in
    let heard = audio_sounds false (ports_of lent) 0 ports.0 in
    let first : Wrote lent c.fill.new.ports ((0, sound level) ∷ []) =
    wrote_sound 0 level (wrote_none lent) refl heard (length-replicate _ _) c.fill.ensures.same_loan
    (c.fill.ensures.outputs
    ∙ ap (λ n. with_block (outs_of lent) (place_of lent 0) (replicate n front.level)) (c.requires.lent.outputs.sounds 0 heard).whole) in
    let second : Wrote lent c.set_value.new.self ((0, sound level) ∷ (1, control c.value.result) ∷ []) =
    wrote_control 1 c.value.result first refl ports.1 c.set_value.ensures.same_loan c.set_value.ensures.outputs in (
      record { body = c.to_le_bytes.result; answer = c.schedule_work-answer.result } ∷ [],
      (0, sound level) ∷ (1, control c.value.result) ∷ [],
      c.schedule_work-answer.ensures,
      plays front c.count.new.self (inputs_of lent) c.to_le_bytes.result c.schedule_work-answer.result c.value.result
          (c.to_le_bytes.ensures ∙ ap (to_le_bytes w64) c.number.ensures.value) c.count.ensures c.value.ensures,
      second.fit,
      second.outs,
    )
