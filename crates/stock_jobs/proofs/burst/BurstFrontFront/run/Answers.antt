-- A run attempts its jobs, and writes its counts and its level.
use Rattle.std.proofs.Common.{◌≡◌, ◌∙◌, ℕ, false, List, [], ◌∷◌, replicate, length, ap, refl}
use Rattle.std.proofs.lemmas.Bool.{and_parts}
use Rattle.std.proofs.lemmas.List.{length-replicate}
use Rattle.lv_base.specs.declared.number.Fixed.{Fixed}
use Rattle.lv_base.specs.declared.number.Sample.{Sample}
use Rattle.lv_base.specs.Number.{sample_of}
use Rattle.interaction.specs.Attempts.{Attempt, Plays}
use Rattle.plug_api.specs.Signal.{sound, control}
use Rattle.plug_api.specs.Inputs.{Inputs}
use Rattle.plug_api.specs.Buffers.{with_block, block_at}
use Rattle.plug_api.specs.Ports.{ports_of, ins_of, outs_of, place_of, inputs_of}
use Rattle.plug_api.proofs.Lent.{audio_sounds}
use Rattle.plug_api.proofs.Written.{Wrote, wrote_none, wrote_sound, wrote_control, block_silent}
use Rattle.stock_jobs.specs.declared.burst.BurstFront.{BurstFront}
use Rattle.stock_jobs.specs.Counts.{wholes, steps}
use Rattle.stock_jobs.specs.Burst.{jobs_of, size_of, whole, within, burst_run, Bursts}
use Rattle.stock_jobs.proofs.burst.BurstFrontFront.run.Goals as goal

plays : (front new : BurstFront) (given : Inputs) (jobs size : ℕ) (attempts : List Attempt) (taken refused : Fixed) (level : Sample)
    → jobs ≡ jobs_of given → size ≡ size_of given → Bursts jobs size front attempts new → taken ≡ wholes new.taken
    → refused ≡ wholes new.refused → level ≡ sample_of (steps new.responses)
    → Plays (burst_run front given) attempts
    (new, (2, control taken) ∷ (3, control refused) ∷ (4, sound (replicate given.frames level)) ∷ [])
plays front new given jobs size attempts taken refused level jobs_are size_is goes taken_is refused_is level_is =
    rw (← jobs_are, ← size_is, taken_is, refused_is, level_is) (goes given)

pub returns-clause-ran : goal.returns-clause-ran
returns-clause-ran g c =
    let lent = c.args.ports.now in
    let front = c.args.self.now in
    let made = c.attempt.ensures in
    let ports = and_parts _ _ c.requires.fits in
    let controls = and_parts _ _ (and_parts _ _ ports.0).1 in
    let level : List Sample = replicate (ins_of lent).frames c.to_sample.result in
    let heard = audio_sounds false (ports_of lent) 4 ports.1 in
    let first : Wrote lent c.set_value.new.self ((2, control c.value-3.result) ∷ []) =
    wrote_control 2 c.value-3.result (wrote_none lent) refl controls.0 c.set_value.ensures.same_loan c.set_value.ensures.outputs in
    let second : Wrote lent c.set_value-2.new.self ((2, control c.value-3.result) ∷ (3, control c.value-4.result) ∷ []) =
    wrote_control 3 c.value-4.result first refl controls.1 c.set_value-2.ensures.same_loan c.set_value-2.ensures.outputs in
    let frames : length (block_at (outs_of c.set_value-2.new.self).blocks (place_of c.set_value-2.new.self 4)) ≡ (ins_of lent).frames =
    ap length (block_silent 4 c.requires.lent second heard refl) ∙ length-replicate _ _ in
    let third : Wrote lent c.fill.new.ports
    ((2, control c.value-3.result) ∷ (3, control c.value-4.result) ∷ (4, sound level) ∷ []) =
    wrote_sound 4 level second refl heard (length-replicate _ _) c.fill.ensures.same_loan
    (c.fill.ensures.outputs
    ∙ ap (λ n. with_block (outs_of c.set_value-2.new.self) (place_of c.set_value-2.new.self 4) (replicate n c.to_sample.result)) frames) in (
      made.0,
      (2, control c.value-3.result) ∷ (3, control c.value-4.result) ∷ (4, sound level) ∷ [],
      made.1,
      plays front c.attempt.new.self (inputs_of lent) c.whole_within-jobs.result c.whole_within-size.result made.0 c.value-3.result c.value-4.result
          c.to_sample.result (c.whole_within-jobs.ensures.value ∙ ap (λ v. within 20 (whole v)) c.value.ensures)
          (c.whole_within-size.ensures.value ∙ ap (λ v. within 300 (whole v)) c.value-2.ensures) made.2 c.value-3.ensures c.value-4.ensures
          (c.to_sample.ensures ∙ ap sample_of c.steps.ensures),
      third.fit,
      third.outs,
    )
