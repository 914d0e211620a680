-- burst: a run schedules as many jobs as it is told, of the size that it is told (LV2 worker: schedule_work, work, respond, work_response).
use Rattle.std.specs.Prelude.{ℕ, zero, suc, ℤ, pos, negsuc, min, ◌+◌, Bool, true, false, ◌&&◌, List, [], ◌∷◌, take, replicate}
use Rattle.std.specs.Int.{int_shr}
use Rattle.lv_base.specs.declared.number.Fixed.{Fixed}
use Rattle.lv_base.specs.Number.{sample_of}
use Rattle.interaction.specs.Interaction.{Interaction, done, ask}
use Rattle.interaction.specs.Attempts.{Attempt, Plays}
use Rattle.plugin_decl.specs.declared.declaration.Port.{Port}
use Rattle.plug_api.specs.Signal.{sound, control}
use Rattle.plug_api.specs.Inputs.{Inputs, Outputs, value_at}
use Rattle.plug_api.specs.Roles.{has_audio, has_control}
use Rattle.plug_api.specs.Meaning.{FrontMeaning, BackMeaning}
use Rattle.stock_jobs.specs.declared.burst.BurstFront.{BurstFront}
use Rattle.stock_jobs.specs.Counts.{counted, wholes, steps, tallied}

-- ports 0 and 1 are control inputs, ports 2 and 3 control outputs, port 4 an audio output
abbrev pub burst_fits : BurstFront → List Port → Bool
burst_fits front ports =
    (has_control true ports 0 && has_control true ports 1) && (has_control false ports 2 && has_control false ports 3) && has_audio false ports 4

-- a number brought into 0 to the most
abbrev pub within : ℕ → ℤ → ℕ
within most (pos n) = min n most
within most (negsuc n) = 0

-- the whole of a control value, rounded down
abbrev pub whole : Fixed → ℤ
whole value = int_shr value.0 24

-- how many jobs, and of how many bytes
abbrev pub jobs_of : Inputs → ℕ
jobs_of given = within 20 (whole (value_at given 0))

abbrev pub size_of : Inputs → ℕ
size_of given = within 300 (whole (value_at given 1))

-- an attempt was answered; 0 is LV2_WORKER_SUCCESS, 2 LV2_WORKER_ERR_NO_SPACE
abbrev pub answered : BurstFront → ℕ → BurstFront
answered front answer = record front { taken = tallied 0 answer front.taken; refused = tallied 2 answer front.refused }

-- how many were taken and refused so far, and 2^-8 for each response
abbrev pub burst_outputs : BurstFront → Inputs → Outputs
burst_outputs front given =
    (2, control (wholes front.taken)) ∷ (3, control (wholes front.refused))
    ∷ (4, sound (replicate given.frames (sample_of (steps front.responses)))) ∷ []

-- so many attempts more, from the one with this number on: each byte of a body is the number
abbrev pub burst_from : ℕ → ℕ → Inputs → BurstFront → ℕ → Interaction (BurstFront × Outputs)
burst_from zero size given front number = done (front, burst_outputs front given)
burst_from (suc more) size given front number =
    ask (replicate size number) (λ answer. burst_from more size given (answered front answer) (number + 1))

abbrev pub burst_run : BurstFront → Inputs → Interaction (BurstFront × Outputs)
burst_run front given = burst_from (jobs_of given) (size_of given) given front 0

-- these attempts were made, and what the run gives follows from the front that they left
abbrev pub Bursts : ℕ → ℕ → BurstFront → List Attempt → BurstFront → Type 0
Bursts jobs size front attempts new =
    (given : Inputs) → Plays (burst_from jobs size given front 0) attempts (new, burst_outputs new given)

-- any response counts
abbrev pub burst_response : BurstFront → List ℕ → BurstFront
burst_response front body = record front { responses = counted front.responses }

abbrev pub burst_front : FrontMeaning BurstFront
burst_front = record {
  fits = burst_fits;
  activate = λ front. front;
  deactivate = λ front. front;
  run = burst_run;
  response = burst_response;
  end_run = λ front. front;
}

-- a job is answered by its first byte, or by nothing where it has none; the status is that of the response
abbrev pub burst_work : {B : Type 0} → B → List ℕ → Interaction (B × ℕ)
burst_work back body = ask (take 1 body) (λ answer. done (back, answer))

-- nothing is stored, and nothing is taken back
abbrev pub burst_back : {B : Type 0} → BackMeaning B
burst_back = record {
  work = burst_work;
  save = λ back mapped. (1, []);
  restore_safe = λ back props. done (back, 1);
}
