-- fetch: each run schedules a job with its number, whose response is the level of the sound that follows (LV2 worker: schedule_work, work,
-- respond, work_response).
use Rattle.std.specs.Prelude.{ℕ, ℤ, ◌+◌, ◌*◌, ◌%◌, ◌^◌, ◌==◌, Bool, false, ◌&&◌, if◌then◌else◌, List, [], ◌∷◌, length, replicate}
use Rattle.std.specs.Int.{w64, cast_signed, from_le_bytes, to_le_bytes}
use Rattle.lv_base.specs.Number.{sample_of}
use Rattle.interaction.specs.Interaction.{Interaction, done, ask}
use Rattle.plugin_decl.specs.declared.declaration.Port.{Port}
use Rattle.plug_api.specs.Signal.{sound, control}
use Rattle.plug_api.specs.Inputs.{Inputs, Outputs}
use Rattle.plug_api.specs.Roles.{has_audio, has_control}
use Rattle.plug_api.specs.Meaning.{FrontMeaning, BackMeaning}
use Rattle.stock_jobs.specs.declared.fetch.FetchFront.{FetchFront}
use Rattle.stock_jobs.specs.Counts.{counted, wholes, tallied}

-- port 0 is an audio output, port 1 a control output
abbrev pub fetch_fits : FetchFront → List Port → Bool
fetch_fits front ports = has_audio false ports 0 && has_control false ports 1

-- a number in eight bytes, the low one first
abbrev pub number_in : List ℕ → ℕ
number_in bytes = from_le_bytes w64 bytes

-- the same, signed
abbrev pub signed_in : List ℕ → ℤ
signed_in bytes = cast_signed w64 (number_in bytes)

-- a run's attempt was answered; the status 2 is LV2_WORKER_ERR_NO_SPACE
abbrev pub fetched : FetchFront → ℕ → FetchFront
fetched front answer = record front { jobs = counted front.jobs; refused = tallied 2 answer front.refused }

-- the level in each frame, and how often the queue was full
abbrev pub fetch_outputs : FetchFront → Inputs → Outputs
fetch_outputs front given = (0, sound (replicate given.frames front.level)) ∷ (1, control (wholes front.refused)) ∷ []

-- one attempt, whose body is the number of the job
abbrev pub fetch_run : FetchFront → Inputs → Interaction (FetchFront × Outputs)
fetch_run front given =
    ask (to_le_bytes w64 front.jobs) (λ answer. done (fetched front answer, fetch_outputs (fetched front answer) given))

-- a response of eight bytes is the level, as a control value
abbrev pub fetch_response : FetchFront → List ℕ → FetchFront
fetch_response front body =
    if length body == 8 then record front { level = sample_of (record { 0 = signed_in body }) } else front

abbrev pub fetch_front : FrontMeaning FetchFront
fetch_front = record {
  fits = fetch_fits;
  activate = λ front. front;
  deactivate = λ front. front;
  run = fetch_run;
  response = fetch_response;
  end_run = λ front. front;
}

-- the level that the job with a number asks for: 2^-8 for each number, from 2^-8 on, and none after 2^24
abbrev pub level_for : ℕ → ℕ
level_for number = 65536 * ((number + 1) % 2 ^ 24)

-- a job of eight bytes is answered by the level, in eight bytes; the status is that of the response, 1 (LV2_WORKER_ERR_UNKNOWN) for others
abbrev pub fetch_work : {B : Type 0} → B → List ℕ → Interaction (B × ℕ)
fetch_work back body =
    if length body == 8 then ask (to_le_bytes w64 (level_for (number_in body))) (λ answer. done (back, answer)) else done (back, 1)

-- nothing is stored, and nothing is taken back
abbrev pub fetch_back : {B : Type 0} → BackMeaning B
fetch_back = record {
  work = fetch_work;
  save = λ back mapped. (1, []);
  restore_safe = λ back props. done (back, 1);
}
