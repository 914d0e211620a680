-- tank: a level that patch messages set and ask for, and that a state keeps (LV2 patch, LV2 state, LV2 worker).
use Rattle.std.specs.Prelude.{ℕ, ◌-◌, ◌==◌, if◌then◌else◌, Bool, true, false, ◌&&◌, List, [], ◌∷◌, ◌++◌, length, Result, Ok, Err}
use Rattle.interaction.specs.Interaction.{Interaction, done, ask}
use Rattle.plugin_decl.specs.declared.declaration.Port.{Port}
use Rattle.state_store.specs.declared.prop.Prop.{Prop}
use Rattle.atom_sequence.specs.Event.{Event}
use Rattle.plug_api.specs.Signal.{sound, events}
use Rattle.plug_api.specs.Inputs.{Inputs, Outputs, events_at, room_at}
use Rattle.plug_api.specs.Roles.{has_audio, has_atom}
use Rattle.plug_api.specs.Meaning.{FrontMeaning, BackMeaning}
use Rattle.stock_state.specs.Levels.{level_in, stored, saved}
use Rattle.stock_tank.specs.declared.front.TankFront.{TankFront}
use Rattle.stock_tank.specs.declared.back.TankBack.{TankBack}
use Rattle.stock_tank.specs.declared.job.Job.{Job}
use Rattle.stock_tank.specs.declared.job.Job.TheVariants.{Set, Restore, Other}
use Rattle.stock_tank.specs.Jobs.{job_of, restoring}
use Rattle.stock_tank.specs.Requests.{Request, requests_in}
use Rattle.stock_tank.specs.Levels.{sets_in, level_after, jobs_for, heard_from}
use Rattle.stock_tank.specs.Answers.{answers_to, fitting, event_bytes}

-- port 0 is an atom input, port 1 an atom output, port 2 an audio output
abbrev pub has_tank_ports : List Port → Bool
has_tank_ports ports = has_atom true ports 0 && has_atom false ports 1 && has_audio false ports 2

abbrev pub tank_fits : TankFront → List Port → Bool
tank_fits front ports = has_tank_ports ports

-- these jobs are attempted in order, whatever their answers
abbrev pub attempting : {R : Type 0} → List (List ℕ) → R → Interaction R
attempting [] end = done end
attempting (job ∷ jobs) end = ask job (λ answer. attempting jobs end)

-- the sequence of port 1 has events where there are some
abbrev pub told : List Event → Outputs
told [] = []
told (e ∷ more) = (1, events (event_bytes (e ∷ more))) ∷ []

-- the answers that have room after the sequence's header, and the levels
abbrev pub tank_outputs : TankFront → Inputs → List Request → Outputs
tank_outputs front given requests =
    told (fitting (room_at given 1 - 16) (answers_to front.key front.level requests))
    ++ (2, sound (heard_from given.frames 0 front.level (sets_in requests))) ∷ []

abbrev pub tank_after : TankFront → List Request → TankFront
tank_after front requests = record front { level = level_after front.level (sets_in requests) }

-- what a run does that is asked this
abbrev pub tank_asked : TankFront → Inputs → List Request → Interaction (TankFront × Outputs)
tank_asked front given requests = attempting (jobs_for (sets_in requests)) (tank_after front requests, tank_outputs front given requests)

abbrev pub tank_run : TankFront → Inputs → Interaction (TankFront × Outputs)
tank_run front given = tank_asked front given (requests_in front.key (events_at given 0))

-- the response to a restore has eight bytes, the level
abbrev pub tank_response : TankFront → List ℕ → TankFront
tank_response front body = if length body == 8 then record front { level = level_in body } else front

abbrev pub tank_front : FrontMeaning TankFront
tank_front = record {
  fits = tank_fits;
  activate = λ front. front;
  deactivate = λ front. front;
  run = tank_run;
  response = tank_response;
  end_run = λ front. front;
}

-- a level that was set is the back's; of one that is restored the front is told by a response, and the status is that of the response
abbrev pub tank_does : TankBack → Job → Interaction (TankBack × ℕ)
tank_does back (Set body) = done (record back { level = level_in body }, 0)
tank_does back (Restore body) = ask body (λ answer. done (record back { level = level_in body }, answer))
tank_does back Other = done (back, 1)

-- the stored level is sent to the back as a job
abbrev pub tank_told : TankBack → Result (List ℕ) ℕ → Interaction (TankBack × ℕ)
tank_told back (Ok body) = ask (restoring body) (λ answer. done (back, answer))
tank_told back (Err status) = done (back, status)

abbrev pub tank_back : BackMeaning TankBack
tank_back = record {
  work = λ back body. tank_does back (job_of body);
  save = λ back mapped. saved back.key back.level mapped;
  restore_safe = λ back props. tank_told back (stored props back.key);
}

-- both parts once the stored level was taken back
abbrev pub tank_taken : TankFront → TankBack → Result (List ℕ) ℕ → TankFront × TankBack × ℕ
tank_taken front back (Ok body) = (record front { level = level_in body }, record back { level = level_in body }, 0)
tank_taken front back (Err status) = (front, back, status)

abbrev pub tank_restore : TankFront → TankBack → List (ℕ × Prop) → TankFront × TankBack × ℕ
tank_restore front back props = tank_taken front back (stored props back.key)
