-- keep: a level that a state keeps, with a control value added.
use Rattle.std.specs.Prelude.{ℕ, Bool, true, false, ◌&&◌, List, [], ◌∷◌, replicate, Result, Ok, Err}
use Rattle.interaction.specs.Interaction.{Interaction, done}
use Rattle.plugin_decl.specs.declared.declaration.Port.{Port}
use Rattle.state_store.specs.declared.prop.Prop.{Prop}
use Rattle.plug_api.specs.Signal.{sound}
use Rattle.plug_api.specs.Inputs.{Inputs, Outputs, value_at}
use Rattle.plug_api.specs.Roles.{has_audio, has_control}
use Rattle.plug_api.specs.Meaning.{FrontMeaning, BackMeaning}
use Rattle.stock_state.specs.declared.keep.KeepFront.{KeepFront}
use Rattle.stock_state.specs.declared.keep.KeepBack.{KeepBack}
use Rattle.stock_state.specs.Levels.{heard, level_in, stored, saved}

-- port 0 is an audio output, port 1 a control input
abbrev pub keep_fits : KeepFront → List Port → Bool
keep_fits front ports = has_audio false ports 0 && has_control true ports 1

-- the level and the value, in each frame
abbrev pub keep_run : KeepFront → Inputs → Interaction (KeepFront × Outputs)
keep_run front given = done (front, (0, sound (replicate given.frames (heard front.level (value_at given 1)))) ∷ [])

abbrev pub keep_front : FrontMeaning KeepFront
keep_front = record {
  fits = keep_fits;
  activate = λ front. front;
  deactivate = λ front. front;
  run = keep_run;
  response = λ front body. front;
  end_run = λ front. front;
}

-- it does no jobs, and takes nothing back beside the runs
abbrev pub keep_back : BackMeaning KeepBack
keep_back = record {
  work = λ back body. done (back, 1);
  save = λ back mapped. saved back.key back.level mapped;
  restore_safe = λ back props. done (back, 1);
}

-- both parts once the stored level was taken back
abbrev pub keep_taken : KeepFront → KeepBack → Result (List ℕ) ℕ → KeepFront × KeepBack × ℕ
keep_taken front back (Ok body) = (record front { level = level_in body }, record back { level = level_in body }, 0)
keep_taken front back (Err status) = (front, back, status)

abbrev pub keep_restore : KeepFront → KeepBack → List (ℕ × Prop) → KeepFront × KeepBack × ℕ
keep_restore front back props = keep_taken front back (stored props back.key)
