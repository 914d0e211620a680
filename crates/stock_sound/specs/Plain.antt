-- Codes without a worker and a state.
use Rattle.std.specs.Prelude.{ℕ, Bool, List, [], ◌∷◌}
use Rattle.interaction.specs.Interaction.{done}
use Rattle.lv_base.specs.declared.number.Sample.{Sample}
use Rattle.plugin_decl.specs.declared.declaration.Port.{Port}
use Rattle.plug_api.specs.Signal.{sound}
use Rattle.plug_api.specs.Inputs.{Inputs}
use Rattle.plug_api.specs.Meaning.{FrontMeaning, BackMeaning}
use Rattle.stock_sound.specs.declared.idle.Idle.{Idle}

-- a front that always plays alike: over which ports, and what at which output
abbrev pub playing : (F : Type 0) → (List Port → Bool) → ℕ → (Inputs → List Sample) → FrontMeaning F
playing F ports out play = record {
  fits = λ front. ports;
  activate = λ front. front;
  deactivate = λ front. front;
  run = λ front given. done (front, (out, sound (play given)) ∷ []);
  response = λ front body. front;
  end_run = λ front. front;
}

-- a back of which nothing is asked: it answers 1, an unknown error (LV2 worker and state)
abbrev pub idle : BackMeaning Idle
idle = record {
  work = λ back body. done (back, 1);
  save = λ back mapped. (1, []);
  restore_safe = λ back props. done (back, 1);
}
