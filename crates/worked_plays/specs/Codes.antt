-- Five codes to play worked records with: a constant, an amplifier, one that works in each block, one that works in bursts, and one that answers.
use Rattle.std.specs.Prelude.{ℕ, zero, suc, true, ◌+◌, ◌*◌, ◌==◌, List, [], ◌∷◌, map, replicate, slice_index_or, if◌then◌else◌, pos, codes, None}
use Rattle.std.specs.Int.{w64, to_le_bytes, cast_signed}
use Rattle.std.specs.Str.{bytes_eq}
use Rattle.lv_base.specs.declared.number.Fixed.{Fixed}
use Rattle.lv_base.specs.declared.number.Sample.{Sample}
use Rattle.lv_base.specs.Number.{sample_of, gained}
use Rattle.interaction.specs.Interaction.{Interaction, done, ask}
use Rattle.atom_core.specs.Place.{wide_at}
use Rattle.atom_core.specs.Value.{urid, fixed, object, keyed, plain, holding, none, part}
use Rattle.atom_sequence.specs.Event.{Event}
use Rattle.plug_api.specs.Sound.{silent}
use Rattle.plug_api.specs.Signal.{Signal, sound, control, events}
use Rattle.plug_api.specs.Inputs.{Inputs, Outputs, samples_at, value_at}
use Rattle.session_play.specs.EventBytes.{bytes_of}
use Rattle.session_play.specs.Patch.{set_type, property_key, value_key}
use Rattle.session_play.specs.Signals.{at_start}
use Rattle.plug_api.specs.Meaning.{FrontMeaning, BackMeaning, CodesMeaning, Making, made, refused}

pub data Front : Type 0 where
  constant : Front
  amplifier : Front
  -- the jobs that it attempted, those that found no space, and the level of the last response
  fetch : (jobs lost : ℕ) → Sample → Front
  -- the jobs that were taken and those that found no space
  burst : (taken lost : ℕ) → Front
  -- it answers the same in each block
  teller : Front

pub data Back : Type 0 where
  idle : Back
  fetcher : Back
  burster : Back

-- 1.0 times a count
abbrev pub ones : ℕ → Fixed
ones count = record { 0 = pos (16777216 * count) }

-- one more, where an answer is this one
abbrev pub counted : (answer wanted : ℕ) → ℕ → ℕ
counted answer wanted before = if answer == wanted then suc before else before

-- an output that has the same sample in each frame
abbrev pub steady : Inputs → ℕ → Sample → ℕ × Signal
steady given port sample = (port, sound (replicate given.frames sample))

-- ---- runs

abbrev pub fetched : Inputs → (jobs lost : ℕ) → Sample → Front × Outputs
fetched given jobs lost level = (fetch jobs lost level, steady given 0 level ∷ (1, control (ones lost)) ∷ [])

-- so many jobs of one byte, numbered from one on
abbrev pub bursting : Inputs → (left number taken lost : ℕ) → Interaction (Front × Outputs)
bursting given zero number taken lost = done (burst taken lost, (2, control (ones taken)) ∷ (3, control (ones lost)) ∷ steady given 4 silent ∷ [])
bursting given (suc left) number taken lost =
    ask (replicate 8 number) (λ answer. bursting given left (suc number) (counted answer 0 taken) (counted answer 2 lost))

-- a patch:Set of property 1 to 0.25
abbrev pub answer_told : Event
answer_told =
    at_start (holding (object 0 set_type) (part (keyed property_key 0) (plain (urid 1)) (part (keyed value_key 0) (plain (fixed (pos 4194304))) none)))

abbrev pub run_of : Front → Inputs → Interaction (Front × Outputs)
run_of constant given = done (constant, steady given 1 (sample_of (value_at given 0)) ∷ [])
run_of amplifier given = done (amplifier, (2, sound (map (λ sample. gained sample (value_at given 0)) (samples_at given 1))) ∷ [])
run_of (fetch jobs lost level) given = ask (to_le_bytes w64 jobs) (λ answer. done (fetched given (suc jobs) (counted answer 2 lost) level))
run_of (burst taken lost) given = bursting given 3 0 taken lost
run_of teller given = done (teller, (0, events (bytes_of (answer_told ∷ []))) ∷ [])

abbrev pub response_of : Front → List ℕ → Front
response_of (fetch jobs lost level) body = fetch jobs lost (sample_of (record { 0 = cast_signed w64 (wide_at body 0) }))
response_of front body = front

abbrev pub fronts : FrontMeaning Front
fronts = record {
  fits = λ front ports. true;
  activate = λ front. front;
  deactivate = λ front. front;
  run = run_of;
  response = response_of;
  end_run = λ front. front;
}

-- ---- works

abbrev pub work_of : Back → List ℕ → Interaction (Back × ℕ)
work_of idle body = done (idle, 1)
work_of fetcher body = ask (to_le_bytes w64 (65536 * (wide_at body 0 + 1))) (λ answer. done (fetcher, answer))
work_of burster body = ask (slice_index_or body 0 0 ∷ []) (λ answer. done (burster, answer))

abbrev pub backs : BackMeaning Back
backs = record { work = work_of; save = λ back mapped. (1, []); restore_safe = λ back properties. done (back, 1) }

-- ---- making

abbrev pub parts_of : List ℕ → List (List ℕ) → Making Front Back
parts_of uri urids =
    if bytes_eq uri (codes "urn:lv2fx:const") then made constant idle urids
    else if bytes_eq uri (codes "urn:lv2fx:amp") then made amplifier idle urids
    else if bytes_eq uri (codes "urn:lv2fx:fetch") then made (fetch 0 0 silent) fetcher urids
    else if bytes_eq uri (codes "urn:lv2fx:burst") then made (burst 0 0) burster urids
    else if bytes_eq uri (codes "urn:example:teller") then made teller idle urids else refused 0

abbrev pub makers : CodesMeaning Front Back
makers = record {
  text = λ uri. None;
  make = λ decl rate options urids. parts_of decl.uri urids;
  restore = λ front back properties. (front, back, 1);
}
