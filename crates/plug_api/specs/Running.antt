-- What a run does to its front, its ports and its scheduler.
use Rattle.std.specs.Prelude.{◌≡◌, ℕ, ◌+◌, ◌≤◌, ◌==◌, Bool, true, false, IsTrue, List, [], ◌∷◌, length, slice_index, if◌then◌else◌}
use Rattle.interaction.specs.Interaction.{Interaction}
use Rattle.interaction.specs.Attempts.{Attempt, Plays}
use Rattle.atom_forge.specs.Forged.{with_piece}
use Rattle.plugin_decl.specs.declared.declaration.Port.{Port}
use Rattle.plug_api.specs.declared.ports.Ports.{Ports}
use Rattle.plug_api.specs.Signal.{Signal, sound, control, events, nothing}
use Rattle.plug_api.specs.Inputs.{Inputs, Outputs}
use Rattle.plug_api.specs.Buffers.{Left, forge_at, with_block, with_value, with_forge}
use Rattle.plug_api.specs.Roles.{has_sound, has_control, has_atom}
use Rattle.plug_api.specs.Sequences.{AreEventBytes}
use Rattle.plug_api.specs.Ports.{ports_of, places_of, outs_of, inputs_of, room_of}

-- the outputs with a signal at the place of port i; events are put after those that stand there
abbrev pub with_signal : List ℕ → Left → ℕ → Signal → Left
with_signal places outs i (sound block) = with_block outs (slice_index places i) block
with_signal places outs i (control value) = with_value outs (slice_index places i) value
with_signal places outs i (events bytes) =
    with_forge outs (slice_index places i) (with_piece (forge_at outs.forges (slice_index places i)) bytes false)
with_signal places outs i nothing = outs

-- the outputs with all that a run gives
abbrev pub with_outputs : List ℕ → Left → Outputs → Left
with_outputs places outs [] = outs
with_outputs places outs (write ∷ writes) = with_outputs places (with_signal places outs write.0 write.1) writes

-- a signal that an output port can have: a sample for each frame, a value, or events of the block that its sequence has room for
abbrev pub IsOutput : List Port → ℕ → ℕ → Signal → Type 0
IsOutput ports frames i (sound block) = IsTrue (has_sound false ports i) × (length block ≡ frames)
IsOutput ports frames i (control value) = IsTrue (has_control false ports i)
IsOutput ports frames i (events bytes) = IsTrue (has_atom false ports i) × (16 + length bytes ≤ room_of ports i) × AreEventBytes frames bytes
IsOutput ports frames i nothing = ⊥

-- a port is named in a run's outputs
abbrev pub names : Outputs → ℕ → Bool
names [] i = false
names (write ∷ writes) i = if write.0 == i then true else names writes i

-- each signal is one that its port can have, and no port is named twice
abbrev pub AreOutputs : List Port → ℕ → Outputs → Type 0
AreOutputs ports frames [] = Unit {0}
AreOutputs ports frames (write ∷ writes) =
    IsOutput ports frames write.0 write.1 × (names writes write.0 ≡ false) × AreOutputs ports frames writes

-- A run makes some attempts, and with their answers it becomes the front and gives the outputs that its meaning says. It writes these outputs,
-- and nothing else.
abbrev pub Runs : {F S : Type 0} → (F → Inputs → Interaction (F × Outputs)) → (S → List Attempt → S → Type 0) → F → Ports → S → F → Ports → S → Type 0
Runs run went front lent sched new_front new_lent new_sched =
    (attempts : List Attempt) × (outputs : Outputs) × went sched attempts new_sched
    × Plays (run front (inputs_of lent)) attempts (new_front, outputs) × AreOutputs (ports_of lent) (inputs_of lent).frames outputs
    × (outs_of new_lent ≡ with_outputs (places_of lent) (outs_of lent) outputs)

-- A call of a back makes some attempts, and with their answers it becomes the back and answers the status that its meaning says.
abbrev pub Works : {B S : Type 0} → Interaction (B × ℕ) → (S → List Attempt → S → Type 0) → S → B → ℕ → S → Type 0
Works call went answer new_back status new_answer =
    (attempts : List Attempt) × went answer attempts new_answer × Plays call attempts (new_back, status)

-- it can run over the same ports as before
abbrev pub FitsSame : {F : Type 0} → (F → List Port → Bool) → F → F → Type 0
FitsSame fits old new = (ports : List Port) → fits new ports ≡ fits old ports
