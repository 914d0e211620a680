-- What a code finds where its ports are lent.
use Rattle.std.proofs.Common.{◌≡◌, ℕ, ◌<◌, Bool, true, false, ◌&&◌, IsTrue, List, length, Option, Some, None, slice_get, sym, ◌∙◌, ap, refl, arith}
use Rattle.std.proofs.lemmas.Bool.{false≢true}
use Rattle.std.proofs.lemmas.Option.{slice_get_within}
use Rattle.std.proofs.Math.Logic.{∥∥₁_map}
use Rattle.atom_core.specs.Value.{holding, sequence}
use Rattle.atom_core.specs.Answer.{IsAtom}
use Rattle.plugin_decl.specs.declared.declaration.Port.{Port}
use Rattle.plugin_decl.specs.declared.declaration.PortKind.{PortKind}
use Rattle.plugin_decl.specs.declared.declaration.PortKind.TheVariants.{Audio, Cv, Control, Atom, Unsupported}
use Rattle.plugin_decl.specs.MessagePorts.{faces}
use Rattle.plug_api.specs.declared.ports.Ports.{Ports}
use Rattle.plug_api.specs.Roles.{is_audio, is_sound, port_is, has, has_audio, has_sound, has_atom}
use Rattle.plug_api.specs.Ports.{ports_of, ins_of, places_of, inputs_of, IsLent}
use Rattle.plug_api.specs.Buffers.{forge_at}
use Rattle.plug_api.specs.Inputs.{samples_at}
use Rattle.plug_api.proofs.Given.{samples_given}

-- a port that is there has a number below the count of ports
pub has_within : (kind : PortKind → Bool) (input : Bool) (ports : List Port) (i : ℕ) → has kind input ports i ≡ true → i < length ports
has_within kind input ports i h = by (slice_get ports i) refl
  where
    by : (found : Option Port) → slice_get ports i ≡ found → i < length ports
    by None e = absurd (false≢true (sym (ap (port_is kind input) e) ∙ h))
    by (Some port) e = slice_get_within ports i port e

-- an output port has a place
pub has_place : (lent : Ports) (kind : PortKind → Bool) (i : ℕ) → IsLent lent → has kind false (ports_of lent) i ≡ true → i < length (places_of lent)
has_place lent kind i is h =
    let within : i < length (ports_of lent) = has_within kind false (ports_of lent) i h in
    let same : length (places_of lent) ≡ length (ports_of lent) = is.outputs.places in omega (arith, within, same)

kind_sounds : (side : Bool) (kind : PortKind) → (side && is_audio kind) ≡ true → (side && is_sound kind) ≡ true
kind_sounds true Audio h = refl
kind_sounds true Cv h = absurd (false≢true h)
kind_sounds true Control h = absurd (false≢true h)
kind_sounds true Atom h = absurd (false≢true h)
kind_sounds true Unsupported h = absurd (false≢true h)
kind_sounds false kind h = absurd (false≢true h)

-- an audio port is one of samples
pub audio_sounds : (input : Bool) (ports : List Port) (i : ℕ) → has_audio input ports i ≡ true → has_sound input ports i ≡ true
audio_sounds input ports i h = by (slice_get ports i) h
  where
    by : (found : Option Port) → port_is is_audio input found ≡ true → port_is is_sound input found ≡ true
    by None e = absurd (false≢true e)
    by (Some port) e = kind_sounds (faces input port) port.kind e

-- an atom input has an atom
pub events_spelled : (lent : Ports) (i : ℕ) → IsLent lent → has_atom true (ports_of lent) i ≡ true
    → ∥ IsAtom (forge_at (ins_of lent).events i).bytes ∥₁
events_spelled lent i is h = ∥∥₁_map (is.inputs.sequences i h).spelled (λ a. (holding sequence a.0, a.1))

-- an input of samples has one for each frame
pub input_whole : (lent : Ports) (i : ℕ) → IsLent lent → has_sound true (ports_of lent) i ≡ true
    → length (samples_at (inputs_of lent) i) ≡ (ins_of lent).frames
input_whole lent i is h = ap length (samples_given (ins_of lent) (ports_of lent) i is.numbered h) ∙ (is.inputs.sounds i h).whole
