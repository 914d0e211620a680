-- Where an instance's outputs stand: in the list of their kind, one after the other.
use Rattle.std.specs.Prelude.{ℕ, Bool, false, not, ◌&&◌, List, [], length, map, filter, take, replicate, Option, unwrap_or}
use Rattle.plugin_decl.specs.declared.declaration.Port.{Port}
use Rattle.plugin_decl.specs.declared.declaration.PortKind.{PortKind}
use Rattle.plugin_decl.specs.declared.declaration.PortKind.TheVariants.{Audio, Cv, Control, Atom, Unsupported}
use Rattle.plug_api.specs.Buffers.{Left, begun_forge}
use Rattle.plug_api.specs.Inputs.{Outputs}
use Rattle.plug_api.specs.Roles.{is_sound, is_control, is_atom}
use Rattle.plug_api.specs.Running.{with_outputs}
use Rattle.plug_api.specs.Signal.{nought}
use Rattle.plug_api.specs.Sound.{silence}

-- the kinds that stand in one list with a kind: audio and CV have one, each other kind its own
abbrev pub beside : PortKind → PortKind → Bool
beside Audio other = is_sound other
beside Cv other = is_sound other
beside Control other = is_control other
beside Atom other = is_atom other
beside Unsupported other = false

-- the outputs of such kinds
abbrev pub is_output_of : (PortKind → Bool) → Port → Bool
is_output_of kind port = not port.input && kind port.kind

abbrev pub outputs_among : (PortKind → Bool) → List Port → List Port
outputs_among kind ports = filter (is_output_of kind) ports

-- as many outputs of its list stand before a port
abbrev pub place_in : List Port → Port → ℕ
place_in ports port = length (outputs_among (beside port.kind) (take port.index ports))

abbrev pub places_of : List Port → List ℕ
places_of ports = map (place_in ports) ports

-- the outputs before a run: silence, the values 0, and sequences without events
abbrev pub quiet_outs : ℕ → List Port → Left
quiet_outs frames ports = record {
  blocks = replicate (length (outputs_among is_sound ports)) (silence frames);
  values = replicate (length (outputs_among is_control ports)) nought;
  forges = map (λ (port : Port). begun_forge port.room) (outputs_among is_atom ports);
}

-- the outputs after a run that gave this, if there was one
abbrev pub outs_after : ℕ → List Port → Option Outputs → Left
outs_after frames ports given = with_outputs (places_of ports) (quiet_outs frames ports) (unwrap_or given [])
