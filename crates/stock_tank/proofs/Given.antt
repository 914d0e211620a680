-- What the ports of a run have for it.
use Rattle.std.proofs.Common.{◌≡◌, ℕ, true, false, List, [], ◌∷◌, drop, ℤ, pos, sym, ap, ◌∙◌, subst, refl}
use Rattle.std.proofs.Math.Logic.{∥∥₁_elim, ∥∥₁_map}
use Rattle.std.proofs.Props.{props}
use Rattle.atom_core.specs.Form.{form_of}
use Rattle.atom_core.specs.Value.{sequence, timed, bare, keyed, holding, Parts, none, part}
use Rattle.atom_core.specs.Spelling.{u32}
use Rattle.atom_core.specs.Answer.{Spells}
use Rattle.atom_core.specs.Atoms.{SpellEvents}
use Rattle.atom_sequence.specs.Views.{AwaitsEvent}
use Rattle.plug_api.specs.declared.ports.Ports.{Ports}
use Rattle.plug_api.specs.Sequences.{AreInOrder}
use Rattle.plug_api.specs.Inputs.{events_at}
use Rattle.plug_api.specs.Buffers.{forge_at}
use Rattle.plug_api.specs.Roles.{is_atom, is_sound, has_audio, has_atom}
use Rattle.plug_api.specs.Ports.{ports_of, ins_of, inputs_of, IsLent}
use Rattle.plug_api.proofs.Given.{events_given}
use Rattle.plug_api.proofs.Lent.{has_place, audio_sounds}
use Rattle.stock_tank.specs.Requests.{Request, requests_of, requests_in}
use Rattle.stock_tank.specs.Playing.{AreTimed, CanPlay}
use Rattle.stock_tank.proofs.Requesting.{requests_set, requests_spelled}
use Rattle.stock_tank.proofs.Spelled.{AreFit, requests_fit}

-- the events of a sequence stand after its first 16 bytes
pub events_behind : (bytes : List ℕ) (parts : Parts) → Spells bytes (holding sequence parts) → SpellEvents (drop 16 bytes) parts
unfolding form_of u32
events_behind bytes parts spells = (spells.fits.2, ap (drop 16) spells.bytes_are)

timed_of : (key : ℕ) (from : ℤ) (frames : ℕ) (parts : Parts) → AreInOrder from frames parts → AreTimed from frames (requests_of key parts)
timed_of key from frames none ordered = tt
timed_of key from frames (part (timed time) value parts) ordered = (ordered.0, ordered.1, timed_of key time frames parts ordered.2)
timed_of key from frames (part bare value parts) ordered = absurd ordered.0
timed_of key from frames (part (keyed k context) value parts) ordered = absurd ordered.0

timed_prop : (from : ℤ) (frames : ℕ) (requests : List Request) → IsProp (AreTimed from frames requests)
timed_prop from frames [] = hlevel props
timed_prop from frames (request ∷ requests) = hlevel (props, timed_prop request.0 frames requests)

-- what was read of the events of port 0
pub record Reads (lent : Ports) (key : ℕ) (bytes : List ℕ) (requests : List Request) : Type 0 where
  pub lends : IsLent lent
  pub port : has_atom true (ports_of lent) 0 ≡ true
  pub bytes_are : bytes ≡ (forge_at (ins_of lent).events 0).bytes
  pub reads : (parts : Parts) → Spells bytes (holding sequence parts) → requests ≡ requests_of key parts

pub timed_given : (lent : Ports) (key : ℕ) (bytes : List ℕ) (requests : List Request) → Reads lent key bytes requests
    → AreTimed (pos 0) (ins_of lent).frames requests
timed_given lent key bytes requests given =
    ∥∥₁_elim (given.lends.inputs.sequences 0 given.port).spelled (timed_prop (pos 0) (ins_of lent).frames requests) (λ a.
    let spells = subst (λ (b : List ℕ). Spells b (holding sequence a.0)) (sym given.bytes_are) a.1 in
    subst (λ (rs : List Request). AreTimed (pos 0) (ins_of lent).frames rs) (sym (given.reads a.0 spells)) (timed_of key (pos 0) (ins_of lent).frames a.0 a.2))

pub requests_given : (lent : Ports) (key : ℕ) (bytes : List ℕ) (requests : List Request) → Reads lent key bytes requests
    → requests ≡ requests_in key (events_at (inputs_of lent) 0)
requests_given lent key bytes requests given =
    let events : events_at (inputs_of lent) 0 ≡ drop 16 bytes =
    events_given (ins_of lent) (ports_of lent) 0 given.lends.numbered given.port ∙ ap (drop 16) (sym given.bytes_are) in
    ∥∥₁_elim (given.lends.inputs.sequences 0 given.port).spelled (requests_set _ _) (λ a.
    let spells = subst (λ (b : List ℕ). Spells b (holding sequence a.0)) (sym given.bytes_are) a.1 in
    given.reads a.0 spells ∙ sym (requests_spelled key (drop 16 bytes) a.0 (events_behind bytes a.0 spells)) ∙ ap (requests_in key) (sym events))

pub fit_given : (lent : Ports) (key : ℕ) (bytes : List ℕ) (requests : List Request) → Reads lent key bytes requests → ∥ AreFit requests ∥₁
fit_given lent key bytes requests given =
    ∥∥₁_map (given.lends.inputs.sequences 0 given.port).spelled (λ a.
    let spells = subst (λ (b : List ℕ). Spells b (holding sequence a.0)) (sym given.bytes_are) a.1 in
    subst AreFit (sym (given.reads a.0 spells)) (requests_fit key a.0 (events_behind bytes a.0 spells).0))

-- the outputs have their places
pub can_play : (lent : Ports) → IsLent lent → has_atom false (ports_of lent) 1 ≡ true → has_audio false (ports_of lent) 2 ≡ true → CanPlay lent
can_play lent is told heard =
    let sounds = audio_sounds false (ports_of lent) 2 heard in
    record {
      answers = has_place lent is_atom 1 is told;
      forge = is.outputs.atoms 1 told;
      awaits = subst AwaitsEvent (sym (is.outputs.begun 1 told)) (record { level = refl; still = refl });
      sounds = has_place lent is_sound 2 is sounds;
      block = (is.outputs.sounds 2 sounds).there;
    }
