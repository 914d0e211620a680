-- Ports over filled inputs and quiet outputs are lent as a run wants them.
use Rattle.std.proofs.Common.{◌≡◌, ℕ, suc, ◌<◌, Bool, true, false, ◌&&◌, if◌then◌else◌, List, [], ◌∷◌, length, get_or, map, Option, Some, None, slice_get, refl, sym, ap, subst, ◌∙◌, arith}
use Rattle.std.specs.Prelude.{slice_index}
use Rattle.std.proofs.lemmas.Bool.{false≢true}
use Rattle.std.proofs.lemmas.List.{length-map, length-replicate, get_or-map, get_or-replicate}
use Rattle.std.proofs.lemmas.Option.{slice_get_within}
use Rattle.plugin_decl.specs.declared.declaration.Port.{Port}
use Rattle.plugin_decl.specs.declared.declaration.PortKind.{PortKind}
use Rattle.plugin_decl.specs.declared.declaration.PortKind.TheVariants.{Audio, Cv, Control, Atom, Unsupported}
use Rattle.graph_order.specs.declared.setup.Setup.{Setup}
use Rattle.plug_api.specs.declared.ports.Ports.{Ports}
use Rattle.plug_api.specs.Buffers.{Given, block_at, fixed_at, forge_at, begun_forge, empty_forge}
use Rattle.plug_api.specs.Ports as loan
use Rattle.plug_api.specs.Ports.{HoldsBlock, HaveInputs, HaveOutputs, IsLent, kind_given, room_of}
use Rattle.plug_api.specs.Roles.{is_sound, is_control, is_atom, port_is, has, AreNumbered}
use Rattle.plug_api.specs.Signal.{sound, control, events, nothing, nought}
use Rattle.plug_api.specs.Sound.{silent, silence}
use Rattle.session_play.specs.Setup.{ports_of}
use Rattle.block_signals.specs.declared.inlet.Inlet.{Inlet}
use Rattle.block_signals.specs.Board.{Board}
use Rattle.block_signals.specs.Given.{value_given, input_given, port_given}
use Rattle.block_signals.specs.Lent.{IsFilled, FilledIsReady}
use Rattle.block_signals.specs.Places.{is_output_of, outputs_among, place_in, places_of, quiet_outs}
use Rattle.block_signals.proofs.Heard.{numbered_of}
use Rattle.block_signals.proofs.Lists.{map_at}
use Rattle.block_signals.proofs.Places.{sounds, controls, atoms, port_of, place_is, places_apart, place_within, count_in, count_within, counted_at, IsList}

-- ---- inputs

-- the port that stands where there is an input of a kind
input_of : (kind : PortKind → Bool) (ports : List Port) (i : ℕ) → has kind true ports i ≡ true
    → (port : Port) × (slice_get ports i ≡ Some port) × ((port.input && kind port.kind) ≡ true)
input_of kind ports i h = by (slice_get ports i) refl
  where
    by : (found : Option Port) → slice_get ports i ≡ found → (port : Port) × (slice_get ports i ≡ Some port) × ((port.input && kind port.kind) ≡ true)
    by None e = absurd (false≢true (sym (ap (port_is kind true) e) ∙ h))
    by (Some port) e = (port, e, sym (ap (port_is kind true) e) ∙ h)

-- what stands at an input is what it is given
kind_same : (kind : PortKind) (setup : Setup) (board : Board) (inst : ℕ) (inlet : Inlet) (i : ℕ) (port : Port) → IsFilled setup board inst inlet
    → slice_get (ports_of setup inst) i ≡ Some port → port.input ≡ true → port.kind ≡ kind
    → kind_given kind inlet.ins i ≡ input_given kind setup board inst port
kind_same Audio setup board inst inlet i port is at input kind = ap sound (is.sounds i port at (λ t. input t && is_sound (kind t)))
kind_same Cv setup board inst inlet i port is at input kind = ap sound (is.sounds i port at (λ t. input t && is_sound (kind t)))
kind_same Control setup board inst inlet i port is at input kind =
    ap control (ap (λ values. fixed_at values i) is.values ∙ map_at (value_given setup board inst) (ports_of setup inst) i port nought at)
kind_same Atom setup board inst inlet i port is at input kind = ap events (is.events i port at (λ t. input t && is_atom (kind t))).given
kind_same Unsupported setup board inst inlet i port is at input kind = refl

port_same : (setup : Setup) (board : Board) (inst : ℕ) (inlet : Inlet) (i : ℕ) (port : Port) → IsFilled setup board inst inlet
    → AreNumbered (ports_of setup inst) → slice_get (ports_of setup inst) i ≡ Some port → loan.port_given inlet.ins port ≡ port_given setup board inst port
port_same setup board inst inlet i port is numbered at = by port.input refl
  where
    by : (b : Bool) → port.input ≡ b
        → (if b then kind_given port.kind inlet.ins port.index else nothing) ≡ (if b then input_given port.kind setup board inst port else nothing)
    by false e = refl
    by true e = ap (kind_given port.kind inlet.ins) (numbered i port at) ∙ kind_same port.kind setup board inst inlet i port is at e refl

map_same : {X Y : Type 0} → (f g : X → Y) (xs : List X) → ((i : ℕ) (x : X) → slice_get xs i ≡ Some x → f x ≡ g x) → map f xs ≡ map g xs
map_same f g [] each = refl
map_same f g (x ∷ xs) each = λ t. each 0 x refl t ∷ map_same f g xs (λ i y e. each (suc i) y e) t

-- ---- the inputs are there

have_inputs : (setup : Setup) (board : Board) (inst : ℕ) (inlet : Inlet) (ports : Ports) → IsFilled setup board inst inlet
    → loan.ports_of ports ≡ ports_of setup inst → loan.ins_of ports ≡ inlet.ins → HaveInputs ports
have_inputs setup board inst inlet ports is same ins = record {
  sounds = λ i h.
      let one = input_of is_sound (ports_of setup inst) i (ap (λ all. has is_sound true all i) (sym same) ∙ h) in
      let within = slice_get_within (ports_of setup inst) i one.0 one.1 in
      rw ins (record { there = omega (arith, within, is.wired.blocks); whole = is.wired.whole i one.0 one.1 one.2 ∙ sym is.wired.frames });
  controls = λ i h.
      let one = input_of is_control (ports_of setup inst) i (ap (λ all. has is_control true all i) (sym same) ∙ h) in
      let within = slice_get_within (ports_of setup inst) i one.0 one.1 in
      rw ins (omega (arith, within, ap length is.values, length-map (ports_of setup inst) (value_given setup board inst)));
  atoms = λ i h.
      let one = input_of is_atom (ports_of setup inst) i (ap (λ all. has is_atom true all i) (sym same) ∙ h) in
      rw ins (is.events i one.0 one.1 one.2).there;
  sequences = λ i h.
      let one = input_of is_atom (ports_of setup inst) i (ap (λ all. has is_atom true all i) (sym same) ∙ h) in
      rw (ins, is.wired.frames) (is.events i one.0 one.1 one.2).sequence;
}

-- ---- outputs

-- at the place of an output of events a sequence is begun, with the port's room
begun_at : (ports : List Port) (i : ℕ) → AreNumbered ports → has is_atom false ports i ≡ true
    → forge_at (map (λ (port : Port). begun_forge port.room) (outputs_among is_atom ports)) (slice_index (places_of ports) i) ≡ begun_forge (room_of ports i)
begun_at ports i numbered h =
    let one = port_of is_atom ports i h in
    let made = λ (port : Port). begun_forge port.room in
    let place : slice_index (places_of ports) i ≡ count_in (is_output_of is_atom) ports i = place_is is_atom ports i one.0 atoms numbered one.1 one.2 in
    ap (λ (n : ℕ). get_or (map made (outputs_among is_atom ports)) n (empty_forge 0)) place
    ∙ get_or-map made (outputs_among is_atom ports) (count_in (is_output_of is_atom) ports i) one.0 (empty_forge 0)
    (count_within (is_output_of is_atom) ports i one.0 one.1 one.2)
    ∙ ap made (counted_at (is_output_of is_atom) ports i one.0 one.0 one.1 one.2)
    ∙ ap begun_forge (sym (map_at (λ (port : Port). port.room) ports i one.0 0 one.1))

-- what a run wants of the outputs holds of quiet ones, at their places
quiet_outputs : (frames : ℕ) (all : List Port) (ports : Ports) → AreNumbered all → loan.ports_of ports ≡ all → (loan.ins_of ports).frames ≡ frames
    → loan.places_of ports ≡ places_of all → loan.outs_of ports ≡ quiet_outs frames all → HaveOutputs ports
quiet_outputs frames all ports numbered same long places outs = record {
  places = ap length places ∙ length-map all (place_in all) ∙ ap length (sym same);
  sounds = λ i h.
      let there = within i (at i is_sound h) in
      rw (placed i, outs, long) (record {
        there = omega (arith, there, length-replicate (length (outputs_among is_sound all)) (silence frames));
        whole = ap length (quiet i (at i is_sound h)) ∙ length-replicate frames silent;
      });
  silent = λ i h. rw (placed i, outs, long) (quiet i (at i is_sound h));
  controls = λ i h.
      let there = place_within is_control all i controls numbered (at i is_control h) in
      rw (placed i, outs) (omega (arith, there, length-replicate (length (outputs_among is_control all)) nought));
  noughts = λ i h.
      let there = place_within is_control all i controls numbered (at i is_control h) in
      rw (placed i, outs) (get_or-replicate (length (outputs_among is_control all)) (slice_index (places_of all) i) nought nought there);
  atoms = λ i h.
      let there = place_within is_atom all i atoms numbered (at i is_atom h) in
      rw (placed i, outs) (omega (arith, there, length-map (outputs_among is_atom all) (λ (port : Port). begun_forge port.room)));
  begun = λ i h. rw (placed i, outs, same) (begun_at all i numbered (at i is_atom h));
}
  where
    at : (i : ℕ) (kind : PortKind → Bool) → has kind false (loan.ports_of ports) i ≡ true → has kind false all i ≡ true
    at i kind h = ap (λ (list : List Port). has kind false list i) (sym same) ∙ h

    placed : (i : ℕ) → loan.place_of ports i ≡ slice_index (places_of all) i
    placed i = ap (λ (list : List ℕ). slice_index list i) places

    within : (i : ℕ) → has is_sound false all i ≡ true → slice_index (places_of all) i < length (outputs_among is_sound all)
    within i h = place_within is_sound all i sounds numbered h

    quiet : (i : ℕ) → has is_sound false all i ≡ true → block_at (quiet_outs frames all).blocks (slice_index (places_of all) i) ≡ silence frames
    quiet i h = get_or-replicate (length (outputs_among is_sound all)) (slice_index (places_of all) i) (silence frames) [] (within i h)

apart_all : (kind : PortKind → Bool) (all : List Port) (ports : Ports) → IsList kind → AreNumbered all → loan.ports_of ports ≡ all
    → loan.places_of ports ≡ places_of all → (i j : ℕ) → has kind false (loan.ports_of ports) i ≡ true → has kind false (loan.ports_of ports) j ≡ true
    → loan.place_of ports i ≡ loan.place_of ports j → i ≡ j
apart_all kind all ports list numbered same places i j h k e =
    places_apart kind all i j list numbered (ap (λ (it : List Port). has kind false it i) (sym same) ∙ h)
    (ap (λ (it : List Port). has kind false it j) (sym same) ∙ k)
    (ap (λ (it : List ℕ). slice_index it i) (sym places) ∙ e ∙ ap (λ (it : List ℕ). slice_index it j) places)

pub filled_is_ready : FilledIsReady
filled_is_ready setup board inst inlet ports ready is same ins of outs =
    let all = ports_of setup inst in
    let numbered = numbered_of setup inst ready in
    let places : loan.places_of ports ≡ places_of all = of ∙ is.wired.places in
    let long : (loan.ins_of ports).frames ≡ setup.session.block = ap (λ (it : Given). it.frames) ins ∙ is.wired.frames in
    record {
      lent = record {
        numbered = subst AreNumbered (sym same) numbered;
        inputs = have_inputs setup board inst inlet ports is same ins;
        outputs = quiet_outputs setup.session.block all ports numbered same long places outs;
        sounds_apart = apart_all is_sound all ports sounds numbered same places;
        controls_apart = apart_all is_control all ports controls numbered same places;
        atoms_apart = apart_all is_atom all ports atoms numbered same places;
      };
      given = λ t. record {
        frames = long t;
        signals = (ap (λ (it : Given). map (loan.port_given it) (loan.ports_of ports)) ins ∙ ap (map (loan.port_given inlet.ins)) same
            ∙ map_same (loan.port_given inlet.ins) (port_given setup board inst) all (λ i port at. port_same setup board inst inlet i port is numbered at)) t;
        rooms = map (λ (port : Port). port.room) (same t);
      };
    }
