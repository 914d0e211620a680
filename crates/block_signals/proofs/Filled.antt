-- An instance whose inputs of sound and of events were filled.
use Rattle.std.proofs.Common.{◌≡◌, ℕ, ◌-◌, ◌<◌, Bool, true, false, ◌&&◌, if◌then◌else◌, All, List, length, get_or, map, Option, Some, None, slice_get, option_map, refl, sym, ap, subst, ◌∙◌, arith}
use Rattle.std.proofs.lemmas.Bool.{false≢true}
use Rattle.std.proofs.lemmas.List.{length-map, get_or-map}
use Rattle.std.proofs.lemmas.Option.{none-some, same_Some, slice_get-map, slice_get_within}
use Rattle.plugin_decl.specs.declared.declaration.Port.{Port}
use Rattle.plugin_decl.specs.declared.declaration.PortKind.{PortKind}
use Rattle.plugin_decl.specs.declared.declaration.PortKind.TheVariants.{Audio, Cv, Control, Atom, Unsupported}
use Rattle.graph_order.specs.declared.setup.Setup.{Setup}
use Rattle.graph_order.specs.Setup.{IsReady}
use Rattle.atom_sequence.specs.Merge.{merged}
use Rattle.event_signals.proofs.Sequenced.{sequence_bytes}
use Rattle.plug_api.specs.Buffers.{Given, block_at, forge_at, empty_forge, event_bytes}
use Rattle.plug_api.specs.Fresh.{input_room}
use Rattle.plug_api.specs.Roles.{is_sound, is_atom}
use Rattle.plug_api.specs.Sequences.{AreEventBytes, IsSequence}
use Rattle.session_play.specs.EventBytes.{events_at}
use Rattle.session_play.specs.Setup.{ports_of}
use Rattle.block_signals.specs.declared.inlet.Inlet.{Inlet}
use Rattle.block_signals.specs.declared.outlets.Outlets.{Outlets}
use Rattle.block_signals.specs.declared.source.Input.{Input}
use Rattle.block_signals.specs.declared.source.Input.TheVariants.{Sound, Events, Still}
use Rattle.block_signals.specs.declared.source.Source.{Source}
use Rattle.block_signals.specs.Board.{Board}
use Rattle.block_signals.specs.Inlets.{IsInlet, HasMessages, Holds}
use Rattle.block_signals.specs.Lent.{HasEvents, IsFilled}
use Rattle.block_signals.specs.Merging.{events_heard, lists_at, merge_of, GivesEvents, CanTake, IsTaken}
use Rattle.block_signals.specs.Outlets.{ShowsOutputs}
use Rattle.block_signals.specs.Sources.{sources_to, input_of}
use Rattle.block_signals.proofs.EventsComing.{sources_give}
use Rattle.block_signals.proofs.EventsGiven.{all_weaker, have_begun, lists_timed, given_bytes, merge_sequence}
use Rattle.block_signals.proofs.Given.{IsFilledFrom, both_first, input_there, filled_sounds, filled_inlet, filled_values}
use Rattle.block_signals.proofs.Heard.{sources_few}
use Rattle.block_signals.proofs.Lists.{map_at}
use Rattle.block_signals.proofs.Merges.{room_of_forge}
use Rattle.block_signals.proofs.Patching.{input_space}

-- ---- the forge of an input of events

abbrev pub HaveRooms : Setup → ℕ → Given → Type 0
HaveRooms setup inst ins = map room_of_forge ins.events ≡ map input_room (ports_of setup inst)

forge_there : (setup : Setup) (inst : ℕ) (ins : Given) (i : ℕ) (port : Port) → HaveRooms setup inst ins → slice_get (ports_of setup inst) i ≡ Some port
    → i < length ins.events
forge_there setup inst ins i port rooms at =
    let within = slice_get_within (ports_of setup inst) i port at in
    omega (arith, within, length-map ins.events room_of_forge, ap length rooms, length-map (ports_of setup inst) input_room)

room_there : (setup : Setup) (inst : ℕ) (ins : Given) (i : ℕ) (port : Port) → HaveRooms setup inst ins → slice_get (ports_of setup inst) i ≡ Some port
    → (port.input && is_atom port.kind) ≡ true → (forge_at ins.events i).room ≡ port.room
room_there setup inst ins i port rooms at atom =
    sym (get_or-map room_of_forge ins.events i (empty_forge 0) 0 (forge_there setup inst ins i port rooms at))
    ∙ ap (λ (all : List ℕ). get_or all i 0) rooms ∙ map_at input_room (ports_of setup inst) i port 0 at
    ∙ ap (λ (b : Bool). if b then port.room else 0) atom

-- ---- what can be merged at its inputs

can_take_one : (setup : Setup) (board : Board) (outlets : Outlets) (inst : ℕ) (inlet : Inlet) (ins : Given) (i : ℕ) (port : Port) → IsReady setup
    → ShowsOutputs setup board outlets → HasMessages setup board inst inlet → ins.frames ≡ setup.session.block → HaveRooms setup inst ins
    → slice_get (ports_of setup inst) i ≡ Some port → CanTake ins inlet.messages outlets i (input_of setup inst port)
can_take_one setup board outlets inst inlet ins i port ready shows has frames rooms at =
    by (port.input && is_sound port.kind) (port.input && is_atom port.kind) refl
  where
    by : (b c : Bool) → (port.input && is_atom port.kind) ≡ c
        → CanTake ins inlet.messages outlets i (if b then Sound (sources_to setup inst port) else if c then Events (sources_to setup inst port) else Still)
    by true c e = tt
    by false true e =
        let atom : is_atom port.kind ≡ true = both_first port.input (is_atom port.kind) e in
        let space = input_space setup inst i port ready at e in
        let room = room_there setup inst ins i port rooms at e in
        record {
          place = forge_there setup inst ins i port rooms at;
          room = omega (arith, room, space.least);
          few = sources_few setup inst port ready;
          heard = all_weaker (λ source. GivesEvents outlets source × AreEventBytes setup.session.block (events_heard outlets source)) (GivesEvents outlets)
              (sources_to setup inst port) (λ source it. it.0) (sources_give setup board outlets inst port atom ready shows);
          kept = have_begun (ports_of setup inst) (board.messages inst) inlet.messages has;
          timed = subst (λ (n : ℕ). All (AreEventBytes n) (lists_at outlets inlet.messages i (sources_to setup inst port))) (sym frames)
              (lists_timed setup board outlets inst i port inlet.messages ready shows atom has);
        }
    by false false e = tt

pub can_take : (setup : Setup) (board : Board) (outlets : Outlets) (inst : ℕ) (inlet : Inlet) (ins : Given) → IsReady setup → ShowsOutputs setup board outlets
    → IsInlet setup inst inlet → HasMessages setup board inst inlet → ins.frames ≡ setup.session.block → HaveRooms setup inst ins
    → (i : ℕ) (input : Input) → slice_get inlet.inputs i ≡ Some input → CanTake ins inlet.messages outlets i input
can_take setup board outlets inst inlet ins ready shows is has frames rooms i input here = by (slice_get (ports_of setup inst) i) refl
  where
    seen : option_map (input_of setup inst) (slice_get (ports_of setup inst) i) ≡ Some input
    seen = sym (slice_get-map (input_of setup inst) (ports_of setup inst) i) ∙ ap (λ inputs. slice_get inputs i) (sym is.inputs) ∙ here

    by : (found : Option Port) → slice_get (ports_of setup inst) i ≡ found → CanTake ins inlet.messages outlets i input
    by None e = absurd (none-some input (sym (ap (option_map (input_of setup inst)) e) ∙ seen))
    by (Some port) e =
        subst (CanTake ins inlet.messages outlets i) (same_Some (input_of setup inst port) input (sym (ap (option_map (input_of setup inst)) e) ∙ seen))
        (can_take_one setup board outlets inst inlet ins i port ready shows has frames rooms e)

-- ---- what then stands there

-- inputs whose events were merged
pub record IsMergedFrom (outlets : Outlets) (inlet : Inlet) (ins now : Given) : Type 0 where
  pub others : now ≡ record ins { events = now.events }
  pub rooms : map room_of_forge now.events ≡ map room_of_forge ins.events
  pub put : (i : ℕ) (input : Input) → slice_get inlet.inputs i ≡ Some input → IsTaken now inlet.messages outlets i input

atom_no_sound : (kind : PortKind) (input : Bool) → is_atom kind ≡ true → (input && is_sound kind) ≡ false
atom_no_sound Atom true h = refl
atom_no_sound Atom false h = refl
atom_no_sound Audio input h = absurd (false≢true h)
atom_no_sound Cv input h = absurd (false≢true h)
atom_no_sound Control input h = absurd (false≢true h)
atom_no_sound Unsupported input h = absurd (false≢true h)

merged_events : (setup : Setup) (board : Board) (outlets : Outlets) (inst : ℕ) (inlet : Inlet) (ins now : Given) → IsReady setup → ShowsOutputs setup board outlets
    → IsInlet setup inst inlet → HasMessages setup board inst inlet → HaveRooms setup inst ins → IsMergedFrom outlets inlet ins now → HasEvents setup board inst now
merged_events setup board outlets inst inlet ins now ready shows is has rooms merges i port at e =
    let atom : is_atom port.kind ≡ true = both_first port.input (is_atom port.kind) e in
    let silent = atom_no_sound port.kind port.input atom in
    let sources : List Source = sources_to setup inst port in
    let lists = lists_at outlets inlet.messages i sources in
    let input : input_of setup inst port ≡ Events sources =
    λ t. if silent t then Sound sources else if e t then Events sources else Still in
    let taken : forge_at now.events i ≡ merge_of (forge_at now.events i).room lists =
    subst (IsTaken now inlet.messages outlets i) input (merges.put i (input_of setup inst port) (input_there setup inst inlet i port is at)) in
    let all : HaveRooms setup inst now = merges.rooms ∙ rooms in
    let whole : forge_at now.events i ≡ merge_of port.room lists = taken ∙ ap (λ (n : ℕ). merge_of n lists) (room_there setup inst now i port all at e) in
    let space = input_space setup inst i port ready at e in
    record {
      there = forge_there setup inst now i port all at;
      sequence = subst (IsSequence setup.session.block) (sym whole)
          (merge_sequence setup.session.block port.room lists (lists_timed setup board outlets inst i port inlet.messages ready shows atom has)
          (omega (arith, space.least)) (omega (arith, space.most)));
      given = ap event_bytes whole ∙ sequence_bytes port.room (merged (port.room - 16) (map events_at lists))
          ∙ given_bytes setup board outlets inst i port inlet.messages ready shows at atom has;
    }

pub is_filled : (setup : Setup) (board : Board) (outlets : Outlets) (inst : ℕ) (inlet : Inlet) (ins now : Given) → IsReady setup → ShowsOutputs setup board outlets
    → Holds setup board inst inlet → IsFilledFrom outlets inlet ins → IsMergedFrom outlets inlet ins now → IsFilled setup board inst (record inlet { ins = now })
is_filled setup board outlets inst inlet ins now ready shows holds filled merges =
    let wired = filled_inlet setup board outlets inst inlet ins ready shows holds.0 filled in
    record {
      wired = record {
        places = wired.places;
        inputs = wired.inputs;
        symbols = wired.symbols;
        frames = ap (λ (it : Given). it.frames) merges.others ∙ wired.frames;
        blocks = ap (λ (it : Given). length it.blocks) merges.others ∙ wired.blocks;
        whole = λ i port at e. ap (λ (it : Given). length (block_at it.blocks i)) merges.others ∙ wired.whole i port at e;
        rooms = merges.rooms ∙ wired.rooms;
      };
      values = ap (λ (it : Given). it.values) merges.others ∙ filled_values setup board outlets inst inlet ins filled holds.1;
      sounds = λ i port at e.
          ap (λ (it : Given). block_at it.blocks i) merges.others ∙ filled_sounds setup board outlets inst inlet ins ready shows holds.0 filled i port at e;
      events = merged_events setup board outlets inst inlet ins now ready shows holds.0 holds.2 wired.rooms merges;
    }
