-- What an instance's inputs are given.
use Rattle.std.proofs.Common.{◌≡◌, ℕ, ◌+◌, ◌<◌, ◌≤◌, Bool, true, false, ◌&&◌, if◌then◌else◌, List, [], All, ◌∷◌, ◌++◌, length, get_or, map, Option, Some, None, slice_get, option_map, refl, sym, ap, subst, ◌∙◌, ◌⊎◌, inl, inr, arith}
use Rattle.std.specs.Option.{option_map_or}
use Rattle.std.proofs.lemmas.Bool.{false≢true}
use Rattle.std.proofs.lemmas.List.{length-map, length_push, length-replicate, get_or_default, same_lists}
use Rattle.std.proofs.lemmas.List.FromFn.{length-map-range_with_len}
use Rattle.std.proofs.lemmas.Option.{none-some, same_Some, slice_get-map, slice_get-get_or, slice_get_within}
use Rattle.plugin_decl.specs.declared.declaration.Decl.{Decl}
use Rattle.plugin_decl.specs.declared.declaration.Port.{Port}
use Rattle.plugin_decl.specs.Valid as decl
use Rattle.graph_order.specs.declared.setup.Setup.{Setup}
use Rattle.graph_order.specs.Setup.{IsReady}
use Rattle.atom_forge.specs.Forged.{Forged}
use Rattle.plug_api.specs.Buffers.{Given, block_at, fixed_at}
use Rattle.plug_api.specs.Roles.{is_sound, is_atom}
use Rattle.plug_api.specs.Fresh.{fresh_block, fresh_forge, fresh_inputs, input_room}
use Rattle.plug_api.specs.Signal.{nought}
use Rattle.plug_api.specs.Sound.{silent}
use Rattle.session_play.specs.Setup.{ports_of}
use Rattle.session_play.specs.Signals.{mixed}
use Rattle.block_signals.specs.declared.inlet.Inlet.{Inlet}
use Rattle.block_signals.specs.declared.outlets.Outlets.{Outlets}
use Rattle.block_signals.specs.declared.source.Input.{Input}
use Rattle.block_signals.specs.declared.source.Input.TheVariants.{Sound, Events, Still}
use Rattle.block_signals.specs.Board.{Board, blank}
use Rattle.block_signals.specs.Given.{value_given}
use Rattle.block_signals.specs.Inlets.{CanPut, IsPut, IsInlet, HasValues, HasMessages, HasSounds, Holds, value_set}
use Rattle.block_signals.specs.Mixing.{heard}
use Rattle.block_signals.specs.Outlets.{ShowsOutputs}
use Rattle.block_signals.specs.Places.{places_of}
use Rattle.block_signals.specs.Sources.{sources_to, input_of}
use Rattle.block_signals.proofs.Heard.{sound_heard, sources_heard, sources_few}
use Rattle.block_signals.proofs.Lists.{pushed_get, item_there, map_at}
use Rattle.block_signals.proofs.Shown.{decl_valid}
use Rattle.block_signals.proofs.Sources.{index_of}

-- ---- the ports of an instance

pub ports_are : (setup : Setup) (inst : ℕ) (one : Decl) → slice_get setup.decls inst ≡ Some one → ports_of setup inst ≡ one.ports
ports_are setup inst one here = ap (λ (found : Option Decl). option_map_or (λ (it : Decl). it.ports) found []) here

pub ports_few : (setup : Setup) (inst : ℕ) → IsReady setup → length (ports_of setup inst) ≤ 256
ports_few setup inst ready = by (slice_get setup.decls inst) refl
  where
    by : (found : Option Decl) → slice_get setup.decls inst ≡ found → length (option_map_or (λ (it : Decl). it.ports) found []) ≤ 256
    by None e = omega arith
    by (Some one) e = (decl_valid setup inst one ready e).few

pub indexes_within : (one : Decl) → decl.IsValid one → All (λ (port : Port). port.index ≤ length one.ports) one.ports
indexes_within one valid = λ k d h.
    let same : (get_or one.ports k d).index ≡ k = index_of one k (get_or one.ports k d) valid (slice_get-get_or one.ports k d h) in omega (arith, same, h)

-- ---- what can be put at its inputs

pub both_first : (a b : Bool) → (a && b) ≡ true → b ≡ true
both_first true b h = h
both_first false b h = absurd (false≢true h)

can_put_one : (setup : Setup) (board : Board) (outlets : Outlets) (inst : ℕ) (inlet : Inlet) (i : ℕ) (port : Port) → IsReady setup → ShowsOutputs setup board outlets
    → IsInlet setup inst inlet → slice_get (ports_of setup inst) i ≡ Some port → CanPut inlet.ins.frames inlet.ins outlets i (input_of setup inst port)
can_put_one setup board outlets inst inlet i port ready shows is at =
    by (port.input && is_sound port.kind) refl (port.input && is_atom port.kind)
  where
    by : (b : Bool) → (port.input && is_sound port.kind) ≡ b → (c : Bool)
        → CanPut inlet.ins.frames inlet.ins outlets i (if b then Sound (sources_to setup inst port) else if c then Events (sources_to setup inst port) else Still)
    by true e c =
        let sounding : is_sound port.kind ≡ true = both_first port.input (is_sound port.kind) e in
        let within = slice_get_within (ports_of setup inst) i port at in
        subst (λ (frames : ℕ). CanPut frames inlet.ins outlets i (Sound (sources_to setup inst port))) (sym is.frames) (
          record { there = omega (arith, within, is.blocks); whole = is.whole i port at e },
          sources_few setup inst port ready,
          sources_heard setup board outlets inst port sounding ready shows,
        )
    by false e true = tt
    by false e false = tt

-- the input at a place is that of the port there
pub input_there : (setup : Setup) (inst : ℕ) (inlet : Inlet) (i : ℕ) (port : Port) → IsInlet setup inst inlet → slice_get (ports_of setup inst) i ≡ Some port
    → slice_get inlet.inputs i ≡ Some (input_of setup inst port)
input_there setup inst inlet i port is at =
    ap (λ inputs. slice_get inputs i) is.inputs ∙ slice_get-map (input_of setup inst) (ports_of setup inst) i ∙ ap (option_map (input_of setup inst)) at

pub can_put : (setup : Setup) (board : Board) (outlets : Outlets) (inst : ℕ) (inlet : Inlet) → IsReady setup → ShowsOutputs setup board outlets
    → IsInlet setup inst inlet → (i : ℕ) (input : Input) → slice_get inlet.inputs i ≡ Some input → CanPut inlet.ins.frames inlet.ins outlets i input
can_put setup board outlets inst inlet ready shows is i input here = by (slice_get (ports_of setup inst) i) refl
  where
    seen : option_map (input_of setup inst) (slice_get (ports_of setup inst) i) ≡ Some input
    seen = sym (slice_get-map (input_of setup inst) (ports_of setup inst) i) ∙ ap (λ inputs. slice_get inputs i) (sym is.inputs) ∙ here

    by : (found : Option Port) → slice_get (ports_of setup inst) i ≡ found → CanPut inlet.ins.frames inlet.ins outlets i input
    by None e = absurd (none-some input (sym (ap (option_map (input_of setup inst)) e) ∙ seen))
    by (Some port) e =
        subst (CanPut inlet.ins.frames inlet.ins outlets i) (same_Some (input_of setup inst port) input (sym (ap (option_map (input_of setup inst)) e) ∙ seen))
        (can_put_one setup board outlets inst inlet i port ready shows is e)

-- ---- what then stands there

-- an inlet whose inputs were filled
pub record IsFilledFrom (outlets : Outlets) (inlet : Inlet) (ins : Given) : Type 0 where
  pub others : ins ≡ record inlet.ins { blocks = ins.blocks }
  pub count : length ins.blocks ≡ length inlet.ins.blocks
  pub put : (i : ℕ) (input : Input) → slice_get inlet.inputs i ≡ Some input → IsPut inlet.ins.frames ins outlets i input

pub filled_sounds : (setup : Setup) (board : Board) (outlets : Outlets) (inst : ℕ) (inlet : Inlet) (ins : Given) → IsReady setup → ShowsOutputs setup board outlets
    → IsInlet setup inst inlet → IsFilledFrom outlets inlet ins → HasSounds setup board inst ins
filled_sounds setup board outlets inst inlet ins ready shows is filled i port at e =
    let sounding : is_sound port.kind ≡ true = both_first port.input (is_sound port.kind) e in
    let input : input_of setup inst port ≡ Sound (sources_to setup inst port) =
    ap (λ (b : Bool). if b then Sound (sources_to setup inst port) else if port.input && is_atom port.kind then Events (sources_to setup inst port) else Still) e in
    let put : block_at ins.blocks i ≡ mixed inlet.ins.frames (map (heard outlets) (sources_to setup inst port)) =
    subst (IsPut inlet.ins.frames ins outlets i) input (filled.put i (input_of setup inst port) (input_there setup inst inlet i port is at)) in
    put ∙ ap (λ (frames : ℕ). mixed frames (map (heard outlets) (sources_to setup inst port))) is.frames
    ∙ sound_heard setup board outlets inst port sounding ready shows

pub filled_inlet : (setup : Setup) (board : Board) (outlets : Outlets) (inst : ℕ) (inlet : Inlet) (ins : Given) → IsReady setup → ShowsOutputs setup board outlets
    → IsInlet setup inst inlet → IsFilledFrom outlets inlet ins → IsInlet setup inst (record inlet { ins = ins })
filled_inlet setup board outlets inst inlet ins ready shows is filled = record {
  places = is.places;
  inputs = is.inputs;
  symbols = is.symbols;
  frames = ap (λ (it : Given). it.frames) filled.others ∙ is.frames;
  blocks = filled.count ∙ is.blocks;
  whole = λ i port at e. ap length (filled_sounds setup board outlets inst inlet ins ready shows is filled i port at e) ∙ length-map-range_with_len _ 0 setup.session.block;
  rooms = ap (λ (it : Given). map (λ (forge : Forged). forge.room) it.events) filled.others ∙ is.rooms;
}

pub filled_values : (setup : Setup) (board : Board) (outlets : Outlets) (inst : ℕ) (inlet : Inlet) (ins : Given) → IsFilledFrom outlets inlet ins
    → HasValues setup board inst inlet.ins → HasValues setup board inst ins
filled_values setup board outlets inst inlet ins filled has = ap (λ (it : Given). it.values) filled.others ∙ has

-- ---- at first

-- the values that a session sets are those that are known at first
pub values_first : (setup : Setup) (inst : ℕ) (ins : Given) (symbols : List (List ℕ)) → symbols ≡ map (λ (port : Port). port.symbol) (ports_of setup inst)
    → length ins.values ≡ length (ports_of setup inst)
    → ((k : ℕ) → k < length symbols → fixed_at ins.values k
    ≡ value_set setup.session.sets inst (get_or symbols k []) (fixed_at (map (λ (port : Port). port.first) (ports_of setup inst)) k))
    → HasValues setup blank inst ins
values_first setup inst ins symbols are count each =
    same_lists ins.values (map (value_given setup blank inst) (ports_of setup inst))
    (count ∙ sym (length-map (ports_of setup inst) (value_given setup blank inst))) (λ k d h.
    let one = item_there (ports_of setup inst) k (omega (arith, h, count)) in
    let long : length symbols ≡ length (ports_of setup inst) = ap length are ∙ length-map (ports_of setup inst) (λ (port : Port). port.symbol) in
    let symbol : get_or symbols k [] ≡ one.0.symbol =
    ap (λ items. get_or items k []) are ∙ map_at (λ (port : Port). port.symbol) (ports_of setup inst) k one.0 [] one.1 in
    let first : fixed_at (map (λ (port : Port). port.first) (ports_of setup inst)) k ≡ one.0.first =
    map_at (λ (port : Port). port.first) (ports_of setup inst) k one.0 nought one.1 in
    get_or_default ins.values k d nought h ∙ each k (omega (arith, h, count, long))
    ∙ (λ t. value_set setup.session.sets inst (symbol t) (first t))
    ∙ sym (map_at (value_given setup blank inst) (ports_of setup inst) k one.0 d one.1))

-- one more inlet
pub record MadeTo (setup : Setup) (items : List Inlet) (n : ℕ) : Type 0 where
  pub count : length items ≡ n
  pub kept : (inst : ℕ) (inlet : Inlet) → slice_get items inst ≡ Some inlet → Holds setup blank inst inlet

pub made_none : (setup : Setup) → MadeTo setup [] 0
made_none setup = record { count = refl; kept = λ inst inlet e. absurd (none-some inlet e) }

pub made_more : (setup : Setup) (items : List Inlet) (n : ℕ) (inlet : Inlet) → MadeTo setup items n → IsInlet setup n inlet → HasValues setup blank n inlet.ins
    → HasMessages setup blank n inlet → MadeTo setup (items ++ inlet ∷ []) (n + 1)
made_more setup items n inlet made is has keeps = record {
  count = length_push items inlet ∙ ap (λ (k : ℕ). k + 1) made.count;
  kept = λ inst other e. by inst other (pushed_get items inlet inst other e);
}
  where
    by : (inst : ℕ) (other : Inlet) → (slice_get items inst ≡ Some other) ⊎ ((inst ≡ length items) × (inlet ≡ other)) → Holds setup blank inst other
    by inst other (inl e) = made.kept inst other e
    by inst other (inr e) = subst (λ (k : ℕ). Holds setup blank k other) (sym (e.0 ∙ made.count)) (subst (Holds setup blank n) e.1 (is, has, keeps))

-- an inlet that was made, whatever its values are
pub new_inlet : (setup : Setup) (inst : ℕ) (inlet : Inlet) (ports : List Port) → ports ≡ ports_of setup inst → inlet.of ≡ places_of ports
    → inlet.inputs ≡ map (input_of setup inst) ports → inlet.symbols ≡ map (λ (port : Port). port.symbol) ports
    → inlet.ins ≡ record (fresh_inputs ports setup.session.block) { values = inlet.ins.values } → IsInlet setup inst inlet
new_inlet setup inst inlet ports are of inputs symbols fresh =
    let frames = setup.session.block in
    record {
      places = of ∙ ap places_of are;
      inputs = inputs ∙ ap (map (input_of setup inst)) are;
      symbols = symbols ∙ ap (map (λ (port : Port). port.symbol)) are;
      frames = ap (λ (it : Given). it.frames) fresh;
      blocks = ap (λ (it : Given). length it.blocks) fresh ∙ length-map ports (fresh_block frames) ∙ ap length are;
      whole = λ i port at e.
          ap (λ (it : Given). length (block_at it.blocks i)) fresh
          ∙ ap length (map_at (fresh_block frames) ports i port [] (ap (λ all. slice_get all i) are ∙ at))
          ∙ length-replicate (if port.input && is_sound port.kind then frames else 0) silent
          ∙ ap (λ (b : Bool). if b then frames else 0) e;
      rooms = ap (λ (it : Given). map (λ (forge : Forged). forge.room) it.events) fresh
          ∙ map_map ports ∙ ap (map input_room) are;
    }
  where
    map_map : (all : List Port) → map (λ (forge : Forged). forge.room) (map fresh_forge all) ≡ map input_room all
    map_map [] = refl
    map_map (port ∷ all) = ap (λ (rooms : List ℕ). input_room port ∷ rooms) (map_map all)
