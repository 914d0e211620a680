-- What is known after an action set a value.
use Rattle.std.proofs.Common.{◌≡◌, ℕ, ℤ, Vec, ◌<◌, Bool, true, false, eqb, if◌then◌else◌, List, [], length, get_or, map, Option, Some, None, slice_get, unwrap_or, refl, sym, ap, subst, ◌∙◌, arith, eq-eqb}
use Rattle.std.specs.Prelude.{slice_set}
use Rattle.std.specs.Str.{bytes_eq}
use Rattle.std.proofs.lemmas.Bool.{ne_eqb}
use Rattle.std.proofs.lemmas.List.{length-map, get_or_default, same_lists}
use Rattle.std.proofs.lemmas.Option.{option_and_then_some}
use Rattle.std.proofs.lemmas.Slice.Eq.{bytes_eq-Decides}
use Rattle.lv_base.specs.declared.number.Fixed.{Fixed}
use Rattle.plugin_decl.specs.declared.declaration.Port.{Port}
use Rattle.session_script.specs.declared.session.Action.{Action}
use Rattle.graph_order.specs.declared.setup.Setup.{Setup}
use Rattle.graph_order.specs.Setup.{IsReady}
use Rattle.graph_order.specs.Ports.{port_in}
use Rattle.atom_core.specs.Value.{Value}
use Rattle.atom_forge.specs.Forged.{Forged}
use Rattle.plug_api.specs.Buffers.{Given, block_at, fixed_at}
use Rattle.plug_api.specs.Signal.{nought}
use Rattle.session_play.specs.Looking.{newer}
use Rattle.session_play.specs.Patch.{message_of}
use Rattle.session_play.specs.Setup.{ports_of}
use Rattle.session_play.specs.Signals.{set_by, set_at, value_before, message_to, put_event}
use Rattle.block_signals.specs.declared.inlet.Inlet.{Inlet}
use Rattle.block_signals.specs.declared.inlets.Inlets.{Inlets}
use Rattle.block_signals.specs.Board.{Board, with_action}
use Rattle.block_signals.specs.Given.{value_given}
use Rattle.block_signals.specs.Inlets.{IsInlet, HasValues, HasMessages, HoldsInputs}
use Rattle.block_signals.specs.Messages.{KeepsFor}
use Rattle.block_signals.specs.Setting.{SetsAt}
use Rattle.block_signals.proofs.Given.{ports_are}
use Rattle.block_signals.proofs.Holding.{replaced}
use Rattle.block_signals.proofs.Lists.{item_there, map_at}
use Rattle.block_signals.proofs.Shown.{decl_valid}
use Rattle.block_signals.proofs.Sources.{found_there, found_passes, index_of}

-- ---- the port that an action names

-- its symbol is the one that the action names
pub symbol_at : (setup : Setup) (inst port : ℕ) (value : Fixed) (action : Action) → IsReady setup → (sets : SetsAt setup inst port value action)
    → get_or (map (λ (it : Port). it.symbol) (ports_of setup inst)) port [] ≡ sets.symbol
symbol_at setup inst port value action ready sets =
    option_and_then_some (port_in sets.symbol) (slice_get setup.decls inst) sets.at sets.named
    (λ one here finds.
    let test = λ (it : Port). bytes_eq it.symbol sets.symbol in
    let found = found_there test one.ports sets.at finds in
    let valid = decl_valid setup inst one ready here in
    let place : found.0 ≡ port = sym (index_of one found.0 sets.at valid found.1) ∙ sets.index in
    let at : slice_get (ports_of setup inst) port ≡ Some sets.at =
    ap (λ all. slice_get all port) (ports_are setup inst one here) ∙ ap (slice_get one.ports) (sym place) ∙ found.1 in
    let passes : test sets.at ≡ true = found_passes test one.ports sets.at finds in
    map_at (λ (it : Port). it.symbol) (ports_of setup inst) port sets.at [] at ∙ (bytes_eq-Decides sets.at.symbol sets.symbol).0 passes)

-- ---- values

-- the value of a port after the action, by its own symbol
value_after : (urids : List (List ℕ)) (setup : Setup) (board : Board) (inst port : ℕ) (value : Fixed) (action : Action) (sets : SetsAt setup inst port value action) (other : Port)
    → value_given setup (with_action urids board action) inst other ≡ (if bytes_eq sets.symbol other.symbol then value else value_given setup board inst other)
value_after urids setup board inst port value action sets other =
    (λ t. unwrap_or (newer (taken t) (board.values inst other)) (value_before setup inst other)) ∙ by (bytes_eq sets.symbol other.symbol)
  where
    here : eqb action.inst inst ≡ true
    here = eq-eqb action.inst inst sets.of

    taken : set_at inst other action ≡ (if bytes_eq sets.symbol other.symbol then Some value else None)
    taken = ap (λ (b : Bool). if b then set_by other action.deed else None) here ∙ ap (set_by other) sets.deed

    by : (b : Bool) → unwrap_or (newer (if b then Some value else None) (board.values inst other)) (value_before setup inst other)
        ≡ (if b then value else value_given setup board inst other)
    by true = refl
    by false = refl

-- that of a port of another instance stays
value_elsewhere : (urids : List (List ℕ)) (setup : Setup) (board : Board) (inst other : ℕ) (action : Action) (port : Port) → eqb action.inst other ≡ false
    → value_given setup (with_action urids board action) other port ≡ value_given setup board other port
value_elsewhere urids setup board inst other action port ne =
    ap (λ (b : Bool). unwrap_or (newer (if b then set_by port action.deed else None) (board.values other port)) (value_before setup other port)) ne

pub values_after : (urids : List (List ℕ)) (setup : Setup) (board : Board) (inst port : ℕ) (value : Fixed) (action : Action) (ins new : Given) (symbols : List (List ℕ))
    → IsReady setup → SetsAt setup inst port value action → symbols ≡ map (λ (it : Port). it.symbol) (ports_of setup inst) → HasValues setup board inst ins
    → length new.values ≡ length ins.values
    → ((k : ℕ) → k < length symbols → fixed_at new.values k ≡ (if bytes_eq (get_or symbols port []) (get_or symbols k []) then value else fixed_at ins.values k))
    → HasValues setup (with_action urids board action) inst new
values_after urids setup board inst port value action ins new symbols ready sets are has count each =
    same_lists new.values (map (value_given setup (with_action urids board action) inst) (ports_of setup inst))
    (count ∙ ap length has ∙ length-map (ports_of setup inst) (value_given setup board inst)
    ∙ sym (length-map (ports_of setup inst) (value_given setup (with_action urids board action) inst)))
    (λ k d h.
    let long : length ins.values ≡ length (ports_of setup inst) = ap length has ∙ length-map (ports_of setup inst) (value_given setup board inst) in
    let all : length symbols ≡ length (ports_of setup inst) = ap length are ∙ length-map (ports_of setup inst) (λ (it : Port). it.symbol) in
    let one = item_there (ports_of setup inst) k (omega (arith, h, count, long)) in
    let own : get_or symbols k [] ≡ one.0.symbol = ap (λ items. get_or items k []) are ∙ map_at (λ (it : Port). it.symbol) (ports_of setup inst) k one.0 [] one.1 in
    let named : get_or symbols port [] ≡ sets.symbol = ap (λ items. get_or items port []) are ∙ symbol_at setup inst port value action ready sets in
    let before : fixed_at ins.values k ≡ value_given setup board inst one.0 =
    ap (λ values. fixed_at values k) has ∙ map_at (value_given setup board inst) (ports_of setup inst) k one.0 nought one.1 in
    get_or_default new.values k d nought h ∙ each k (omega (arith, h, count, long, all))
    ∙ (λ t. if bytes_eq (named t) (own t) then value else before t)
    ∙ sym (value_after urids setup board inst port value action sets one.0)
    ∙ sym (map_at (value_given setup (with_action urids board action) inst) (ports_of setup inst) k one.0 d one.1))

-- ---- messages

-- an action that sets a value sends no message
no_message : (urids : List (List ℕ)) (setup : Setup) (inst port : ℕ) (value : Fixed) (action : Action) → SetsAt setup inst port value action → (k : ℕ)
    → message_to urids k action ≡ None
no_message urids setup inst port value action sets k = by (eqb action.inst k)
  where
    by : (b : Bool) → (if b then message_of urids action.deed else None) ≡ None
    by true = ap (message_of urids) sets.deed
    by false = refl

pub messages_stay : (urids : List (List ℕ)) (setup : Setup) (board : Board) (action : Action) (k : ℕ) (inlet : Inlet) → message_to urids k action ≡ None
    → HasMessages setup board k inlet → HasMessages setup (with_action urids board action) k inlet
messages_stay urids setup board action k inlet none has =
    subst (λ (found : Option Value). KeepsFor (ports_of setup k) (put_event found (board.messages k)) inlet.messages) (sym none) has

-- ---- those of all instances

pub values_apart : (urids : List (List ℕ)) (setup : Setup) (board : Board) (inst k : ℕ) (action : Action) (ins : Given) → action.inst ≡ inst → (inst ≡ k → ⊥)
    → HasValues setup board k ins → HasValues setup (with_action urids board action) k ins
values_apart urids setup board inst k action ins of ne has =
    let other : eqb action.inst k ≡ false = ne_eqb action.inst k (λ same. ne (sym of ∙ same)) in
    has ∙ (λ t. map (λ port. sym (value_elsewhere urids setup board inst k action port other) t) (ports_of setup k))

pub set_all : (urids : List (List ℕ)) (setup : Setup) (board : Board) (old new : Inlets) (inst port : ℕ) (value : Fixed) (action : Action) (inlet : Inlet) (ins : Given)
    → HoldsInputs setup board old → SetsAt setup inst port value action → inst < length old.each.items → slice_get old.each.items inst ≡ Some inlet
    → ins ≡ record inlet.ins { values = ins.values } → HasValues setup (with_action urids board action) inst ins
    → new.each.items ≡ slice_set old.each.items inst (record inlet { ins = ins }) → new.sums ≡ old.sums → HoldsInputs setup (with_action urids board action) new
set_all urids setup board old new inst port value action inlet ins holds sets inside here others has is sums =
    replaced setup board (with_action urids board action) old new inst later holds inside
    (wired, has, messages_stay urids setup board action inst later (no_message urids setup inst port value action sets inst) (holds.kept inst inlet here).2)
    (λ k other ne was. (
      was.0,
      values_apart urids setup board inst k action other.ins sets.of ne was.1,
      messages_stay urids setup board action k other (no_message urids setup inst port value action sets k) was.2,
    ))
    is (ap (λ (it : Vec ℤ _). length it.items) sums)
  where
    later : Inlet
    later = record inlet { ins = ins }

    wired : IsInlet setup inst later
    wired =
        let was = (holds.kept inst inlet here).0 in
        record {
          places = was.places;
          inputs = was.inputs;
          symbols = was.symbols;
          frames = ap (λ (it : Given). it.frames) others ∙ was.frames;
          blocks = ap (λ (it : Given). length it.blocks) others ∙ was.blocks;
          whole = λ i one at e. ap (λ (it : Given). length (block_at it.blocks i)) others ∙ was.whole i one at e;
          rooms = ap (λ (it : Given). map (λ (forge : Forged). forge.room) it.events) others ∙ was.rooms;
        }
