-- What is held after a block begins, and after an action that sends a message or changes nothing.
use Rattle.std.proofs.Common.{◌≡◌, ℕ, ◌<◌, Bool, true, false, eqb, ◌&&◌, if◌then◌else◌, List, [], ◌∷◌, ◌++◌, length, map, Option, Some, None, slice_get, option_map, unwrap_or, refl, sym, ap, subst, ◌∙◌, ◌⊎◌, inl, inr, eq-eqb}
use Rattle.std.specs.Prelude.{slice_set}
use Rattle.std.proofs.lemmas.Bool.{ne_eqb, eqb-true}
use Rattle.std.proofs.lemmas.List.{length-map}
use Rattle.std.proofs.lemmas.Option.{none-some, same_Some, slice_get-map}
use Rattle.plugin_decl.specs.declared.declaration.Port.{Port}
use Rattle.session_script.specs.declared.session.Action.{Action}
use Rattle.session_script.specs.declared.session.Deed.{Deed}
use Rattle.session_script.specs.declared.session.Deed.TheVariants as deed
use Rattle.graph_order.specs.declared.setup.Setup.{Setup}
use Rattle.atom_core.specs.Value.{Value}
use Rattle.atom_forge.specs.Forged.{Forged}
use Rattle.atom_sequence.specs.Event.{Event}
use Rattle.plug_api.specs.Buffers.{Given, block_at, begun_forge}
use Rattle.plug_api.specs.Ports.{room_of}
use Rattle.plug_api.specs.Roles.{is_sound}
use Rattle.session_play.specs.Looking.{newer}
use Rattle.session_play.specs.Patch.{message_of}
use Rattle.session_play.specs.Setup.{ports_of, patch_port}
use Rattle.session_play.specs.Signals.{set_by, value_before, at_start, message_to, put_event}
use Rattle.block_signals.specs.declared.inlet.Inlet.{Inlet}
use Rattle.block_signals.specs.declared.inlets.Inlets.{Inlets}
use Rattle.block_signals.specs.declared.messages.Messages.{Messages}
use Rattle.block_signals.specs.Board.{Board, block_begun, with_action}
use Rattle.block_signals.specs.Inlets.{HasValues, HasMessages, Holds, HoldsInputs}
use Rattle.block_signals.specs.Messages.{Keeps, KeepsFor, begun_messages}
use Rattle.block_signals.specs.Setting.{NothingIsChanged}
use Rattle.block_signals.proofs.Holding.{replaced}
use Rattle.block_signals.proofs.Keeping.{keeps_none}
use Rattle.block_signals.proofs.Setting.{messages_stay}

-- ---- a block begins

abbrev pub begun_inlet : Inlet → Inlet
begun_inlet inlet = record inlet { messages = begun_messages inlet.messages }

begun_keeps : (ports : List Port) (messages : List Event) (kept : Option Messages) → KeepsFor ports messages kept → KeepsFor ports [] (begun_messages kept)
begun_keeps ports messages None keeps = keeps
begun_keeps ports messages (Some kept) keeps =
    let room = room_of ports kept.port in
    let same : kept.forge.room ≡ room = ap (λ (f : Forged). f.room) keeps.1.events in
    (keeps.0, subst (λ (n : ℕ). Keeps room [] (record { port = kept.port; forge = begun_forge n; full = false })) (sym same) (keeps_none room kept.port))

begun_holds : (setup : Setup) (board : Board) (inst : ℕ) (inlet : Inlet) → Holds setup board inst inlet → Holds setup (block_begun board) inst (begun_inlet inlet)
begun_holds setup board inst inlet held = (
  record {
    places = held.0.places;
    inputs = held.0.inputs;
    symbols = held.0.symbols;
    frames = held.0.frames;
    blocks = held.0.blocks;
    whole = held.0.whole;
    rooms = held.0.rooms;
  },
  held.1,
  begun_keeps (ports_of setup inst) (board.messages inst) inlet.messages held.2,
)

pub block_holds : (setup : Setup) (board : Board) (old new : Inlets) → HoldsInputs setup board old → new.each.items ≡ map begun_inlet old.each.items
    → length new.sums.items ≡ length old.sums.items → HoldsInputs setup (block_begun board) new
block_holds setup board old new holds is sums = record {
  all = ap length is ∙ length-map old.each.items begun_inlet ∙ holds.all;
  sums = sums ∙ holds.sums;
  kept = λ inst inlet here. by inst inlet (sym (slice_get-map begun_inlet old.each.items inst) ∙ ap (λ items. slice_get items inst) (sym is) ∙ here) (slice_get old.each.items inst) refl;
}
  where
    by : (inst : ℕ) (inlet : Inlet) → option_map begun_inlet (slice_get old.each.items inst) ≡ Some inlet
        → (found : Option Inlet) → slice_get old.each.items inst ≡ found → Holds setup (block_begun board) inst inlet
    by inst inlet e None f = absurd (none-some inlet (sym (ap (option_map begun_inlet) f) ∙ e))
    by inst inlet e (Some older) f =
        subst (Holds setup (block_begun board) inst) (same_Some (begun_inlet older) inlet (sym (ap (option_map begun_inlet) f) ∙ e))
        (begun_holds setup board inst older (holds.kept inst older f))

-- ---- an action that sets no value

values_unset : (urids : List (List ℕ)) (setup : Setup) (board : Board) (action : Action) (k : ℕ) (ins : Given) → ((port : Port) → set_by port action.deed ≡ None)
    → HasValues setup board k ins → HasValues setup (with_action urids board action) k ins
values_unset urids setup board action k ins none has =
    has ∙ (λ t. map (λ (port : Port). unwrap_or (newer (sym (unset port (eqb action.inst k)) t) (board.values k port)) (value_before setup k port)) (ports_of setup k))
  where
    unset : (port : Port) (b : Bool) → (if b then set_by port action.deed else None) ≡ None
    unset port true = none port
    unset port false = refl

message_sets_none : (urids : List (List ℕ)) (value : Value) (deed : Deed) → message_of urids deed ≡ Some value → (port : Port) → set_by port deed ≡ None
message_sets_none urids value (deed.Set symbol fixed) sends port = absurd (none-some value sends)
message_sets_none urids value (deed.PatchFixed property fixed) sends port = refl
message_sets_none urids value (deed.PatchInt property int) sends port = refl
message_sets_none urids value (deed.PatchGet property) sends port = refl
message_sets_none urids value deed.Save sends port = refl
message_sets_none urids value (deed.Restore path place) sends port = refl

-- ---- a message

-- the blocks of its inputs of sound are whole
abbrev IsWhole : Setup → ℕ → Inlet → Type 0
IsWhole setup inst inlet = (i : ℕ) (port : Port) → slice_get (ports_of setup inst) i ≡ Some port → (port.input && is_sound port.kind) ≡ true
    → length (block_at inlet.ins.blocks i) ≡ setup.session.block

apart_none : (urids : List (List ℕ)) (inst k : ℕ) (action : Action) → action.inst ≡ inst → (inst ≡ k → ⊥) → message_to urids k action ≡ None
apart_none urids inst k action of ne =
    ap (λ (b : Bool). if b then message_of urids action.deed else None) (ne_eqb action.inst k (λ same. ne (sym of ∙ same)))

here_some : (urids : List (List ℕ)) (inst : ℕ) (action : Action) (value : Value) → action.inst ≡ inst → message_of urids action.deed ≡ Some value
    → message_to urids inst action ≡ Some value
here_some urids inst action value of sends =
    ap (λ (b : Bool). if b then message_of urids action.deed else None) (eq-eqb action.inst inst of) ∙ sends

pub message_holds : (urids : List (List ℕ)) (setup : Setup) (board : Board) (old new : Inlets) (inst : ℕ) (action : Action) (value : Value) (inlet later : Inlet)
    → HoldsInputs setup board old → inst < length old.each.items → slice_get old.each.items inst ≡ Some inlet → action.inst ≡ inst
    → message_of urids action.deed ≡ Some value → later ≡ record inlet { messages = later.messages }
    → KeepsFor (ports_of setup inst) (board.messages inst ++ at_start value ∷ []) later.messages
    → new.each.items ≡ slice_set old.each.items inst later → length new.sums.items ≡ length old.sums.items → HoldsInputs setup (with_action urids board action) new
message_holds urids setup board old new inst action value inlet later holds inside here of sends others keeps is sums =
    let was = holds.kept inst inlet here in
    let sets_none = message_sets_none urids value action.deed sends in
    replaced setup board (with_action urids board action) old new inst later holds inside (
      record {
        places = ap (λ (it : Inlet). it.of) others ∙ was.0.places;
        inputs = ap (λ (it : Inlet). it.inputs) others ∙ was.0.inputs;
        symbols = ap (λ (it : Inlet). it.symbols) others ∙ was.0.symbols;
        frames = ap (λ (it : Inlet). it.ins.frames) others ∙ was.0.frames;
        blocks = ap (λ (it : Inlet). length it.ins.blocks) others ∙ was.0.blocks;
        whole = subst (λ (it : Inlet). IsWhole setup inst it) (sym others) was.0.whole;
        rooms = ap (λ (it : Inlet). map (λ (forge : Forged). forge.room) it.ins.events) others ∙ was.0.rooms;
      },
      values_unset urids setup board action inst later.ins sets_none (ap (λ (it : Inlet). it.ins.values) others ∙ was.1),
      subst (λ (found : Option Value). KeepsFor (ports_of setup inst) (put_event found (board.messages inst)) later.messages)
          (sym (here_some urids inst action value of sends)) keeps,
    )
    (λ k other ne held. (
      held.0,
      values_unset urids setup board action k other.ins sets_none held.1,
      messages_stay urids setup board action k other (apart_none urids inst k action of ne) held.2,
    ))
    is sums

-- ---- an action that changes nothing

none_kept : (ports : List Port) (messages more : List Event) (kept : Option Messages) (setup : Setup) → KeepsFor ports messages kept
    → KeepsFor ports [] None → KeepsFor ports more kept
none_kept ports messages more None setup keeps none = keeps
none_kept ports messages more (Some kept) setup keeps none = absurd (none-some kept.port (sym none ∙ keeps.0))

pub nothing_is_changed : NothingIsChanged
nothing_is_changed setup board urids action inlets nothing holds = record {
  all = holds.all;
  sums = holds.sums;
  kept = λ k inlet at.
      let was = holds.kept k inlet at in (
        was.0,
        values_unset urids setup board action k inlet.ins nothing.value was.1,
        messages k inlet (eqb action.inst k) refl nothing.message was.2,
      );
}
  where
    messages : (k : ℕ) (inlet : Inlet) (b : Bool) → eqb action.inst k ≡ b → (message_of urids action.deed ≡ None) ⊎ (patch_port setup action.inst ≡ None)
        → HasMessages setup board k inlet → HasMessages setup (with_action urids board action) k inlet
    messages k inlet false e none has =
        messages_stay urids setup board action k inlet (ap (λ (it : Bool). if it then message_of urids action.deed else None) e) has
    messages k inlet true e (inl none) has =
        messages_stay urids setup board action k inlet (ap (λ (it : Bool). if it then message_of urids action.deed else None) e ∙ none) has
    messages k inlet true e (inr none) has =
        none_kept (ports_of setup k) (board.messages k) (put_event (message_to urids k action) (board.messages k)) inlet.messages setup has
        (ap (patch_port setup) (sym (eqb-true action.inst k e)) ∙ none)
