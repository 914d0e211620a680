-- The port of an instance for patch messages is an atom input, with room for a sequence.
use Rattle.std.proofs.Common.{◌≡◌, ℕ, ◌<◌, ◌≤◌, Bool, true, false, ◌&&◌, List, [], length, get_or, Option, Some, None, slice_get, refl, sym, ap, subst, ◌∙◌, arith}
use Rattle.std.specs.Prelude.{find}
use Rattle.std.specs.Option.{option_map, option_map_or, option_or}
use Rattle.std.proofs.lemmas.Bool.{false≢true}
use Rattle.std.proofs.lemmas.List.Elements.{All-get_or}
use Rattle.std.proofs.lemmas.Option.{none-some, same_Some, slice_get_within, get_or_from_slice_get}
use Rattle.plugin_decl.specs.declared.declaration.Decl.{Decl}
use Rattle.plugin_decl.specs.declared.declaration.Port.{Port}
use Rattle.plugin_decl.specs.declared.declaration.PortKind.{PortKind}
use Rattle.plugin_decl.specs.declared.declaration.PortKind.TheVariants.{Audio, Cv, Control, Atom, Unsupported}
use Rattle.plugin_decl.specs.MessagePorts.{is_atom_of, is_atom_end, is_designated, is_speaking, chosen, message_port}
use Rattle.plugin_decl.specs.Valid.{IsRoom, FitsKind, HasRoom}
use Rattle.plugin_decl.specs.Valid as decl
use Rattle.atom_forge.specs.Forged.{Forged}
use Rattle.atom_sequence.specs.Event.{Event}
use Rattle.graph_order.specs.declared.setup.Setup.{Setup}
use Rattle.graph_order.specs.Setup.{IsReady}
use Rattle.plug_api.specs.Ports.{room_of}
use Rattle.plug_api.specs.Roles.{is_atom}
use Rattle.session_play.specs.Setup.{ports_of}
use Rattle.block_signals.specs.declared.messages.Messages.{Messages}
use Rattle.block_signals.specs.Messages.{KeepsFor, AreRoomy}
use Rattle.block_signals.proofs.Lists.{map_at}
use Rattle.block_signals.proofs.Shown.{decl_valid}
use Rattle.block_signals.proofs.Sources.{found_there, found_passes, index_of}

pub record PatchPort (ports : List Port) (n : ℕ) : Type 0 where
  pub port : Port
  pub at : slice_get ports n ≡ Some port
  pub atom : (port.input && is_atom port.kind) ≡ true
  pub room : IsRoom port.room
  pub room_is : room_of ports n ≡ port.room

-- ---- it is found

first_of : (a b : Bool) → (a && b) ≡ true → a ≡ true
first_of true b h = refl
first_of false b h = absurd (false≢true h)

chosen_passes : (ports : List Port) (port : Port) → chosen true ports ≡ Some port → (i : ℕ) × (slice_get ports i ≡ Some port) × (is_atom_end true port ≡ true)
chosen_passes ports port is = by (find (is_designated true) ports) refl is
  where
    by : (found : Option Port) → find (is_designated true) ports ≡ found → option_or found (find (is_speaking true) ports) ≡ Some port
        → (i : ℕ) × (slice_get ports i ≡ Some port) × (is_atom_end true port ≡ true)
    by (Some other) e same =
        let finds : find (is_designated true) ports ≡ Some port = e ∙ same in
        let there = found_there (is_designated true) ports port finds in
        (there.0, there.1, first_of (is_atom_end true port) port.control (found_passes (is_designated true) ports port finds))
    by None e same =
        let there = found_there (is_speaking true) ports port same in
        (there.0, there.1, first_of (is_atom_end true port) port.patch (found_passes (is_speaking true) ports port same))

end_is_atom : (kind : PortKind) (input : Bool) → is_atom_of kind input ≡ true → (input && is_atom kind) ≡ true
end_is_atom Atom true h = refl
end_is_atom Atom false h = h
end_is_atom Audio input h = absurd (false≢true h)
end_is_atom Cv input h = absurd (false≢true h)
end_is_atom Control input h = absurd (false≢true h)
end_is_atom Unsupported input h = absurd (false≢true h)

second_of : (a b : Bool) → (a && b) ≡ true → b ≡ true
second_of true b h = h
second_of false b h = absurd (false≢true h)

pub kind_room : (kind : PortKind) (room : ℕ) → is_atom kind ≡ true → FitsKind kind room → IsRoom room
kind_room Atom room h fits = fits
kind_room Audio room h fits = absurd (false≢true h)
kind_room Cv room h fits = absurd (false≢true h)
kind_room Control room h fits = absurd (false≢true h)
kind_room Unsupported room h fits = absurd (false≢true h)

-- an atom input has room
pub atom_room : (one : Decl) (i : ℕ) (port : Port) → decl.IsValid one → slice_get one.ports i ≡ Some port → (port.input && is_atom port.kind) ≡ true → IsRoom port.room
atom_room one i port valid at atom =
    kind_room port.kind port.room (second_of port.input (is_atom port.kind) atom)
    (subst HasRoom (get_or_from_slice_get one.ports i port port at)
    (All-get_or HasRoom one.ports i port (slice_get_within one.ports i port at) valid.rooms))

pub patch_there : (one : Decl) (n : ℕ) → decl.IsValid one → message_port true one.ports ≡ Some n → PatchPort one.ports n
patch_there one n valid is = by (chosen true one.ports) refl is
  where
    by : (found : Option Port) → chosen true one.ports ≡ found → option_map (λ (port : Port). port.index) found ≡ Some n → PatchPort one.ports n
    by None e same = absurd (none-some n same)
    by (Some port) e same =
        let there = chosen_passes one.ports port e in
        let place : there.0 ≡ n = sym (index_of one there.0 port valid there.1) ∙ same_Some port.index n same in
        let at : slice_get one.ports n ≡ Some port = ap (slice_get one.ports) (sym place) ∙ there.1 in
        let atom = end_is_atom port.kind port.input there.2 in
        record {
          port = port;
          at = at;
          atom = atom;
          room = atom_room one n port valid at atom;
          room_is = map_at (λ (it : Port). it.room) one.ports n port 0 at;
        }

-- its room is found at its place
pub room_found : (one : Decl) (n : ℕ) (ports : List Port) (d : Port) → decl.IsValid one → message_port true one.ports ≡ Some n → ports ≡ one.ports
    → (16 ≤ (get_or ports n d).room) × ((get_or ports n d).room ≡ room_of one.ports n)
room_found one n ports d valid is are =
    let there = patch_there one n valid is in
    let here : get_or ports n d ≡ there.port = ap (λ (all : List Port). get_or all n d) are ∙ get_or_from_slice_get one.ports n there.port d there.at in
    let same : (get_or ports n d).room ≡ there.port.room = ap (λ (it : Port). it.room) here in
    (omega (arith, same, there.room.least), same ∙ sym there.room_is)

pub patch_within : (one : Decl) (n : ℕ) (ports : List Port) → decl.IsValid one → message_port true one.ports ≡ Some n → ports ≡ one.ports → n < length ports
patch_within one n ports valid is are =
    let there = patch_there one n valid is in
    let within = slice_get_within one.ports n there.port there.at in
    omega (arith, within, ap length are)

pub patch_of : (setup : Setup) (inst n : ℕ) → IsReady setup → message_port true (ports_of setup inst) ≡ Some n → PatchPort (ports_of setup inst) n
patch_of setup inst n ready is = by (slice_get setup.decls inst) refl is
  where
    by : (found : Option Decl) → slice_get setup.decls inst ≡ found → message_port true (option_map_or (λ (it : Decl). it.ports) found []) ≡ Some n
        → PatchPort (option_map_or (λ (it : Decl). it.ports) found []) n
    by None e same = absurd (none-some n same)
    by (Some one) e same = patch_there one n (decl_valid setup inst one ready e) same

-- an atom input of an instance has room
pub input_space : (setup : Setup) (inst i : ℕ) (port : Port) → IsReady setup → slice_get (ports_of setup inst) i ≡ Some port
    → (port.input && is_atom port.kind) ≡ true → IsRoom port.room
input_space setup inst i port ready at atom = by (slice_get setup.decls inst) refl at
  where
    by : (found : Option Decl) → slice_get setup.decls inst ≡ found → slice_get (option_map_or (λ (it : Decl). it.ports) found []) i ≡ Some port → IsRoom port.room
    by None e same = absurd (none-some port same)
    by (Some one) e same = atom_room one i port (decl_valid setup inst one ready e) same atom

-- ---- so there is room for messages

pub roomy : (setup : Setup) (inst : ℕ) (messages : List Event) (kept : Option Messages) → IsReady setup → KeepsFor (ports_of setup inst) messages kept → AreRoomy kept
roomy setup inst messages None ready keeps = tt
roomy setup inst messages (Some kept) ready keeps =
    let there = patch_of setup inst kept.port ready keeps.0 in
    let same : kept.forge.room ≡ there.port.room = ap (λ (f : Forged). f.room) keeps.1.events ∙ there.room_is in
    omega (arith, same, there.room.least)
