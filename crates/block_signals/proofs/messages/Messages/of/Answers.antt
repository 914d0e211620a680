use Rattle.std.proofs.Common.{◌≡◌, true, false, [], Some, sym, subst, ◌∙◌}
use Rattle.plugin_decl.specs.MessagePorts.{message_port}
use Rattle.plug_api.specs.Buffers.{begun_forge}
use Rattle.plug_api.specs.Ports.{room_of}
use Rattle.block_signals.specs.declared.messages.Messages.{Messages}
use Rattle.block_signals.specs.Messages.{Keeps, KeepsFor}
use Rattle.block_signals.proofs.Keeping.{keeps_none}
use Rattle.block_signals.proofs.Patching.{room_found, patch_within}
use Rattle.block_signals.proofs.messages.Messages.of.Goals as goal

pub bounds-as_slice-port : goal.bounds-as_slice-port
bounds-as_slice-port c =
    patch_within c.args.decl.now c.in-Some.port c.as_slice.result.now c.requires (sym c.patch_port.ensures ∙ c.in-Some.is) c.as_slice.ensures

pub bounds-as_slice-port-in-Some : goal.bounds-as_slice-port-in-Some
bounds-as_slice-port-in-Some c =
    patch_within c.args.decl.now c.in-Some.port c.as_slice.result.now c.requires (sym c.patch_port.ensures ∙ c.in-Some.is) c.as_slice.ensures

pub with_room-requires : goal.with_room-requires
with_room-requires c =
    (room_found c.args.decl.now c.in-Some.port c.as_slice.result.now c.index-as_slice-port.result c.requires (sym c.patch_port.ensures ∙ c.in-Some.is) c.as_slice.ensures).0

pub returns : goal.returns
returns c =
    let at : message_port true c.args.decl.now.ports ≡ Some c.in-Some.port = sym c.patch_port.ensures ∙ c.in-Some.is in
    let found = room_found c.args.decl.now c.in-Some.port c.as_slice.result.now c.index-as_slice-port.result c.requires at c.as_slice.ensures in
    subst (λ (kept : Messages). KeepsFor c.args.decl.now.ports [] (Some kept)) (sym c.in_ok-messages.ensures) (
      at,
      subst (λ room. Keeps (room_of c.args.decl.now.ports c.in-Some.port) [] (record { port = c.in-Some.port; forge = begun_forge room; full = false })) (sym found.1)
          (keeps_none (room_of c.args.decl.now.ports c.in-Some.port) c.in-Some.port),
    )
