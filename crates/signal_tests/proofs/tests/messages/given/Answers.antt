use Rattle.std.proofs.Common.{◌≡◌, ◌<◌, [], length, refl, ap, sym, subst, ◌∙◌, arith}
use Rattle.std.proofs.Math.Logic.{∥∥₁_map}
use Rattle.atom_core.specs.Answer.{IsAtom}
use Rattle.atom_core.specs.Value.{sequence, holding}
use Rattle.plug_api.specs.Buffers.{Given, forge_at}
use Rattle.session_play.specs.Setup.{ports_of}
use Rattle.block_signals.specs.declared.inlet.Inlet.{Inlet}
use Rattle.block_signals.specs.Board.{Board}
use Rattle.block_signals.specs.Inlets.{HoldsInputs}
use Rattle.block_signals.specs.Lent.{IsFilled}
use Rattle.block_signals.proofs.Lists.{item_there}
use Rattle.block_signals.proofs.Parts.{outputs_stay, values_stay}
use Rattle.graph_order.specs.declared.setup.Setup.{Setup}
use Rattle.signal_tests.specs.Echo.{AreEchoes}
use Rattle.signal_tests.proofs.Two.{two_ports, ports_two}
use Rattle.signal_tests.proofs.tests.messages.given.Goals as goal

-- what is known of outputs, and of inputs, together
abbrev both : Board → Board → Board
both outs ins = record ins { now = outs.now; before = outs.before }

pub fill-requires-clause-there : goal.fill-requires-clause-there
fill-requires-clause-there c = omega (arith, c.requires.holds.1.all, c.requires.echoes.two)

pub fill-requires-clause-known : goal.fill-requires-clause-known
fill-requires-clause-known c =
    let shows = c.requires.shows in
    let holds = c.requires.holds in (
      c.args.setup.now,
      both shows.0 holds.0,
      c.requires.ready,
      outputs_stay c.args.setup.now shows.0 (both shows.0 holds.0) c.args.outlets.now refl refl shows.1,
      values_stay c.args.setup.now holds.0 (both shows.0 holds.0) c.args.inlets.now refl refl holds.1,
    )

-- the input has its sequence
given_sequence : (setup : Setup) (board : Board) (inlet : Inlet) → AreEchoes setup → IsFilled setup board 1 inlet
    → (0 < length inlet.ins.events) × ((forge_at inlet.ins.events 0).levels ≡ []) × ∥ IsAtom (forge_at inlet.ins.events 0).bytes ∥₁
given_sequence setup board inlet echoes is =
    let has = two_ports setup.session.block (ports_of setup 1) (ports_two setup 1 echoes (omega arith)).2 in
    let one = is.events 0 has.input has.at has.takes in
    (one.there, one.sequence.closed, ∥∥₁_map one.sequence.spelled (λ x. (holding sequence x.0, x.1)))

pub ports-lent-requires : goal.ports-lent-requires
ports-lent-requires c =
    let setup = c.args.setup.now in
    let board = both c.requires.shows.0 c.requires.holds.0 in
    let shows = outputs_stay setup c.requires.shows.0 board c.args.outlets.now refl refl c.requires.shows.1 in
    let holds = values_stay setup c.requires.holds.0 board c.args.inlets.now refl refl c.requires.holds.1 in
    let after : HoldsInputs setup board c.fill.new.self = c.fill.ensures.kept setup board c.requires.ready shows holds in
    record { there = omega (arith, after.all, c.requires.echoes.two) }

pub events-requires-clause-place : goal.events-requires-clause-place
events-requires-clause-place c =
    let setup = c.args.setup.now in
    let board = both c.requires.shows.0 c.requires.holds.0 in
    let shows = outputs_stay setup c.requires.shows.0 board c.args.outlets.now refl refl c.requires.shows.1 in
    let holds = values_stay setup c.requires.holds.0 board c.args.inlets.now refl refl c.requires.holds.1 in
    let after : HoldsInputs setup board c.fill.new.self = c.fill.ensures.kept setup board c.requires.ready shows holds in
    let one = item_there c.fill.new.self.each.items 1 (omega (arith, after.all, c.requires.echoes.two)) in
    let given = given_sequence setup board one.0 c.requires.echoes (c.fill.ensures.filled setup board c.requires.ready shows holds one.0 one.1) in
    let ins = c.ports-lent.ensures.inputs one.0 one.1 in
    subst (λ (ins : Given). 0 < length ins.events) (sym ins) given.0

pub events-requires-clause-whole : goal.events-requires-clause-whole
events-requires-clause-whole c =
    let setup = c.args.setup.now in
    let board = both c.requires.shows.0 c.requires.holds.0 in
    let shows = outputs_stay setup c.requires.shows.0 board c.args.outlets.now refl refl c.requires.shows.1 in
    let holds = values_stay setup c.requires.holds.0 board c.args.inlets.now refl refl c.requires.holds.1 in
    let after : HoldsInputs setup board c.fill.new.self = c.fill.ensures.kept setup board c.requires.ready shows holds in
    let one = item_there c.fill.new.self.each.items 1 (omega (arith, after.all, c.requires.echoes.two)) in
    let given = given_sequence setup board one.0 c.requires.echoes (c.fill.ensures.filled setup board c.requires.ready shows holds one.0 one.1) in
    let ins = c.ports-lent.ensures.inputs one.0 one.1 in
    ap (λ (it : Given). (forge_at it.events 0).levels) ins ∙ given.1

pub events-requires-clause-atom : goal.events-requires-clause-atom
events-requires-clause-atom c =
    let setup = c.args.setup.now in
    let board = both c.requires.shows.0 c.requires.holds.0 in
    let shows = outputs_stay setup c.requires.shows.0 board c.args.outlets.now refl refl c.requires.shows.1 in
    let holds = values_stay setup c.requires.holds.0 board c.args.inlets.now refl refl c.requires.holds.1 in
    let after : HoldsInputs setup board c.fill.new.self = c.fill.ensures.kept setup board c.requires.ready shows holds in
    let one = item_there c.fill.new.self.each.items 1 (omega (arith, after.all, c.requires.echoes.two)) in
    let given = given_sequence setup board one.0 c.requires.echoes (c.fill.ensures.filled setup board c.requires.ready shows holds one.0 one.1) in
    let ins = c.ports-lent.ensures.inputs one.0 one.1 in
    subst (λ (it : Given). ∥ IsAtom (forge_at it.events 0).bytes ∥₁) (sym ins) given.2
