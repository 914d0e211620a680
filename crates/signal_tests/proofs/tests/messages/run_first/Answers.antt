use Rattle.std.proofs.Common.{◌≡◌, ℕ, ◌<◌, false, List, [], ◌∷◌, length, refl, sym, ap, subst, ◌∙◌, arith}
use Rattle.atom_forge.specs.Forged.{Forged, with_piece}
use Rattle.plug_api.specs.Buffers.{Left, forge_at, with_forge, begun_forge}
use Rattle.plug_api.specs.Inputs.{Outputs}
use Rattle.plug_api.specs.Running.{AreOutputs}
use Rattle.plug_api.specs.Signal.{events}
use Rattle.session_play.specs.Setup.{ports_of}
use Rattle.block_signals.specs.Board.{blank, with_run}
use Rattle.block_signals.specs.Lending.{now_at, with_now}
use Rattle.block_signals.specs.Outlets.{ShowsOutputs}
use Rattle.block_signals.proofs.Ran.{not_run_is_quiet, run_is_shown}
use Rattle.signal_tests.proofs.Sent.{three_bytes, three_long, three_timed}
use Rattle.signal_tests.proofs.Two.{two_ports, ports_two}
use Rattle.signal_tests.proofs.tests.messages.run_first.Goals as goal

pub now_mut-outs-requires : goal.now_mut-outs-requires
now_mut-outs-requires c = omega (arith, c.requires.shows.all, c.requires.echoes.two)

pub forge_mut-requires : goal.forge_mut-requires
forge_mut-requires c =
    let setup = c.args.setup.now in
    let inside : 0 < length c.args.outlets.now.each.items = omega (arith, c.requires.shows.all, c.requires.echoes.two) in
    let has = two_ports setup.session.block (ports_of setup 0) (ports_two setup 0 c.requires.echoes (omega arith)).2 in
    let is : c.now_mut-outs.result.now.forges ≡ begun_forge 4096 ∷ [] =
    ap (λ (left : Left). left.forges) (c.now_mut-outs.ensures.value ∙ not_run_is_quiet setup blank c.args.outlets.now 0 c.requires.shows inside refl) ∙ has.quiet in
    omega (arith, ap length is)

pub write_three-requires : goal.write_three-requires
write_three-requires c =
    let setup = c.args.setup.now in
    let inside : 0 < length c.args.outlets.now.each.items = omega (arith, c.requires.shows.all, c.requires.echoes.two) in
    let has = two_ports setup.session.block (ports_of setup 0) (ports_two setup 0 c.requires.echoes (omega arith)).2 in
    let is : c.now_mut-outs.result.now.forges ≡ begun_forge 4096 ∷ [] =
    ap (λ (left : Left). left.forges) (c.now_mut-outs.ensures.value ∙ not_run_is_quiet setup blank c.args.outlets.now 0 c.requires.shows inside refl) ∙ has.quiet in
    c.forge_mut.ensures.value ∙ ap (λ (forges : List Forged). forge_at forges 0) is

pub returns : goal.returns
returns c =
    let setup = c.args.setup.now in
    let outlets = c.args.outlets.now in
    let inside : 0 < length outlets.each.items = omega (arith, c.requires.shows.all, c.requires.echoes.two) in
    let has = two_ports setup.session.block (ports_of setup 0) (ports_two setup 0 c.requires.echoes (omega arith)).2 in
    let outputs : Outputs = (1, events three_bytes) ∷ [] in
    let fit : AreOutputs (ports_of setup 0) setup.session.block outputs =
    ((has.there, omega (arith, has.space, three_long), three_timed setup.session.block c.requires.frames), refl, tt) in
    let shown = run_is_shown setup blank outlets 0 outputs c.requires.shows inside refl fit in
    let wrote : c.write_three.new.forge ≡ with_piece (forge_at c.now_mut-outs.result.now.forges 0) three_bytes false =
    c.write_three.ensures ∙ ap (λ (forge : Forged). with_piece forge three_bytes false) c.forge_mut.ensures.value in
    let same : with_forge (now_at outlets 0) 0 (with_piece (forge_at (now_at outlets 0).forges 0) three_bytes false) ≡ with_forge c.now_mut-outs.result.now 0 c.write_three.new.forge =
    ap (λ (left : Left). with_forge left 0 (with_piece (forge_at left.forges 0) three_bytes false)) (sym c.now_mut-outs.ensures.value)
    ∙ ap (with_forge c.now_mut-outs.result.now 0) (sym wrote) in (
      with_run blank 0 outputs,
      subst (λ (left : Left). ShowsOutputs setup (with_run blank 0 outputs) (with_now outlets 0 left)) same
          (subst (λ (place : ℕ). ShowsOutputs setup (with_run blank 0 outputs)
          (with_now outlets 0 (with_forge (now_at outlets 0) place (with_piece (forge_at (now_at outlets 0).forges place) three_bytes false)))) has.place shown),
    )
