use Rattle.std.proofs.Common.{◌≡◌, length, map, sym, subst}
use Rattle.plugin_decl.specs.declared.declaration.Port.{Port}
use Rattle.plug_api.specs.Buffers.{Left, fresh_outputs, silenced}
use Rattle.stock_tests.specs.Bench.{frames, AreOuts}
use Rattle.stock_tests.proofs.Places.{fresh_outs}
use Rattle.stock_tests.proofs.tests.bench.silent_outs.Goals as goal

pub returns : goal.returns
returns c =
    let decl = c.args.decl.now in
    let count = length decl.ports in
    let outs : c.silence.new.self ≡ silenced (fresh_outputs count frames count (map (λ (port : Port). port.room) decl.ports)) =
    cc (c.in_ok-outs.ensures, c.in_ok-rooms.ensures, c.as_slice.ensures, c.as_slice-2.ensures, c.as_slice-3.ensures.value, c.silence.ensures) in
    subst (λ (left : Left). AreOuts decl.ports left) (sym outs) (fresh_outs decl c.requires)
