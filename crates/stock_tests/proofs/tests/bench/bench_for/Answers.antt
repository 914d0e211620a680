use Rattle.std.proofs.Common.{◌≡◌, ap, sym, ◌∙◌, subst}
use Rattle.plug_api.specs.Buffers.{Given}
use Rattle.plug_api.specs.Fresh.{fresh_inputs}
use Rattle.stock_tests.specs.Bench.{frames, AreIns}
use Rattle.stock_tests.proofs.Places.{fresh_ins}
use Rattle.stock_tests.proofs.tests.bench.bench_for.Goals as goal

pub returns : goal.returns
returns c =
    let ports = c.in_ok-decl.decl.ports in
    let fresh : c.in_ok-ins.ins ≡ fresh_inputs ports frames = c.in_ok-ins.ensures ∙ ap (λ ps. fresh_inputs ps frames) c.as_slice.ensures in
    record { valid = c.in_ok-decl.ensures; ins = subst (λ (given : Given). AreIns ports given) (sym fresh) (fresh_ins ports) }
