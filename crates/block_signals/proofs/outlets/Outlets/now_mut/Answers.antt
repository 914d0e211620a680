use Rattle.std.proofs.Common.{◌≡◌, refl, ap}
use Rattle.std.specs.Vec.{with_item}
use Rattle.std.proofs.lemmas.List.{get_or_read}
use Rattle.block_signals.specs.declared.outlet.Outlet.{Outlet}
use Rattle.block_signals.specs.Lending.{outlet_at}
use Rattle.block_signals.proofs.outlets.Outlets.now_mut.Goals as goal

pub returns : goal.returns
returns c =
    let same : c.index_mut-outlet.result.now ≡ outlet_at c.args.self.now c.args.inst =
    get_or_read _ _ _ c.requires c.index_mut-outlet.ensures.value _ in (
      (refl, λ w. ap (λ (o : Outlet). record c.args.self.now { each = with_item c.args.self.now.each c.args.inst (record o { now = w }) }) same),
      record { writes_back = tt; value = ap (λ (o : Outlet). o.now) same },
    )
