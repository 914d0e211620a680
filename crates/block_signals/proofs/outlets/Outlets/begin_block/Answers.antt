use Rattle.std.proofs.Common.{◌≡◌, ap, sym, ◌∙◌, length, get_or, arith}
use Rattle.std.proofs.lemmas.List.Edits.{map_over_more}
use Rattle.block_signals.proofs.Outs.{begun_outlet}
use Rattle.block_signals.proofs.Shown.{begun_shows, went_over}
use Rattle.block_signals.proofs.outlets.Outlets.begin_block.Goals as goal

pub loop-outlet-preserved : goal.loop-outlet-preserved
loop-outlet-preserved c =
    let begun : c.begin_block.new.self ≡ begun_outlet (get_or c.loop-outlet.outlet-items c.loop-outlet.outlet-index c.outlet-item.result) =
    λ t. record { now = c.begin_block.ensures.now t; before = c.begin_block.ensures.before t } in
    rw (begun ∙ ap begun_outlet (sym c.outlet-item.is))
    (map_over_more begun_outlet c.deref_mut-outlet-items.result.now c.loop-outlet.outlet-items c.loop-outlet.outlet-index c.outlet-item.result
    (omega arith) c.loop-outlet.invariant c.outlet-item.is)

pub returns : goal.returns
returns c = λ setup board ready shown.
    let same = c.deref_mut-outlet-items.ensures.value in
    begun_shows setup board c.args.self.now _ ready shown
    (went_over begun_outlet c.args.self.now.each.items c.loop-outlet.outlet-items c.args.self.now.each.len c.loop-outlet.outlet-index
    (omega (arith, c.deref_mut-outlet-items.ensures.len, ap length same)) (omega (arith, ap length same)) (rw same at c.loop-outlet.invariant))
