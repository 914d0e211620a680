use Rattle.std.proofs.Common.{sym, ap, length, arith}
use Rattle.block_signals.proofs.Shown.{decl_valid}
use Rattle.block_signals.proofs.Sources.{index_within}
use Rattle.block_signals.proofs.source.source_of.Goals as goal

pub place_in-requires-clause-within : goal.place_in-requires-clause-within
place_in-requires-clause-within c =
    let valid = decl_valid c.args.setup.now c.args.inst c.in_ok-decl.decl.now c.requires (sym c.in_ok-decl.ensures.value) in
    let within = index_within c.in_ok-decl.decl.now c.args.symbol.now c.in_ok-output.output.now valid (sym c.in_ok-output.ensures) in
    omega (arith, within, ap length c.as_slice.ensures)
