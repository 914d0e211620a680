use Rattle.std.proofs.Common.{◌≡◌, false, sym, ◌∙◌, below_more, arith}
use Rattle.plugin_decl.specs.Rules.{repeats_symbol}
use Rattle.plugin_decl.proofs.PortTests.{repeats-at, repeats-all}
use Rattle.plugin_decl.proofs.checks.first_same_symbol.Goals as goal

pub returns-then-is_symbol_of-clause-first : goal.returns-then-is_symbol_of-clause-first
returns-then-is_symbol_of-clause-first c =
    let at = repeats-at c.args.ports.now c.loop-i.i c.index-ports-i.result (omega arith) c.index-ports-i.is in
    (at ∙ sym c.is_symbol_of.ensures ∙ c.if-is_symbol_of.true, c.loop-i.invariant)

pub loop-i-preserved : goal.loop-i-preserved
loop-i-preserved c =
    let at = repeats-at c.args.ports.now c.loop-i.i c.index-ports-i.result (omega arith) c.index-ports-i.is in
    below_more (λ k. repeats_symbol c.args.ports.now k ≡ false) c.loop-i.i c.loop-i.invariant (at ∙ sym c.is_symbol_of.ensures ∙ c.if-is_symbol_of.false)

pub returns-clause-first : goal.returns-clause-first
returns-clause-first c = repeats-all c.args.ports.now c.loop-i.i (omega arith) c.loop-i.invariant
