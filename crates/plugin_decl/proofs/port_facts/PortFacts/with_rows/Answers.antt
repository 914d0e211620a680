use Rattle.std.proofs.Common.{◌≡◌, ◌∷◌, subst}
use Rattle.plugin_decl.proofs.PortFacts.{SoFar, seen-more}
use Rattle.plugin_decl.proofs.port_facts.PortFacts.with_rows.Goals as goal

pub loop-row-preserved : goal.loop-row-preserved
loop-row-preserved c =
    let first : c.loop-row.row-iterator ≡ c.in-Some.row.now ∷ c.next.new.self = cc (c.in-Some.ensures.steps) in
    let so_far = subst (λ left. SoFar c.args.rows left c.loop-row.facts) first c.loop-row.invariant.2 in
    (tt, tt, seen-more c.args.rows c.next.new.self c.in-Some.row.now c.loop-row.facts c.with_row-facts.result so_far c.with_row-facts.ensures)
