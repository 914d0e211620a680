use Rattle.std.proofs.Common.{◌∷◌, Some, subst, sym, ◌∙◌, ap}
use Rattle.triple_store.specs.Chain.{rows_left, IsChain}
use Rattle.triple_store.proofs.Walk.{step_gives, step_keeps, row_at}
use Rattle.triple_store.proofs.candidates.Chain.next.Goals as goal

pub invariant_of-self : goal.invariant_of-self
invariant_of-self c =
    let chain : IsChain c.self.inside.rows.now c.self.inside.next.now (Some c.in_ok-ends.ends) = subst (IsChain c.self.inside.rows.now c.self.inside.next.now) c.in_ok-ends.was c.self.invariant in
    step_keeps c.self.inside.rows.now c.self.inside.next.now c.in_ok-ends.ends c.after-self-inside.result c.index-self-ends.result chain
    (row_at c.self.inside.rows.now c.self.inside.next.now c.in_ok-ends.ends c.index-self-ends.result chain c.index-self-ends.is) c.after-self-inside.ensures

pub returns : goal.returns
returns c =
    let chain : IsChain c.self.inside.rows.now c.self.inside.next.now (Some c.in_ok-ends.ends) = subst (IsChain c.self.inside.rows.now c.self.inside.next.now) c.in_ok-ends.was c.self.invariant in
    sym c.self.view_is ∙ ap (rows_left c.self.inside.rows.now) c.in_ok-ends.was
    ∙ step_gives c.self.inside.rows.now c.self.inside.next.now c.in_ok-ends.ends c.after-self-inside.result c.index-self-ends.result chain
    (row_at c.self.inside.rows.now c.self.inside.next.now c.in_ok-ends.ends c.index-self-ends.result chain c.index-self-ends.is) c.after-self-inside.ensures
    ∙ ap (λ row. row ∷ rows_left c.self.inside.rows.now c.after-self-inside.result) c.index-self-ends.is
