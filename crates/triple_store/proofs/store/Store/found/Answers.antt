use Rattle.std.proofs.Common.{Contains, sym, subst, true≢false, ◌∙◌}
use Rattle.triple_store.specs.Index.{AreIndexed}
use Rattle.triple_store.specs.Late.{late_of}
use Rattle.triple_store.proofs.Lates.{among, late-row, missing-few, missing-many}
use Rattle.triple_store.proofs.Walk.{chain_of, own_rows}
use Rattle.triple_store.proofs.store.Store.found.Goals as goal

pub new-chain-requires : goal.new-chain-requires
new-chain-requires c =
    chain_of c.self.inside.subjects c.as_slice.result.now c.as_slice-2.result.now c.args.triple.now.s c.ends-left.result
    (subst (AreIndexed c.self.inside.subjects) (sym c.as_slice.ensures.value) c.self.invariant.indexed) c.as_slice-2.ensures.value c.ends-left.ensures

pub returns-in-There : goal.returns-in-There
returns-in-There c =
    let own = own_rows c.self.inside.subjects c.as_slice.result.now c.args.self.now c.args.triple.now.s c.ends-left.result c.new-chain.result
    (subst (AreIndexed c.self.inside.subjects) (sym c.as_slice.ensures.value) c.self.invariant.indexed) (c.as_slice.ensures.value ∙ c.self.view_is) c.ends-left.ensures c.new-chain.ensures in
    among c.args.triple.now.s c.args.self.now c.args.triple.now (subst (λ rows. Contains rows c.args.triple.now) own c.in-There.ensures)

pub returns-in-Missing : goal.returns-in-Missing
returns-in-Missing c =
    let own = own_rows c.self.inside.subjects c.as_slice.result.now c.args.self.now c.args.triple.now.s c.ends-left.result c.new-chain.result
    (subst (AreIndexed c.self.inside.subjects) (sym c.as_slice.ensures.value) c.self.invariant.indexed) (c.as_slice.ensures.value ∙ c.self.view_is) c.ends-left.ensures c.new-chain.ensures in
    missing-few c.args.self.now c.new-chain.result c.args.triple.now own c.in-Missing.ensures.0 c.in-Missing.ensures.1

pub returns-in-Undecided : goal.returns-in-Undecided
returns-in-Undecided c =
    late-row c.args.self.now c.args.triple.now
    (subst (λ rows. Contains (late_of rows) c.args.triple.now) c.self.view_is (subst (λ rows. Contains rows c.args.triple.now) c.self.invariant.late.kept (c.has.ensures.0 c.if-has.true)))

pub returns-in-Undecided-2 : goal.returns-in-Undecided-2
returns-in-Undecided-2 c =
    let own = own_rows c.self.inside.subjects c.as_slice.result.now c.args.self.now c.args.triple.now.s c.ends-left.result c.new-chain.result
    (subst (AreIndexed c.self.inside.subjects) (sym c.as_slice.ensures.value) c.self.invariant.indexed) (c.as_slice.ensures.value ∙ c.self.view_is) c.ends-left.ensures c.new-chain.ensures in
    missing-many c.args.self.now c.new-chain.result c.args.triple.now own c.in-Undecided.ensures.0 c.in-Undecided.ensures.1
    (λ there. true≢false (sym (c.has.ensures.1 (subst (λ rows. Contains rows c.args.triple.now) (sym c.self.invariant.late.kept) (subst (λ rows. Contains (late_of rows) c.args.triple.now) (sym c.self.view_is) there))) ∙ c.if-has.false))
