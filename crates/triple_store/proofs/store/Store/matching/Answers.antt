use Rattle.std.proofs.Common.{◌∙◌, ap, subst, sym}
use Rattle.std.specs.Option.{option_copied}
use Rattle.triple_store.specs.Index.{AreIndexed}
use Rattle.triple_store.proofs.Walk.{chain_of, matching_chain}
use Rattle.triple_store.proofs.store.Store.matching.Goals as goal

pub new-chain-requires : goal.new-chain-requires
new-chain-requires c =
    chain_of c.self.inside.subjects c.as_slice-rows.result.now c.as_slice.result.now c.in-Some.subject.now c.ends-left.result
    (subst (AreIndexed c.self.inside.subjects) (sym c.as_slice-rows.ensures.value) c.self.invariant.indexed) c.as_slice.ensures.value c.ends-left.ensures

pub returns-in-Some : goal.returns-in-Some
returns-in-Some c =
    matching_chain c.self.inside.subjects c.as_slice-rows.result.now c.args.self.now (option_copied c.args.s) (option_copied c.args.p) (option_copied c.args.o) c.in-Some.subject.now c.ends-left.result c.new-chain.result c.new-in-Some.result
    (subst (AreIndexed c.self.inside.subjects) (sym c.as_slice-rows.ensures.value) c.self.invariant.indexed) (c.as_slice-rows.ensures.value ∙ c.self.view_is) (ap option_copied c.in-Some.is) c.ends-left.ensures c.new-chain.ensures c.new-in-Some.ensures
