use Rattle.std.proofs.Common.{◌++◌, ◌∷◌, [], length, set, ap, sym, subst, ◌∙◌, refl, arith}
use Rattle.std.specs.Option.{option_map_or}
use Rattle.triple_store.specs.Index.{AreIndexed}
use Rattle.triple_store.specs.declared.subjects.Ends.{Ends}
use Rattle.triple_store.proofs.Indexed.{front_of, last_within, indexed-first, indexed-further}
use Rattle.triple_store.proofs.subjects.Subjects.add.Goals as goal

pub index_mut-requires : goal.index_mut-requires
index_mut-requires c =
    let whole = c.in-Some.ensures.cases.0 in
    let old : AreIndexed c.args.self.now c.in-Some.front.now = subst (AreIndexed c.args.self.now) (front_of c.args.rows.now c.in-Some.front.now c.in-Some.row.now whole) c.requires.indexed in
    let within = last_within c.args.self.now c.in-Some.front.now c.in-Some.row.now.s c.in-Some-2.before old (sym c.in_ok-before.ensures.before ∙ c.in-Some-2.is) in
    omega (arith, within, c.reserve.ensures.len, c.args.self.now.next.ok)

pub returns-in-Some-2-clause-ok : goal.returns-in-Some-2-clause-ok
returns-in-Some-2-clause-ok c =
    let whole = c.in-Some.ensures.cases.0 in
    let old : AreIndexed c.args.self.now c.in-Some.front.now = subst (AreIndexed c.args.self.now) (front_of c.args.rows.now c.in-Some.front.now c.in-Some.row.now whole) c.requires.indexed in
    let before = c.in-Some-2.before in
    indexed-further c.args.self.now _ c.in-Some.front.now c.args.rows.now c.in-Some.row.now before _ (length c.in-Some.front.now) old whole refl
    (sym c.in_ok-before.ensures.before ∙ c.in-Some-2.is) c.in_ok-before.ensures.after (ap (λ o. option_map_or Ends.first o (length c.in-Some.front.now)) c.in-Some-2.is) refl
    (c.push_reserved.ensures.items ∙ ap (λ l. set l before.last (length c.in-Some.front.now) ++ length c.in-Some.front.now ∷ []) c.reserve.ensures.items)
    (c.push_reserved-in-Some-2.ensures.items ∙ ap (λ l. l ++ before.last ∷ []) c.reserve-2.ensures.items)

pub returns-in-None-clause-ok : goal.returns-in-None-clause-ok
returns-in-None-clause-ok c =
    let whole = c.in-Some.ensures.cases.0 in
    let old : AreIndexed c.args.self.now c.in-Some.front.now = subst (AreIndexed c.args.self.now) (front_of c.args.rows.now c.in-Some.front.now c.in-Some.row.now whole) c.requires.indexed in
    indexed-first c.args.self.now _ c.in-Some.front.now c.args.rows.now c.in-Some.row.now _ (length c.in-Some.front.now) old whole refl
    (sym c.in_ok-before.ensures.before ∙ c.in-None.is) c.in_ok-before.ensures.after (ap (λ o. option_map_or Ends.first o (length c.in-Some.front.now)) c.in-None.is) refl
    (c.push_reserved-in-None.ensures.items ∙ ap (λ l. l ++ length c.in-Some.front.now ∷ []) c.reserve.ensures.items)
    (c.push_reserved-in-None-2.ensures.items ∙ ap (λ l. l ++ length c.in-Some.front.now ∷ []) c.reserve-2.ensures.items)
