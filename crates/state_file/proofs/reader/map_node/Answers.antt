use Rattle.std.proofs.Common.{◌++◌, Some, sym, subst, ◌∙◌}
use Rattle.std.specs.Prelude.{option_to_list}
use Rattle.state_file.specs.States.{about, key_in, kind_in}
use Rattle.state_file.specs.Rules.{uris_of}
use Rattle.state_file.specs.Ready.{AreMappedBefore, IsStopped}
use Rattle.state_file.proofs.Mapping.{before-all, before-rest, stopped-later, passed-on}
use Rattle.state_file.proofs.reader.map_node.Goals as goal

pub loop-property-init : goal.loop-property-init
loop-property-init c =
    let u = c.args.urids.now in
    let all = uris_of c.args.store.now (about c.args.store.now (Some c.args.node.now)) in (
      tt,
      tt,
      subst (λ left. AreMappedBefore u all (uris_of c.args.store.now left) u) (sym (c.into_iter-property-iterator.ensures.into_iter_gives ∙ c.properties-property-items.ensures)) (before-all u all),
    )

pub loop-property-preserved : goal.loop-property-preserved
loop-property-preserved c =
    let u = c.args.urids.now in
    let all = uris_of c.args.store.now (about c.args.store.now (Some c.args.node.now)) in
    let so = subst (λ left. AreMappedBefore u all (uris_of c.args.store.now left) c.loop-property.urids) c.in-Some.ensures.steps c.loop-property.invariant.2 in (
      tt,
      tt,
      before-rest u all (option_to_list (key_in c.in-Some.property.now) ++ option_to_list (kind_in c.args.store.now c.in-Some.property.now)) (uris_of c.args.store.now c.next.new.self) c.loop-property.urids c.map_property.new.urids so c.in_ok-map_property.ensures.ok,
    )

pub returns-in_err-map_property-clause-err : goal.returns-in_err-map_property-clause-err
returns-in_err-map_property-clause-err c =
    let u = c.args.urids.now in
    let all = uris_of c.args.store.now (about c.args.store.now (Some c.args.node.now)) in
    let so = subst (λ left. AreMappedBefore u all (uris_of c.args.store.now left) c.loop-property.urids) c.in-Some.ensures.steps c.loop-property.invariant.2 in
    passed-on (λ fault. IsStopped u all fault c.map_property.new.urids) c.from_residual.result c.in_err-map_property.field-0.0 c.from_residual.ensures.1
    (stopped-later u all (option_to_list (key_in c.in-Some.property.now) ++ option_to_list (kind_in c.args.store.now c.in-Some.property.now)) (uris_of c.args.store.now c.next.new.self) c.loop-property.urids c.map_property.new.urids c.in_err-map_property.field-0.0 so c.in_err-map_property.ensures.err)
