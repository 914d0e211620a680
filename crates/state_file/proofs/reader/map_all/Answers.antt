use Rattle.std.proofs.Common.{sym, subst, ◌∙◌}
use Rattle.state_file.specs.States.{states_in, properties_in}
use Rattle.state_file.specs.Rules.{uris_of, uris_for, uris_in}
use Rattle.state_file.specs.Ready.{AreMappedBefore, IsStopped}
use Rattle.state_file.proofs.Mapping.{before-all, before-rest, stopped-later, passed-on}
use Rattle.state_file.proofs.reader.map_all.Goals as goal

pub loop-state-init : goal.loop-state-init
loop-state-init c =
    let u = c.args.urids.now in
    let all = uris_for c.args.store.now (states_in c.args.store.now) in (
      tt,
      tt,
      subst (λ left. AreMappedBefore u all (uris_for c.args.store.now left) u) (sym (c.into_iter-state-iterator.ensures.into_iter_gives ∙ c.states-state-items.ensures)) (before-all u all),
    )

pub loop-state-preserved : goal.loop-state-preserved
loop-state-preserved c =
    let u = c.args.urids.now in
    let all = uris_for c.args.store.now (states_in c.args.store.now) in
    let so = subst (λ left. AreMappedBefore u all (uris_for c.args.store.now left) c.loop-state.urids) c.in-Some.ensures.steps c.loop-state.invariant.2 in (
      tt,
      tt,
      before-rest u all (uris_of c.args.store.now (properties_in c.args.store.now c.in-Some.state.now)) (uris_for c.args.store.now c.next.new.self) c.loop-state.urids c.map_state.new.urids so c.in_ok-map_state.ensures.ok,
    )

pub returns-in_err-map_state-clause-err : goal.returns-in_err-map_state-clause-err
unfolding uris_in
returns-in_err-map_state-clause-err c =
    let u = c.args.urids.now in
    let all = uris_for c.args.store.now (states_in c.args.store.now) in
    let so = subst (λ left. AreMappedBefore u all (uris_for c.args.store.now left) c.loop-state.urids) c.in-Some.ensures.steps c.loop-state.invariant.2 in
    passed-on (λ fault. IsStopped u all fault c.map_state.new.urids) c.from_residual.result c.in_err-map_state.field-0.0 c.from_residual.ensures.1
    (stopped-later u all (uris_of c.args.store.now (properties_in c.args.store.now c.in-Some.state.now)) (uris_for c.args.store.now c.next.new.self) c.loop-state.urids c.map_state.new.urids c.in_err-map_state.field-0.0 so c.in_err-map_state.ensures.err)
