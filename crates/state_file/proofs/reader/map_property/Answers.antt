use Rattle.std.proofs.Common.{◌≡◌, ◌++◌, ap, sym, subst, ◌∙◌}
use Rattle.std.specs.Prelude.{option_to_list}
use Rattle.std.proofs.lemmas.Result.{on_ok_weaker, IfErr-weaker}
use Rattle.urid_map.specs.Numbers.{with_uris}
use Rattle.state_file.specs.States.{key_in, kind_in}
use Rattle.state_file.specs.Ready.{IsStopped}
use Rattle.state_file.proofs.Held.{mapped-two}
use Rattle.state_file.proofs.Mapping.{passed-on, stopped-first, stopped-second}
use Rattle.state_file.proofs.reader.map_property.Goals as goal

pub returns-in_err-map_one-clause-err : goal.returns-in_err-map_one-clause-err
returns-in_err-map_one-clause-err c =
    let u = c.args.urids.now in
    let a = option_to_list (key_in c.args.property.now) in
    let b = option_to_list (kind_in c.args.store.now c.args.property.now) in
    passed-on (λ fault. IsStopped u (a ++ b) fault c.map_one.new.urids) c.from_residual.result c.in_err-map_one.field-0.0 c.from_residual.ensures.1
    (stopped-first u a b c.map_one.new.urids c.in_err-map_one.field-0.0
    (subst (λ l. IsStopped u l c.in_err-map_one.field-0.0 c.map_one.new.urids) (ap option_to_list c.key.ensures.value) c.in_err-map_one.ensures.err))

pub returns-clause-ok : goal.returns-clause-ok
returns-clause-ok c =
    let u = c.args.urids.now in
    let a = option_to_list (key_in c.args.property.now) in
    let b = option_to_list (kind_in c.args.store.now c.args.property.now) in
    let first : c.map_one.new.urids ≡ with_uris u a = c.in_ok-map_one.ensures.ok ∙ ap (λ k. with_uris u (option_to_list k)) c.key.ensures.value in
    on_ok_weaker c.map_one-2.result
    (λ last. last ∙ (ap (λ k. with_uris c.map_one.new.urids (option_to_list k)) c.kind.ensures.value ∙ (ap (λ v. with_uris v b) first ∙ sym (mapped-two u a b))))
    c.map_one-2.ensures.ok

pub returns-clause-err : goal.returns-clause-err
returns-clause-err c =
    let u = c.args.urids.now in
    let a = option_to_list (key_in c.args.property.now) in
    let b = option_to_list (kind_in c.args.store.now c.args.property.now) in
    let first : c.map_one.new.urids ≡ with_uris u a = c.in_ok-map_one.ensures.ok ∙ ap (λ k. with_uris u (option_to_list k)) c.key.ensures.value in
    IfErr-weaker c.map_one-2.result _ _
    (λ fault stop. stopped-second u a b c.map_one.new.urids c.map_one-2.new.urids fault first
    (subst (λ k. IsStopped c.map_one.new.urids (option_to_list k) fault c.map_one-2.new.urids) c.kind.ensures.value stop))
    c.map_one-2.ensures.err
