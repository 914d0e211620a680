use Rattle.std.proofs.Common.{◌≡◌, ◌+◌, Bool, List, [], length, get_or, sym, ◌∙◌, ap, arith}
use Rattle.std.proofs.lemmas.List.{get_or_read}
use Rattle.graph_order.specs.Search.{is_marked}
use Rattle.graph_order.proofs.Rows.{row-behind, searched, rows-more}
use Rattle.graph_order.proofs.cycle.rows_back.Goals as goal

pub returns-then-as_slice-inst-clause-some : goal.returns-then-as_slice-inst-clause-some
returns-then-as_slice-inst-clause-some c =
    let long : length c.loop-steps.rows ≡ c.loop-steps.steps + 1 = (c.loop-steps.invariant).0 in
    let same : length c.as_slice.result.now ≡ length c.loop-steps.rows = ap length c.as_slice.ensures in
    let read = get_or_read c.as_slice.result.now c.loop-steps.steps c.index-as_slice-steps.result (omega arith) c.index-as_slice-steps.is [] in
    let row = row-behind c.args.cables.now c.args.inst c.args.count c.loop-steps.steps c.loop-steps.rows c.as_slice-in-loop-steps.result.now c.in_ok-row.row c.requires.within (c.loop-steps.invariant).1 (omega arith) (c.as_slice-in-loop-steps.ensures ∙ read ∙ ap (λ (rs : List (List Bool)). get_or rs c.loop-steps.steps []) c.as_slice.ensures) c.in_ok-row.ensures in
    searched c.args.cables.now c.args.inst c.args.count (c.loop-steps.steps + 1) c.loop-steps.rows c.in_ok-row.row c.requires.there long (omega arith) (c.loop-steps.invariant).1 (c.loop-steps.invariant).2 row (sym (ap (λ (bs : List Bool). is_marked bs c.args.inst) c.as_slice-in-loop-steps-2.ensures) ∙ c.if-as_slice-inst.true)

pub loop-steps-preserved : goal.loop-steps-preserved
loop-steps-preserved c =
    let long : length c.loop-steps.rows ≡ c.loop-steps.steps + 1 = (c.loop-steps.invariant).0 in
    let same : length c.as_slice.result.now ≡ length c.loop-steps.rows = ap length c.as_slice.ensures in
    let read = get_or_read c.as_slice.result.now c.loop-steps.steps c.index-as_slice-steps.result (omega arith) c.index-as_slice-steps.is [] in
    let row = row-behind c.args.cables.now c.args.inst c.args.count c.loop-steps.steps c.loop-steps.rows c.as_slice-in-loop-steps.result.now c.in_ok-row.row c.requires.within (c.loop-steps.invariant).1 (omega arith) (c.as_slice-in-loop-steps.ensures ∙ read ∙ ap (λ (rs : List (List Bool)). get_or rs c.loop-steps.steps []) c.as_slice.ensures) c.in_ok-row.ensures in
    rows-more c.args.cables.now c.args.inst c.args.count (c.loop-steps.steps + 1) c.loop-steps.rows c.push-in-loop-steps.new.self c.in_ok-row.row c.requires.there long (c.loop-steps.invariant).1 (c.loop-steps.invariant).2 row (sym (ap (λ (bs : List Bool). is_marked bs c.args.inst) c.as_slice-in-loop-steps-2.ensures) ∙ c.if-as_slice-inst.false) c.in_ok-push-2.ensures.ok
