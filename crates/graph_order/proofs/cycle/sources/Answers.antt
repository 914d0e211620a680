use Rattle.std.proofs.Common.{Bool, List, ◌+◌, ◌<◌, not, length, take, sym, ◌∙◌, subst, arith}
use Rattle.std.proofs.lemmas.Bool.{and_left, and_right, not_from_true, not_from_false}
use Rattle.session_script.specs.declared.session.CableLine.{CableLine}
use Rattle.graph_order.specs.Search.{is_marked, IsRowOf}
use Rattle.graph_order.specs.Wiring.{feeds_some}
use Rattle.graph_order.proofs.Rows.{mark-none, mark-set, mark-skip}
use Rattle.graph_order.proofs.cycle.sources.Goals as goal
use Rattle.graph_order.proofs.cycle.sources.Goals.{then-not-cable+then-marked-cable, else-not-cable, else-not-cable-via-then-not-cable+else-marked-cable, else-not-cable-via-else-not-cable}

pub loop-cable-init : goal.loop-cable-init
loop-cable-init c = mark-none c.args.cables.now (is_marked c.args.marked.now) (length c.args.marked.now) c.in_ok-row.row c.in_ok-row.ensures

pub loop-cable-preserved : goal.loop-cable-preserved
loop-cable-preserved c =
    let Row : List Bool → Type 0 = λ row. IsRowOf (feeds_some (take (c.loop-cable.cable-index + 1) c.args.cables.now) (is_marked c.args.marked.now)) (length c.args.marked.now) row in
    let there : c.loop-cable.cable-index < length c.args.cables.now = omega arith in
    let Source : CableLine → Type 0 = λ cable. cable.source < length c.args.marked.now in
    let source : Source c.cable-item.result = subst Source (sym c.cable-item.is) ((c.requires c.loop-cable.cable-index c.cable-item.result there).0) in
    elim c.if-not-cable.branch [
      | then-not-cable+then-marked-cable w ↦ subst Row (sym (w.row-is ∙ w.set.ensures))
          (mark-set c.args.cables.now (is_marked c.args.marked.now) (length c.args.marked.now) c.loop-cable.cable-index c.cable-item.result c.loop-cable.row there (sym c.cable-item.is) source (not_from_false c.cable-item.result.delayed w.if-not-cable.true) w.if-marked-cable.true c.loop-cable.invariant)
      | else-not-cable w ↦ subst Row (sym w.row-is)
          (mark-skip c.args.cables.now (is_marked c.args.marked.now) (length c.args.marked.now) c.loop-cable.cable-index c.cable-item.result c.loop-cable.row there (sym c.cable-item.is)
          (elim w.else-not-cable.branch [
            | else-not-cable-via-then-not-cable+else-marked-cable v ↦ and_right (not c.cable-item.result.delayed) (is_marked c.args.marked.now c.cable-item.result.target) v.if-marked-cable.false
            | else-not-cable-via-else-not-cable v ↦ and_left (not c.cable-item.result.delayed) (is_marked c.args.marked.now c.cable-item.result.target) (not_from_true c.cable-item.result.delayed v.if-not-cable.false)
          ]) c.loop-cable.invariant)
    ]
