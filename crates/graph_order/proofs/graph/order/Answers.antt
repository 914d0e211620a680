use Rattle.std.proofs.Common.{length, sym, ◌∙◌}
use Rattle.graph_order.proofs.Answers.{wires-at, wired-lawful, wired-planned, wired-refused}
use Rattle.graph_order.proofs.graph.order.Goals as goal

pub returns-clause-lawful : goal.returns-clause-lawful
returns-clause-lawful c =
    wired-lawful c.args.session.now.cables (length c.args.session.now.insts) c.wire.result c.requires.session.cables (wires-at c.args.session.now c.as_slice.result.now c.len.result c.wire.result c.as_slice.ensures c.len.ensures c.wire.ensures)

pub returns-clause-planned : goal.returns-clause-planned
returns-clause-planned c =
    wired-planned c.args.session.now c.args.decls.now c.wire.result c.requires.session.cables (wires-at c.args.session.now c.as_slice.result.now c.len.result c.wire.result c.as_slice.ensures c.len.ensures c.wire.ensures)

pub returns-clause-refused : goal.returns-clause-refused
returns-clause-refused c =
    wired-refused c.args.session.now c.args.decls.now c.wire.result (sym c.first_broken.ensures ∙ c.in_default.is) c.requires.session.cables (wires-at c.args.session.now c.as_slice.result.now c.len.result c.wire.result c.as_slice.ensures c.len.ensures c.wire.ensures)
