use Rattle.std.proofs.Common.{sym, subst}
use Rattle.record_terms.specs.Session.{IsSession}
use Rattle.setup_shape.proofs.Sessions.{is_session}
use Rattle.setup_shape.proofs.shape_of.Goals as goal

pub returns-clause-session : goal.returns-clause-session
returns-clause-session c =
    let plan = c.in_ok-plan.ensures in
    let insts = c.in_ok-insts.ensures in
    let actions = c.in_ok-actions.ensures in
    subst IsSession
    (λ t. record {
      blocks = c.args.setup.now.session.blocks;
      cells = c.args.setup.now.session.cells;
      workers = c.args.setup.now.session.workers;
      plan = sym plan t;
      insts = sym insts t;
      actions = sym actions t;
    })
    (is_session c.args.setup.now c.requires)
